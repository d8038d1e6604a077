-- Examples of the papers, computed from the definitions. Assumes nothing.
use Rattle.std.proofs.Common.{◌≡◌, ℕ, true, false, List, [], ◌∷◌, map, refl, Some, None}
use Rattle.prelude.specs.Lists.{cons_of, all_of}
use Rattle.idmap.specs.declared.Line.{Line}
use Rattle.idmap.specs.Lookup.{lookup_of, out, flip, back}
use Rattle.idmap.specs.Good.{fits_of, bounded_of, apart_side, apart_of, all_apart, good_of}
use Rattle.idmap.specs.Ranges.{one_has, lies_whole}
use Rattle.idmap.specs.Text.{pieces, filled, all_digits, decimal, decimal_of, numbers_of, three_of, line_of, text_lines, checked, map_lines}

abbrev line : ℕ → ℕ → ℕ → Line
line a b c = record { inside = a; parent = b; count = c }

-- `0 100000 65536`: 65535 is 165535; 65536 is unmapped
last_mapped : out (line 0 100000 65536 ∷ []) 65535 ≡ Some 165535
unfolding out
last_mapped = refl

first_unmapped : out (line 0 100000 65536 ∷ []) 65536 ≡ None
unfolding out
first_unmapped = refl

comes_back : back (line 0 100000 65536 ∷ []) 165535 ≡ Some 65535
unfolding out
comes_back = refl

-- lines `0 100000 10` and `10 100010 5`: a lookup counts to the end of its own line, though the next one goes on by the
-- same offset
abbrev adjoining : List Line
adjoining = line 0 100000 10 ∷ line 10 100010 5 ∷ []

ends_with_its_line : lookup_of adjoining 8 ≡ record { translated = Some 100008; reach = 2 }
unfolding lookup_of
ends_with_its_line = refl

starts_with_the_next : lookup_of adjoining 10 ≡ record { translated = Some 100010; reach = 5 }
unfolding lookup_of
starts_with_the_next = refl

none_past_the_lines : lookup_of adjoining 15 ≡ record { translated = None; reach = 0 }
unfolding lookup_of
none_past_the_lines = refl

counts_back : lookup_of (map flip adjoining) 100012 ≡ record { translated = Some 12; reach = 3 }
unfolding lookup_of
counts_back = refl

-- the fixed line of namespace 0 has all but the last value
all_whole_lem : lies_whole (line 0 0 4294967295 ∷ []) 0 4294967295 ≡ true
unfolding one_has lies_whole
all_whole_lem = refl

-- document 02, L6: of the lines `0 100000 10` and `10 100010 5` one has the IDs 8 and 9, and none has 8 to 11
in_one : lies_whole adjoining 8 2 ≡ true
unfolding one_has lies_whole
in_one = refl

across_two : lies_whole adjoining 8 4 ≡ false
unfolding one_has lies_whole
across_two = refl

-- "0 100000 10\n10 100010 5"
two_lines : map_lines (48 ∷ 32 ∷ 49 ∷ 48 ∷ 48 ∷ 48 ∷ 48 ∷ 48 ∷ 32 ∷ 49 ∷ 48 ∷ 10 ∷ 49 ∷ 48 ∷ 32 ∷ 49 ∷ 48 ∷ 48 ∷ 48 ∷ 49 ∷ 48 ∷ 32 ∷ 53 ∷ []) ≡ Some (line 0 100000 10 ∷ line 10 100010 5 ∷ [])
unfolding pieces filled cons_of all_of all_digits decimal decimal_of numbers_of three_of line_of text_lines checked map_lines fits_of bounded_of apart_side apart_of all_apart good_of
two_lines = refl

-- "0 100000 10\n20 100009 5": the lines overlap on the parent side
parents_meet : map_lines (48 ∷ 32 ∷ 49 ∷ 48 ∷ 48 ∷ 48 ∷ 48 ∷ 48 ∷ 32 ∷ 49 ∷ 48 ∷ 10 ∷ 50 ∷ 48 ∷ 32 ∷ 49 ∷ 48 ∷ 48 ∷ 48 ∷ 48 ∷ 57 ∷ 32 ∷ 53 ∷ []) ≡ None
unfolding pieces filled cons_of all_of all_digits decimal decimal_of numbers_of three_of line_of text_lines checked map_lines fits_of bounded_of apart_side apart_of all_apart good_of
parents_meet = refl
