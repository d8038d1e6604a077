-- Whether a range of IDs lies whole in one line of a map. Assumes nothing.
use Rattle.std.specs.Prelude.{ℕ, ◌+◌, ◌-◌, ◌^◌, ◌<◌, Bool, false, ◌&&◌, ◌||◌, List, [], ◌∷◌, length, nat_le, nat_lt, slice_index_or}
use Rattle.idmap.specs.declared.Line.{Line}
use Rattle.idmap.specs.Line.{no_line}
use Rattle.idmap.specs.Lookup.{reach_of}
use Rattle.idmap.specs.Good.{Within}

-- the ID is on the line's inside. For a line of a good map and a 32-bit ID this is `in_range`: `interval_test` of
-- proofs/Interval.antt
abbrev pub has : Line → ℕ → Bool
has l x = nat_le l.inside x && nat_lt x (l.inside + l.count)

-- some line has both IDs
unfoldable pub one_has : List Line → ℕ → ℕ → Bool
one_has [] x y = false
one_has (l ∷ ls) x y = (has l x && has l y) || one_has ls x y

-- document 02, L6: the count IDs from start on lie whole in one line. There is one at least, and some line has the
-- first of them and the last
unfoldable pub lies_whole : List Line → ℕ → ℕ → Bool
lies_whole ls start count = nat_lt 0 count && one_has ls start (start + count - 1)

-- ---- what `lies_whole` says of each single ID of the range, by a law
-- a line holds the ID
abbrev pub HasLine : List Line → ℕ → Type 0
HasLine ls x = (i : ℕ) × (i < length ls) × Within x (slice_index_or ls i no_line).inside (slice_index_or ls i no_line).count

-- ---- what the code does. NOT to be believed: that of a good map it is `lies_whole` is proved (`whole_by_reach_lem`)
-- the line of the first ID, a 32-bit number, reaches over all of them
unfoldable pub whole_by_reach : List Line → ℕ → ℕ → Bool
whole_by_reach ls start count = nat_lt start (2 ^ 32) && (nat_lt 0 count && nat_le count (reach_of ls start))
