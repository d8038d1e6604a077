-- The text of a map: document 01, 'Text of a map'. Assumes nothing.
use Rattle.std.specs.Prelude.{ℕ, ◌+◌, ◌-◌, ◌*◌, Bool, true, cond, ◌&&◌, ◌||◌, List, [], ◌∷◌, ◌++◌, length, replicate, ◌==◌, nat_le, Option, Some, None}
use Rattle.prelude.specs.Lists.{all_of}
use Rattle.idmap.specs.declared.Line.{Line}
use Rattle.idmap.specs.declared.MapLines.{MapLines}
use Rattle.idmap.specs.Line.{no_line}
use Rattle.idmap.specs.Good.{max_lines, no_id, good_of}

-- document 01: the most bytes that the text of a map has
abbrev pub max_text_bytes : ℕ
max_text_bytes = 4095

-- bytes
abbrev pub is_newline : ℕ → Bool
is_newline c = c == 10

abbrev pub is_blank : ℕ → Bool
is_blank c = c == 32 || c == 9

abbrev pub is_digit : ℕ → Bool
is_digit c = nat_le 48 c && nat_le c 57

-- the pieces of a text, each ended by a byte that passes the test or by the text's end; the last one may lack its end
abbrev pub longer : ℕ → List (List ℕ) → List (List ℕ)
longer c [] = (c ∷ []) ∷ []
longer c (p ∷ ps) = (c ∷ p) ∷ ps

unfoldable pub pieces : (ℕ → Bool) → List ℕ → List (List ℕ)
pieces ends [] = []
pieces ends (c ∷ s) = cond (ends c) ([] ∷ pieces ends s) (longer c (pieces ends s))

-- those that are not empty
unfoldable pub filled : List (List ℕ) → List (List ℕ)
filled [] = []
filled ([] ∷ ps) = filled ps
filled ((c ∷ p) ∷ ps) = (c ∷ p) ∷ filled ps

-- a number: digits, of value at most 4,294,967,295
unfoldable pub all_digits : List ℕ → Bool
all_digits [] = true
all_digits (c ∷ s) = is_digit c && all_digits s

unfoldable pub decimal : ℕ → List ℕ → ℕ
decimal v [] = v
decimal v (c ∷ s) = decimal (v * 10 + (c - 48)) s

unfoldable pub decimal_of : List ℕ → Option ℕ
decimal_of s = cond (all_digits s && nat_le (decimal 0 s) no_id) (Some (decimal 0 s)) None

-- a line: three numbers with one or more spaces or tabs between, and any before or after
unfoldable pub numbers_of : List ℕ → Option (List ℕ)
numbers_of line = all_of decimal_of (filled (pieces is_blank line))

unfoldable pub three_of : Option (List ℕ) → Option Line
three_of None = None
three_of (Some []) = None
three_of (Some (a ∷ [])) = None
three_of (Some (a ∷ b ∷ [])) = None
three_of (Some (a ∷ b ∷ c ∷ [])) = Some (record { inside = a; parent = b; count = c })
three_of (Some (a ∷ b ∷ c ∷ d ∷ rest)) = None

unfoldable pub line_of : List ℕ → Option Line
line_of line = three_of (numbers_of line)

-- the lines of a text: each ends in a newline, which the last may lack
unfoldable pub text_lines : List ℕ → Option (List Line)
text_lines text = all_of line_of (pieces is_newline text)

-- the lines of a map's text: at least one, at most as many as a map has, and good; else nothing
unfoldable pub checked : Option (List Line) → Option (List Line)
checked None = None
checked (Some ls) = cond (nat_le 1 (length ls) && (nat_le (length ls) max_lines && good_of ls)) (Some ls) None

unfoldable pub map_lines : List ℕ → Option (List Line)
map_lines text = checked (text_lines text)

-- ---- the same as the value that the reader answers
-- lines in an array of as many as a map has
unfoldable pub padded : List Line → List Line
padded ls = ls ++ replicate (max_lines - length ls) no_line

unfoldable pub map_text : Option (List Line) → Option MapLines
map_text None = None
map_text (Some ls) = Some (record { count = length ls; lines = padded ls })
