-- The text of a map that is read: document 01, 'Read a map'. Assumes nothing.
use Rattle.std.specs.Prelude.{ℕ, zero, suc, ◌+◌, ◌/◌, ◌%◌, cond, List, [], ◌∷◌, ◌++◌, ◌==◌}
use Rattle.idmap.specs.declared.Line.{Line}

-- the last digit of v, and the same with a space where v is zero
abbrev pub last_digit : ℕ → ℕ
last_digit v = 48 + v % 10

abbrev pub column_of : ℕ → ℕ
column_of v = cond (v == 0) 32 (last_digit v)

-- the last k columns of v, with spaces before its first digit; zero is spaces only
unfoldable pub shown : ℕ → ℕ → List ℕ
shown zero v = []
shown (suc k) v = shown k (v / 10) ++ (column_of v ∷ [])

-- document 01: each number right-aligned in 10 columns. The last column has a digit in any case
unfoldable pub number_text : ℕ → List ℕ
number_text n = shown 9 (n / 10) ++ (last_digit n ∷ [])

-- document 01: one space between
unfoldable pub line_columns : Line → List ℕ
line_columns l = number_text l.inside ++ 32 ∷ (number_text l.parent ++ 32 ∷ number_text l.count)

-- document 01: 33 bytes a line
abbrev pub line_bytes : ℕ
line_bytes = 33

-- document 01: a newline after
unfoldable pub line_text : Line → List ℕ
line_text l = line_columns l ++ (10 ∷ [])

-- the texts of lines, one after the other
unfoldable pub lines_text : List Line → List ℕ
lines_text [] = []
lines_text (l ∷ ls) = line_text l ++ lines_text ls
