-- A map line, the test whether an ID is in it, and lines kept as words. Assumes nothing.
use Rattle.std.specs.Prelude.{ℕ, ◌+◌, ◌-◌, ◌%◌, ◌^◌, Bool, List, [], ◌∷◌, nat_lt, slice_index}
use Rattle.idmap.specs.declared.Line.{Line}

-- a less b and a more b, modulo 2 to the 32
abbrev pub less : ℕ → ℕ → ℕ
less a b = (a + (2 ^ 32 - b)) % 2 ^ 32

abbrev pub more : ℕ → ℕ → ℕ
more a b = (a + b) % 2 ^ 32

-- document 01: an ID is in a line exactly when the ID minus the line's start, modulo 2 to the 32, is less than the
-- count
abbrev pub in_range : ℕ → ℕ → ℕ → Bool
in_range id start count = nat_lt (less id start) count

-- a line of no IDs
abbrev pub no_line : Line
no_line = record { inside = 0; parent = 0; count = 0 }

-- the words that a line is kept in: where its inside starts, where its parent side starts, how many IDs it has, and the
-- kernel ID (document 01: station-wide ID) where its parent side starts
abbrev pub line_words : ℕ
line_words = 4

-- which word is which
abbrev pub inside_column : ℕ
inside_column = 0

abbrev pub parent_column : ℕ
parent_column = 1

abbrev pub count_column : ℕ
count_column = 2

abbrev pub kernel_column : ℕ
kernel_column = 3

-- the line from one column to another in a row of words, each number in its low 32 bits; and the same from place k on
abbrev pub line_of : ℕ → ℕ → List ℕ → Line
line_of from to row = record { inside = slice_index row from % 2 ^ 32; parent = slice_index row to % 2 ^ 32; count = slice_index row count_column % 2 ^ 32 }

abbrev pub line_at : ℕ → ℕ → List ℕ → ℕ → Line
line_at from to ws k = record {
  inside = slice_index ws (k + from) % 2 ^ 32;
  parent = slice_index ws (k + to) % 2 ^ 32;
  count = slice_index ws (k + count_column) % 2 ^ 32;
}

-- the lines from one column to another that words hold, four words to a line
unfoldable pub lines_by : ℕ → ℕ → List ℕ → List Line
lines_by from to [] = []
lines_by from to (a ∷ []) = []
lines_by from to (a ∷ b ∷ []) = []
lines_by from to (a ∷ b ∷ c ∷ []) = []
lines_by from to (a ∷ b ∷ c ∷ d ∷ ws) = line_of from to (a ∷ b ∷ c ∷ d ∷ []) ∷ lines_by from to ws

-- the lines as they were written
abbrev pub lines_in : List ℕ → List Line
lines_in ws = lines_by inside_column parent_column ws

-- the same lines with the kernel IDs on the parent side
abbrev pub kernel_lines_in : List ℕ → List Line
kernel_lines_in ws = lines_by inside_column kernel_column ws
