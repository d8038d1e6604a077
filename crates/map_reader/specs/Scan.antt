-- How the reader goes over a text, and how many bytes it reads: what its inner functions answer, from a place on. That
-- this is the text's meaning is proved from `idmap`'s specs/Text.antt, which alone is to be believed; `ReadOnce` says what is
-- promised of the count. Assumes nothing.
use Rattle.std.specs.Prelude.{◌≡◌, ℕ, zero, suc, ◌+◌, ◌-◌, ◌*◌, ◌≤◌, min, cond, List, [], ◌∷◌, length, drop, ◌==◌, nat_le, nat_lt, slice_index, Some, Result, Ok, Err}
use Rattle.idmap.specs.declared.Line.{Line}
use Rattle.map_reader.specs.declared.text.Seen.{Seen}
use Rattle.map_reader.specs.declared.text.TextRead.{TextRead}
use Rattle.idmap.specs.Good.{max_lines, no_id}
use Rattle.idmap.specs.Scan.{skipped}
use Rattle.idmap.specs.Text.{is_digit, is_newline, map_lines, map_text}

-- the byte at a place; the text's end is seen as a newline
unfoldable pub byte_at : List ℕ → ℕ → ℕ
byte_at s at = cond (nat_lt at (length s)) (slice_index s at) 10

-- the read of a place, after n bytes were read: one byte more, but for the text's end
unfoldable pub see_of : List ℕ → ℕ → ℕ → Seen
see_of s at n = record { byte = byte_at s at; at = at; bytes = cond (nat_lt at (length s)) (n + 1) n }

-- a place that is seen where each byte before it was read once
unfoldable pub seen_at : List ℕ → ℕ → Seen
seen_at s at = record { byte = byte_at s at; at = at; bytes = min (at + 1) (length s) }

-- the number v that was read from place at up to c: there has to be a digit
unfoldable pub ended : ℕ → Seen → ℕ → Result (ℕ × Seen) Seen
ended at c v = cond (c.at == at) (Err c) (Ok (v, c))

-- the number from place at, of which v was read up to place i, where l stands: it ends at the first byte that is no digit,
-- or at the digit by which it is too large
unfoldable pub number_from : List ℕ → ℕ → ℕ → ℕ → List ℕ → Result (ℕ × Seen) Seen
number_from s at v i [] = ended at (seen_at s i) v
number_from s at v i (c ∷ l) =
    cond (is_digit c)
    (cond (nat_le (v * 10 + (c - 48)) no_id) (number_from s at (v * 10 + (c - 48)) (i + 1) l) (Err (seen_at s i)))
    (ended at (seen_at s i) v)

unfoldable pub number_at : List ℕ → ℕ → Result (ℕ × Seen) Seen
number_at s at = number_from s at 0 at (drop at s)

-- the number after any blanks. It takes all the digits that there are, so two numbers have a blank between them
unfoldable pub field_at : List ℕ → ℕ → Result (ℕ × Seen) Seen
field_at s at = number_at s (skipped s at)

-- the line ends with c: a newline, or the text's end
unfoldable pub line_end : Seen → Line → Result (Line × Seen) Seen
line_end c l = cond (is_newline c.byte) (Ok (l, c)) (Err c)

-- what follows a number
abbrev pub then_number : Result (ℕ × Seen) Seen → (ℕ → ℕ → Result (Line × Seen) Seen) → Result (Line × Seen) Seen
then_number (Ok (v, c)) next = next v c.at
then_number (Err c) next = Err c

-- the line at the front of s, with the byte that ends it, or the byte that shows that there is none
unfoldable pub scan_line : List ℕ → Result (Line × Seen) Seen
scan_line s =
    then_number (field_at s 0) (λ a p.
    then_number (field_at s p) (λ b q.
    then_number (field_at s q) (λ c e. line_end (seen_at s (skipped s e)) (record { inside = a; parent = b; count = c }))))

-- ---- how many bytes are read of a text: line by line, up to a line that is none, and of no more lines than a map has
abbrev pub line_then : Result (Line × Seen) Seen → (ℕ → ℕ) → ℕ
line_then (Ok (l, c)) rest = c.bytes + rest c.bytes
line_then (Err c) rest = c.bytes

unfoldable pub bytes_from : ℕ → List ℕ → ℕ
bytes_from zero s = 0
bytes_from (suc k) [] = 0
bytes_from (suc k) (c ∷ s) = line_then (scan_line (c ∷ s)) (λ u. bytes_from k (drop u (c ∷ s)))

unfoldable pub bytes_read : List ℕ → ℕ
bytes_read text = bytes_from max_lines text

-- document 02, L2: never over the text's length, and equal to it for a good text
pub record ReadOnce (text : List ℕ) : Type 0 where
  pub within : bytes_read text ≤ length text
  pub whole : (ls : List Line) → map_lines text ≡ Some ls → bytes_read text ≡ length text

-- ---- the same as the value that the reader answers
unfoldable pub text_read : List ℕ → TextRead
text_read text = record { map = map_text (map_lines text); bytes = bytes_read text }
