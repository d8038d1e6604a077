-- How the reader goes over a text: what its inner functions answer, from a place on. That this is the text's meaning is
-- proved from specs/Text.antt, which alone is to be believed. Assumes nothing.
use Rattle.std.specs.Prelude.{ℕ, suc, ◌+◌, ◌-◌, ◌*◌, Bool, cond, List, [], ◌∷◌, length, drop, ◌==◌, nat_le, nat_lt, slice_index, Option, Some, None}
use Rattle.idmap.specs.declared.Line.{Line}
use Rattle.idmap.specs.Good.{no_id}
use Rattle.idmap.specs.Text.{is_blank, is_digit}

-- how many bytes at the front pass the test
unfoldable pub span : (ℕ → Bool) → List ℕ → ℕ
span p [] = 0
span p (c ∷ s) = cond (p c) (suc (span p s)) 0

-- the decimal value of v followed by the digits at the front
unfoldable pub value : ℕ → List ℕ → ℕ
value v [] = v
value v (c ∷ s) = cond (is_digit c) (value (v * 10 + (c - 48)) s) v

-- where the blanks from place at on end
unfoldable pub skipped : List ℕ → ℕ → ℕ
skipped s at = at + span is_blank (drop at s)

-- the number v that was read from place at to e: there has to be a digit, and it has to fit
unfoldable pub ended : ℕ → ℕ → ℕ → Option (ℕ × ℕ)
ended at e v = cond (nat_le v no_id) (cond (e == at) None (Some (v, e))) None

-- the number that starts at place at, and where it ends
unfoldable pub number_at : List ℕ → ℕ → Option (ℕ × ℕ)
number_at s at = ended at (at + span is_digit (drop at s)) (value 0 (drop at s))

-- the number after any blanks. It takes all the digits that there are, so two numbers have a blank between them
unfoldable pub field_at : List ℕ → ℕ → Option (ℕ × ℕ)
field_at s at = number_at s (skipped s at)

-- the line ends at e: at the text's end, or at a newline, which it takes
unfoldable pub line_end : List ℕ → ℕ → Line → Option (Line × ℕ)
line_end s e l = cond (nat_lt e (length s)) (cond (slice_index s e == 10) (Some (l, e + 1)) None) (Some (l, e))

-- what follows a number
abbrev pub then_number : Option (ℕ × ℕ) → (ℕ → ℕ → Option (Line × ℕ)) → Option (Line × ℕ)
then_number (Some (v, e)) next = next v e
then_number None next = None

-- the line at the front of s, and how many bytes it takes
unfoldable pub scan_line : List ℕ → Option (Line × ℕ)
scan_line s =
    then_number (field_at s 0) (λ a p.
    then_number (field_at s p) (λ b q.
    then_number (field_at s q) (λ c e. line_end s (skipped s e) (record { inside = a; parent = b; count = c }))))
