-- The text of a line, turn by turn, in the words of the code: each law's premises are what a place knows. Assumes
-- nothing.
use Rattle.std.proofs.Common.{◌≡◌, ℕ, zero, suc, ◌+◌, ◌-◌, ◌*◌, ◌/◌, ◌%◌, ◌<◌, ◌≤◌, Bool, List, [], ◌∷◌, ◌++◌, length, get_or, drop, set, sym, refl, ap, ◌∙◌, add-one, arith, length-append, length-set, drop_of_length-le, drop-cons, get_or-set_same, drop-set-lt, rules, eq-eqb, ne_eqb}
use lib.Seq.{append_snoc}
use Rattle.prelude.specs.Parts.{fits_at, put_at}
use Rattle.idmap.specs.declared.Line.{Line}
use Rattle.idmap.specs.Show.{column_of, shown, number_text, line_columns, line_bytes, line_text, lines_text}

-- ---- how long the texts are
length_shown : (k v : ℕ) → length (shown k v) ≡ k
unfolding shown
length_shown zero v = refl
length_shown (suc k) v = length-append (shown k (v / 10)) (column_of v ∷ []) ∙ ap (λ (n : ℕ). n + 1) (length_shown k (v / 10)) ∙ add-one k

pub length_number_text : (n : ℕ) → length (number_text n) ≡ 10
unfolding number_text
length_number_text n = simp (length-append, length_shown)

pub length_line_columns : (l : Line) → length (line_columns l) ≡ 32
unfolding line_columns
length_line_columns l = simp (length-append, length_number_text)

pub length_line_text : (l : Line) → length (line_text l) ≡ line_bytes
unfolding line_text
length_line_text l = simp (length-append, length_line_columns)

pub length_lines_text : (ls : List Line) → length (lines_text ls) ≡ line_bytes * length ls
unfolding lines_text
length_lines_text [] = refl
length_lines_text (l ∷ ls) = rw (length-append, length_line_text, length_lines_text ls) (omega arith)

-- the text of the line `0 100000 65536`
example : line_text (record { inside = 0; parent = 100000; count = 65536 })
    ≡ 32 ∷ 32 ∷ 32 ∷ 32 ∷ 32 ∷ 32 ∷ 32 ∷ 32 ∷ 32 ∷ 48 ∷ 32
    ∷ 32 ∷ 32 ∷ 32 ∷ 32 ∷ 49 ∷ 48 ∷ 48 ∷ 48 ∷ 48 ∷ 48 ∷ 32
    ∷ 32 ∷ 32 ∷ 32 ∷ 32 ∷ 32 ∷ 54 ∷ 53 ∷ 53 ∷ 51 ∷ 54 ∷ 10 ∷ []
unfolding shown number_text line_columns line_text
example = refl

-- ---- column
module _ (v : ℕ) where
  pub column_blank : v ≡ 0 → 32 ≡ column_of v
  column_blank h = simp (eq-eqb v 0 h)

  pub column_digit : (v ≡ 0 → ⊥) → 48 + v % 10 ≡ column_of v
  column_digit h = simp (ne_eqb v 0 h)

-- ---- number_text
drop_set : (t : List ℕ) (k x : ℕ) → k < length t → drop k (set t k x) ≡ x ∷ drop (suc k) t
drop_set t k x h =
    drop-cons (set t k x) k 0 (simp length-set h) ∙ rw (get_or-set_same t k x 0 h, drop-set-lt (suc k) t k x (omega arith))

-- the columns from place k on are filled, and v is what is left to show
abbrev pub Filled : ℕ → List ℕ → ℕ → ℕ → Type 0
Filled n text v k = number_text n ≡ shown k v ++ drop k text

module _ (n : ℕ) (text : List ℕ) where
  pub filled_starts : length text ≡ 10 → Filled n (set text 9 (48 + n % 10)) (n / 10) 9
  unfolding number_text
  filled_starts e =
      let none : drop 10 text ≡ [] = drop_of_length-le text {i = 10} (omega arith) in
      rw (drop_set text 9 (48 + n % 10) (omega arith), none)

  pub filled_step : (v k x : ℕ) → length text ≡ 10 → k ≤ 9 → 0 < k → x ≡ column_of v → Filled n text v k
      → Filled n (set text (k - 1) x) (v / 10) (k - 1)
  unfolding shown
  filled_step v zero x e b h c f = absurd (omega arith)
  filled_step v (suc k) x e b h c f =
      let p : suc k - 1 ≡ k = omega arith in
      rw p (f ∙ append_snoc (shown k (v / 10)) (column_of v) (drop (suc k) text) ∙ rw (drop_set text k x (omega arith), c))

  pub filled_all : (v k : ℕ) → k ≤ 0 → Filled n text v k → text ≡ number_text n
  unfolding shown
  filled_all v zero h f = sym f
  filled_all v (suc k) h f = absurd (omega arith)

-- ---- line_text
-- the ten bytes of an array before other bytes, as they stand in a literal
abbrev ten : List ℕ → List ℕ → List ℕ
ten a s =
    get_or a 0 0
    ∷ get_or a 1 0
    ∷ get_or a 2 0
    ∷ get_or a 3 0
    ∷ get_or a 4 0
    ∷ get_or a 5 0
    ∷ get_or a 6 0
    ∷ get_or a 7 0
    ∷ get_or a 8 0
    ∷ get_or a 9 0
    ∷ s

pub line_literal : (l : Line) (a b c : List ℕ) → a ≡ number_text l.inside → b ≡ number_text l.parent → c ≡ number_text l.count
    → ten a (32 ∷ ten b (32 ∷ ten c (10 ∷ []))) ≡ line_text l
unfolding shown number_text line_columns line_text
line_literal l a b c e f g = rw (e, f, g)

-- ---- put_line
module _ (l : List ℕ) (at : ℕ) (s : List ℕ) (x : Line) (e : s ≡ line_text x) where
  pub fits_line : (r : Bool) → r ≡ fits_at l at s → r ≡ fits_at l at (line_text x)
  fits_line r h = rw e at h

  pub put_line_text : (t : List ℕ) → t ≡ put_at l at s → t ≡ put_at l at (line_text x)
  put_line_text t h = rw e at h

-- What answers the needs of the texts and of `put_line`.
pub ruleset shows = (
  column_blank,
  column_digit,
  filled_starts,
  filled_step,
  filled_all,
  line_literal,
  fits_line,
  put_line_text,
  rules,
)
