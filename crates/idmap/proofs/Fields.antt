-- The numbers of a line, taken from its front: blanks at the front do not count, and the digits at the front are the
-- first number. Assumes nothing.
use Rattle.std.proofs.Common.{◌≡◌, ℕ, ◌+◌, ◌-◌, ◌*◌, ◌<◌, true, false, cond, leb, List, [], ◌∷◌, ◌++◌, take, drop, sym, refl, ap, ◌∙◌, append-nil, arith, take-append-drop, ne_eqb, leb-true, Option, Some, None}
use mathlib.Core.Bool.{and-false}
use Rattle.idmap.specs.Good.{no_id}
use Rattle.idmap.specs.Text.{is_blank, is_digit, longer, pieces, filled, all_digits, decimal, decimal_of, numbers_of}
use Rattle.idmap.specs.Scan.{span, value}
use Rattle.prelude.proofs.Tests.{by_test, both}
use Rattle.prelude.proofs.Made.{cons_none}
use Rattle.prelude.specs.Lists.{cons_of, all_of}

-- a digit is no blank
digit_solid : (c : ℕ) → is_digit c ≡ true → is_blank c ≡ false
digit_solid c e =
    let h = both (leb 48 c) (leb c 57) e in
    let p = leb-true 48 c h.0 in
    rw (ne_eqb c 32 (omega arith), ne_eqb c 9 (omega arith))

-- ---- the first piece, and those after it
first_of : List (List ℕ) → List ℕ
first_of [] = []
first_of (p ∷ ps) = p

later_of : List (List ℕ) → List (List ℕ)
later_of [] = []
later_of (p ∷ ps) = ps

longer_first : (c : ℕ) (ps : List (List ℕ)) → first_of (longer c ps) ≡ c ∷ first_of ps
unfolding first_of
longer_first c [] = refl
longer_first c (p ∷ ps) = refl

longer_later : (c : ℕ) (ps : List (List ℕ)) → later_of (longer c ps) ≡ later_of ps
unfolding later_of
longer_later c [] = refl
longer_later c (p ∷ ps) = refl

filled_longer : (c : ℕ) (ps : List (List ℕ)) → filled (longer c ps) ≡ (c ∷ first_of ps) ∷ filled (later_of ps)
unfolding filled first_of later_of
filled_longer c [] = refl
filled_longer c (p ∷ ps) = refl

first_solid : (c : ℕ) (s : List ℕ) → is_blank c ≡ false → first_of (pieces is_blank (c ∷ s)) ≡ c ∷ first_of (pieces is_blank s)
unfolding pieces
first_solid c s b = rw b (longer_first c (pieces is_blank s))

-- ---- the digits at the front
digits_front : (s : List ℕ) → all_digits (take (span is_digit s) s) ≡ true
unfolding all_digits span
digits_front [] = refl
digits_front (c ∷ s) = by_test (is_digit c) (λ t. rw (t, t) (digits_front s)) (λ t. rw t)

decimal_front : (v : ℕ) (s : List ℕ) → decimal v (take (span is_digit s) s) ≡ value v s
unfolding decimal span value
decimal_front v [] = refl
decimal_front v (c ∷ s) = by_test (is_digit c) (λ t. rw t (decimal_front (v * 10 + (c - 48)) s)) (λ t. rw t)

-- the number that they are
pub number_front : (s : List ℕ) → decimal_of (take (span is_digit s) s) ≡ cond (leb (value 0 s) no_id) (Some (value 0 s)) None
unfolding decimal_of
number_front s = rw (digits_front s, decimal_front 0 s)

-- ---- pieces after digits
module _ (v : List ℕ) where
  first_after : (w : List ℕ) → all_digits w ≡ true → first_of (pieces is_blank (w ++ v)) ≡ w ++ first_of (pieces is_blank v)
  unfolding pieces all_digits
  first_after [] d = refl
  first_after (c ∷ w) d =
      let h = both (is_digit c) (all_digits w) d in
      rw (digit_solid c h.0) (longer_first c (pieces is_blank (w ++ v)) ∙ ap (λ (l : List ℕ). c ∷ l) (first_after w h.1))

  later_after : (w : List ℕ) → all_digits w ≡ true → later_of (pieces is_blank (w ++ v)) ≡ later_of (pieces is_blank v)
  unfolding pieces all_digits
  later_after [] d = refl
  later_after (c ∷ w) d =
      let h = both (is_digit c) (all_digits w) d in
      rw (digit_solid c h.0) (longer_later c (pieces is_blank (w ++ v)) ∙ later_after w h.1)

  fields_after : (c : ℕ) (w : List ℕ) → all_digits (c ∷ w) ≡ true → filled (pieces is_blank (c ∷ (w ++ v))) ≡ (c ∷ (w ++ first_of (pieces is_blank v))) ∷ filled (later_of (pieces is_blank v))
  unfolding pieces all_digits
  fields_after c w d =
      let h = both (is_digit c) (all_digits w) d in
      rw (digit_solid c h.0, filled_longer c (pieces is_blank (w ++ v)), first_after w h.1, later_after w h.1)

-- ---- the numbers of what starts with a blank, with nothing, and with a byte that is neither blank nor digit
numbers_blank : (c : ℕ) (s : List ℕ) → is_blank c ≡ true → numbers_of (c ∷ s) ≡ numbers_of s
unfolding numbers_of pieces filled
numbers_blank c s b = rw b

pub numbers_skip : (s : List ℕ) → numbers_of s ≡ numbers_of (drop (span is_blank s) s)
unfolding span
numbers_skip [] = refl
numbers_skip (c ∷ s) = by_test (is_blank c) (λ t. rw t (numbers_blank c s t ∙ numbers_skip s)) (λ t. rw t)

pub numbers_none : numbers_of [] ≡ Some []
unfolding numbers_of pieces filled all_of
numbers_none = refl

-- a field with such a byte in it is no number
not_digits : (w : List ℕ) (c : ℕ) (s : List ℕ) → is_digit c ≡ false → all_digits (w ++ (c ∷ s)) ≡ false
unfolding all_digits
not_digits [] c s d = rw d
not_digits (a ∷ w) c s d = rw (not_digits w c s d) (and-false (is_digit a))

not_number : (w : List ℕ) (c : ℕ) (s : List ℕ) → is_digit c ≡ false → decimal_of (w ++ (c ∷ s)) ≡ None
unfolding decimal_of
not_number w c s d = rw (not_digits w c s d)

-- the first field of what starts with no blank
numbers_solid : (c : ℕ) (s : List ℕ) → is_blank c ≡ false → numbers_of (c ∷ s) ≡ cons_of (decimal_of (c ∷ first_of (pieces is_blank s))) (all_of decimal_of (filled (later_of (pieces is_blank s))))
unfolding numbers_of pieces all_of
numbers_solid c s b = rw (b, filled_longer c (pieces is_blank s))

pub numbers_other : (c : ℕ) (s : List ℕ) → is_blank c ≡ false → is_digit c ≡ false → numbers_of (c ∷ s) ≡ None
unfolding cons_of
numbers_other c s b d = numbers_solid c s b ∙ rw (not_number [] c (first_of (pieces is_blank s)) d)

-- what starts with no blank has a number, or none is to be had
pub numbers_more : (c : ℕ) (s : List ℕ) → is_blank c ≡ false → (o : Option ℕ) × (os : Option (List ℕ)) × (numbers_of (c ∷ s) ≡ cons_of o os)
numbers_more c s b = (decimal_of (c ∷ first_of (pieces is_blank s)), all_of decimal_of (filled (later_of (pieces is_blank s))), numbers_solid c s b)

-- ---- the digits at the front are the first number
-- no digit stands at the front
abbrev Stopped : List ℕ → Type 0
Stopped [] = Unit {0}
Stopped (c ∷ s) = is_digit c ≡ false

span_stopped : (s : List ℕ) → Stopped (drop (span is_digit s) s)
unfolding span
span_stopped [] = tt
span_stopped (c ∷ s) = by_test (is_digit c) (λ t. rw t (span_stopped s)) (λ t. rw t t)

module _ (c : ℕ) (w : List ℕ) (d : all_digits (c ∷ w) ≡ true) where
  numbers_after : (v : List ℕ) → numbers_of (c ∷ (w ++ v)) ≡ cons_of (decimal_of (c ∷ (w ++ first_of (pieces is_blank v)))) (all_of decimal_of (filled (later_of (pieces is_blank v))))
  unfolding numbers_of all_of
  numbers_after v = ap (all_of decimal_of) (fields_after v c w d)

  numbers_spoilt : (b : ℕ) (v : List ℕ) → is_blank b ≡ false → is_digit b ≡ false → numbers_of (c ∷ (w ++ (b ∷ v))) ≡ None
  unfolding cons_of
  numbers_spoilt b v y t =
      numbers_after (b ∷ v)
      ∙ ap (λ (n : Option ℕ). cons_of n (all_of decimal_of (filled (later_of (pieces is_blank (b ∷ v))))))
      (ap (λ (f : List ℕ). decimal_of (c ∷ (w ++ f))) (first_solid b v y) ∙ not_number (c ∷ w) b (first_of (pieces is_blank v)) t)

  numbers_digits : (v : List ℕ) → Stopped v → numbers_of (c ∷ (w ++ v)) ≡ cons_of (decimal_of (c ∷ w)) (numbers_of v)
  unfolding numbers_of pieces filled first_of later_of
  numbers_digits [] t = numbers_after [] ∙ rw append-nil
  numbers_digits (b ∷ v) t =
      by_test (is_blank b)
      (λ y. numbers_after (b ∷ v) ∙ rw (y, append-nil))
      (λ y. numbers_spoilt b v y t ∙ sym (ap (cons_of (decimal_of (c ∷ w))) (numbers_other b v y t) ∙ cons_none (decimal_of (c ∷ w))))

pub numbers_front : (s : List ℕ) → 0 < span is_digit s → numbers_of s ≡ cons_of (decimal_of (take (span is_digit s) s)) (numbers_of (drop (span is_digit s) s))
unfolding span
numbers_front [] h = absurd (omega arith)
numbers_front (c ∷ s) h =
    by_test (is_digit c)
    (λ t.
    let r = span is_digit s in
    let d : all_digits (c ∷ take r s) ≡ true = rw t at (digits_front (c ∷ s)) in
    let whole : c ∷ (take r s ++ drop r s) ≡ c ∷ s = ap (λ (l : List ℕ). c ∷ l) (take-append-drop r s) in
    rw t (sym (ap numbers_of whole) ∙ numbers_digits c (take r s) d (drop r s) (span_stopped s)))
    (λ t. let k : 0 < 0 = rw t at h in absurd (omega arith))
