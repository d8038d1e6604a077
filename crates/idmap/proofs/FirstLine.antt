-- The reader's scan of the line at the front of a text gives what the text's definition says of its first piece.
-- Assumes nothing.
use Rattle.std.proofs.Common.{◌≡◌, ℕ, zero, suc, ◌+◌, ◌-◌, ◌*◌, ◌<◌, ◌≤◌, Bool, true, false, cond, eqb, ltb, leb, ◌⊎◌, List, [], ◌∷◌, ◌++◌, length, get_or, drop, refl, ap, ◌∙◌, inl, inr, ⊎_elim, arith, length-append, length-drop, drop_of_length-le, drop-cons, drop-drop, ltb-false, ltb-true, le-ltb, lt-ltb, eq-eqb, ne_eqb, eqb-true, Option, Some, None}
use lib.ListN.{get_or-append}
use lib.Seq.{drop-append-le, drop-append-add, drop-length, get_or-append_seam}
use borrow.Author.Tests.{eqb-false}
use Rattle.idmap.specs.declared.Line.{Line}
use Rattle.idmap.specs.Good.{no_id}
use Rattle.idmap.specs.Text.{is_newline, is_blank, is_digit, pieces, numbers_of, three_of, line_of, text_lines}
use Rattle.idmap.specs.Scan.{span, value, skipped, ended, number_at, field_at, line_end, then_number, scan_line}
use Rattle.prelude.proofs.Tests.{by_test, cond_elim}
use Rattle.prelude.proofs.Made.{cons_first}
use Rattle.prelude.specs.Lists.{cons_of, all_of}
use Rattle.idmap.proofs.Fields.{number_front, numbers_skip, numbers_none, numbers_other, numbers_front, numbers_more}

-- ---- a text is its first line and what follows
-- no newline in it
abbrev pub Solid : List ℕ → Type 0
Solid [] = Unit {0}
Solid (c ∷ l) = (is_newline c ≡ false) × Solid l

-- the text's end, or a newline
pub data Ends : List ℕ → Type 0 where
  at_end : Ends []
  at_newline : (z : List ℕ) → Ends (10 ∷ z)

abbrev Split : List ℕ → Type 0
Split t = (l : List ℕ) × (z : List ℕ) × Solid l × Ends z × (l ++ z ≡ t)

newline_ends : (c : ℕ) (s : List ℕ) → is_newline c ≡ true → Ends (c ∷ s)
newline_ends c s e = rw (eqb-true c 10 e) (at_newline s)

split : (t : List ℕ) → Split t
split [] = ([], [], tt, at_end, refl)
split (c ∷ s) =
    let r = split s in
    by_test (is_newline c)
    (λ t. ([], c ∷ s, tt, newline_ends c s t, refl))
    (λ t. (c ∷ r.0, r.1, (t, r.2), r.3, ap (λ (l : List ℕ). c ∷ l) r.4))

-- the first piece is the first line
pub first_piece : (l z : List ℕ) → Solid l → Ends z → 0 < length (l ++ z) → pieces is_newline (l ++ z) ≡ l ∷ pieces is_newline (drop 1 z)
unfolding pieces
first_piece [] z s at_end h = absurd (omega arith)
first_piece [] z s (at_newline w) h = refl
first_piece (c ∷ []) z s at_end h = rw s.0
first_piece (c ∷ []) z s (at_newline w) h = rw s.0
first_piece (c ∷ d ∷ l) z s e h = rw (s.0, first_piece (d ∷ l) z s.1 e (omega arith))

solid_at : (l : List ℕ) (i : ℕ) → Solid l → i < length l → get_or l i 0 ≡ 10 → ⊥
solid_at [] i s h = absurd (omega arith)
solid_at (c ∷ l) zero s h = eqb-false c 10 s.0
solid_at (c ∷ l) (suc i) s h = solid_at l i s.1 (omega arith)

-- ---- a scan stops at the line's end
span_front : (p : ℕ → Bool) → p 10 ≡ false → (x z : List ℕ) → Ends z → span p (x ++ z) ≡ span p x
unfolding span
span_front p n [] z at_end = refl
span_front p n [] z (at_newline w) = rw n
span_front p n (c ∷ x) z e = rw (span_front p n x z e)

value_front : (v : ℕ) (x z : List ℕ) → Ends z → value v (x ++ z) ≡ value v x
unfolding value
value_front v [] z at_end = refl
value_front v [] z (at_newline w) = refl
value_front v (c ∷ x) z e = rw (value_front (v * 10 + (c - 48)) x z e)

pub span_le : (p : ℕ → Bool) (s : List ℕ) → span p s ≤ length s
unfolding span
span_le p [] = omega arith
span_le p (c ∷ s) = cond_elim (λ (n : ℕ). n ≤ suc (length s)) (p c) (let h = span_le p s in omega arith) (omega arith)

-- what stands after a span does not pass
abbrev Halts : (ℕ → Bool) → List ℕ → Type 0
Halts p [] = Unit {0}
Halts p (c ∷ s) = p c ≡ false

span_halts : (p : ℕ → Bool) (s : List ℕ) → Halts p (drop (span p s) s)
unfolding span
span_halts p [] = tt
span_halts p (c ∷ s) = by_test (p c) (λ t. rw t (span_halts p s)) (λ t. rw t t)

-- ---- the numbers that a line has from a place on, and the number that the scan finds there
abbrev Few : Option (List ℕ) → Type 0
Few x = (x ≡ None) ⊎ (x ≡ Some [])

-- what a line has from place e on, and that a number found there is the first of what it had
abbrev from : List ℕ → ℕ → Option (List ℕ)
from l e = numbers_of (drop e l)

abbrev Field : List ℕ → Option (List ℕ) → Option (ℕ × ℕ) → Type 0
Field l x (Some (v, e)) = (e ≤ length l) × (x ≡ cons_of (Some v) (from l e))
Field l x None = Few x

-- nothing that is a digit stands at the front, and no blank: there are no numbers
few : (y : List ℕ) → Halts is_blank y → span is_digit y ≡ 0 → Few (numbers_of y)
unfolding span
few [] b d = inr numbers_none
few (c ∷ y) b d =
    by_test (is_digit c)
    (λ t. let k : suc (span is_digit y) ≡ 0 = rw t at d in absurd (omega arith))
    (λ t. inl (numbers_other c y b t))

ended_none : (p e v : ℕ) → e ≡ p → ended p e v ≡ None
unfolding ended
ended_none p e v h = by_test (leb v no_id) (λ t. rw (t, eq-eqb e p h)) (λ t. rw t)

ended_value : (p e v : ℕ) → leb v no_id ≡ true → eqb e p ≡ false → ended p e v ≡ Some (v, e)
unfolding ended
ended_value p e v t u = rw (t, u)

ended_over : (p e v : ℕ) → leb v no_id ≡ false → ended p e v ≡ None
unfolding ended
ended_over p e v t = rw t

-- the number that stands in the line from place p on
digits_number : (y : List ℕ) → 0 < span is_digit y → numbers_of y ≡ cons_of (cond (leb (value 0 y) no_id) (Some (value 0 y)) None) (numbers_of (drop (span is_digit y) y))
digits_number y k = numbers_front y k ∙ ap (λ (o : Option ℕ). cons_of o (numbers_of (drop (span is_digit y) y))) (number_front y)

number_case : (l : List ℕ) (p : ℕ) → p ≤ length l → Halts is_blank (drop p l) → Field l (from l p) (ended p (p + span is_digit (drop p l)) (value 0 (drop p l)))
number_case l p h b =
    by_test (eqb (p + span is_digit (drop p l)) p)
    (λ t.
    let e = eqb-true (p + span is_digit (drop p l)) p t in
    rw (ended_none p (p + span is_digit (drop p l)) (value 0 (drop p l)) e) (few (drop p l) b (omega arith)))
    (λ t. let n = eqb-false (p + span is_digit (drop p l)) p t in found t (digits_number (drop p l) (omega arith)))
  where
    found : eqb (p + span is_digit (drop p l)) p ≡ false → from l p ≡ cons_of (cond (leb (value 0 (drop p l)) no_id) (Some (value 0 (drop p l))) None) (numbers_of (drop (span is_digit (drop p l)) (drop p l))) → Field l (from l p) (ended p (p + span is_digit (drop p l)) (value 0 (drop p l)))
    found t e =
        let k = span_le is_digit (drop p l) in
        let m = length-drop p l in
        by_test (leb (value 0 (drop p l)) no_id)
        (λ u. rw (ended_value p (p + span is_digit (drop p l)) (value 0 (drop p l)) u t) (omega arith, rw (u, drop-drop) at e))
        (λ u. rw (ended_over p (p + span is_digit (drop p l)) (value 0 (drop p l)) u) (inl (e ∙ rw u (cons_first (numbers_of (drop (span is_digit (drop p l)) (drop p l)))))))

-- ---- the line in front of what follows it
module _ (l z : List ℕ) (ends : Ends z) where
  skip_in : (at : ℕ) → at ≤ length l → skipped (l ++ z) at ≡ at + span is_blank (drop at l)
  unfolding skipped
  skip_in at h = rw (drop-append-le at l z h, span_front is_blank refl (drop at l) z ends)

  number_in : (p : ℕ) → p ≤ length l → number_at (l ++ z) p ≡ ended p (p + span is_digit (drop p l)) (value 0 (drop p l))
  unfolding number_at
  number_in p h = rw (drop-append-le p l z h, span_front is_digit refl (drop p l) z ends, value_front 0 (drop p l) z ends)

  -- where the blanks from a place on end
  module _ (at : ℕ) (h : at ≤ length l) where
    past_blanks : at + span is_blank (drop at l) ≤ length l
    past_blanks = let k = span_le is_blank (drop at l) in let m = length-drop at l in omega arith

    past_halts : Halts is_blank (drop (at + span is_blank (drop at l)) l)
    past_halts = rw drop-drop at (span_halts is_blank (drop at l))

    past_same : from l at ≡ from l (at + span is_blank (drop at l))
    past_same = numbers_skip (drop at l) ∙ ap numbers_of (drop-drop (span is_blank (drop at l)) at l)

    field_in : Field l (from l at) (field_at (l ++ z) at)
    unfolding field_at
    field_in =
        rw (skip_in at h, number_in (at + span is_blank (drop at l)) past_blanks, past_same)
        (number_case l (at + span is_blank (drop at l)) past_blanks past_halts)

-- ---- the line: three numbers and nothing more
few_three : (x : Option (List ℕ)) → Few x → three_of x ≡ None
unfolding three_of
few_three x f = ⊎_elim (λ e. rw e) (λ e. rw e) f

few_two : (a : ℕ) (x : Option (List ℕ)) → Few x → three_of (cons_of (Some a) x) ≡ None
unfolding three_of cons_of
few_two a x f = ⊎_elim (λ e. rw e) (λ e. rw e) f

few_one : (a b : ℕ) (x : Option (List ℕ)) → Few x → three_of (cons_of (Some a) (cons_of (Some b) x)) ≡ None
unfolding three_of cons_of
few_one a b x f = ⊎_elim (λ e. rw e) (λ e. rw e) f

fourth : (a b c : ℕ) (o : Option ℕ) (os : Option (List ℕ)) → three_of (cons_of (Some a) (cons_of (Some b) (cons_of (Some c) (cons_of o os)))) ≡ None
unfolding three_of cons_of
fourth a b c None os = refl
fourth a b c (Some d) None = refl
fourth a b c (Some d) (Some ds) = refl

-- what was scanned is what the line says, and leaves what follows the line
abbrev Scanned : List ℕ → List ℕ → Option Line → Option (Line × ℕ) → Type 0
Scanned l z o (Some (m, u)) = (o ≡ Some m) × (drop u (l ++ z) ≡ drop 1 z) × (u ≤ length (l ++ z))
Scanned l z o None = o ≡ None

then_number_lem : (l z : List ℕ) (o : Option Line) (x : Option (List ℕ)) (r : Option (ℕ × ℕ)) (next : ℕ → ℕ → Option (Line × ℕ)) → Field l x r
    → ((v e : ℕ) → e ≤ length l → x ≡ cons_of (Some v) (from l e) → Scanned l z o (next v e)) → (Few x → o ≡ None) → Scanned l z o (then_number r next)
then_number_lem l z o x (Some (v, e)) next f found short = found v e f.0 f.1
then_number_lem l z o x None next f found short = short f

-- the line's end: nothing but blanks is left of the line
end_here : (l z : List ℕ) → Ends z → (m : Line) → Scanned l z (Some m) (line_end (l ++ z) (length l) m)
unfolding line_end
end_here l z at_end m =
    let k = length-append l [] in
    rw (le-ltb (length l) (length (l ++ [])) (omega arith)) (refl, drop_of_length-le (l ++ []) {i = length l} (omega arith), omega arith)
end_here l z (at_newline w) m =
    let k = length-append l (10 ∷ w) in
    rw (lt-ltb (length l) (length (l ++ (10 ∷ w))) (omega arith), get_or-append_seam l 10 w 0) (refl, drop-append-add l (10 ∷ w) 1, omega arith)

-- the line goes on
end_later : (l z : List ℕ) (p : ℕ) (m : Line) → Solid l → p < length l → line_end (l ++ z) p m ≡ None
unfolding line_end
end_later l z p m s h =
    let k = length-append l z in
    rw (lt-ltb p (length (l ++ z)) (omega arith), get_or-append l z 0 p h, ne_eqb (get_or l p 0) 10 (solid_at l p s h))

more_left : (l : List ℕ) (p : ℕ) → p < length l → Halts is_blank (drop p l) → (o : Option ℕ) × (os : Option (List ℕ)) × (from l p ≡ cons_of o os)
more_left l p h b =
    let e = drop-cons l p 0 h in
    let m = numbers_more (get_or l p 0) (drop (suc p) l) (rw e at b) in
    (m.0, m.1, ap numbers_of e ∙ m.2)

module _ (l z : List ℕ) (solid : Solid l) (ends : Ends z) where
  -- after three numbers
  end_case : (a b c e : ℕ) → e ≤ length l → numbers_of l ≡ cons_of (Some a) (cons_of (Some b) (cons_of (Some c) (from l e))) → Scanned l z (three_of (numbers_of l)) (line_end (l ++ z) (skipped (l ++ z) e) (record { inside = a; parent = b; count = c }))
  unfolding three_of cons_of
  end_case a b c e h n =
      let p = e + span is_blank (drop e l) in
      let below = past_blanks l z ends e h in
      by_test (ltb p (length l))
      (λ t.
      let k = ltb-true p (length l) t in
      let m = more_left l p k (past_halts l z ends e h) in
      rw (skip_in l z ends e h, end_later l z p (record { inside = a; parent = b; count = c }) solid k, n, past_same l z ends e h, m.2) (fourth a b c m.0 m.1))
      (λ t.
      let k = ltb-false p (length l) t in
      let q : p ≡ length l = omega arith in
      let none_left : from l p ≡ Some [] = rw (q, drop-length l) numbers_none in
      rw (skip_in l z ends e h, n, past_same l z ends e h, none_left, q) (end_here l z ends (record { inside = a; parent = b; count = c })))

  line_scanned : Scanned l z (line_of l) (scan_line (l ++ z))
  unfolding scan_line line_of
  line_scanned =
      let o = three_of (numbers_of l) in
      then_number_lem l z o (numbers_of l) (field_at (l ++ z) 0) _ (field_in l z ends 0 (omega arith))
      (λ a p hp ea.
      then_number_lem l z o (from l p) (field_at (l ++ z) p) _ (field_in l z ends p hp)
      (λ b q hq eb.
      then_number_lem l z o (from l q) (field_at (l ++ z) q) _ (field_in l z ends q hq)
      (λ c e he ec. end_case a b c e he (ea ∙ rw (eb, ec)))
      (λ f. rw (ea, eb) (few_one a b (from l q) f)))
      (λ f. rw ea (few_two a (from l p) f)))
      (λ f. few_three (numbers_of l) f)

-- ---- the text, line by line
-- the lines of a text whose first line was scanned
abbrev pub after_line : Option (Line × ℕ) → List ℕ → Option (List Line)
after_line (Some (m, u)) t = cons_of (Some m) (text_lines (drop u t))
after_line None t = None

abbrev pub Takes : ℕ → Option (Line × ℕ) → Type 0
Takes n (Some (m, u)) = u ≤ n
Takes n None = Unit {0}

after_scanned : (l z : List ℕ) (r : Option (Line × ℕ)) → Scanned l z (line_of l) r → cons_of (line_of l) (text_lines (drop 1 z)) ≡ after_line r (l ++ z)
unfolding cons_of
after_scanned l z (Some (m, u)) s = rw (s.0, s.1)
after_scanned l z None s = rw s

scanned_takes : (l z : List ℕ) (o : Option Line) (r : Option (Line × ℕ)) → Scanned l z o r → Takes (length (l ++ z)) r
scanned_takes l z o (Some (m, u)) s = s.2
scanned_takes l z o None s = tt

-- the first line of a text, as it is scanned, and the lines of what it leaves
split_step : (l z : List ℕ) → Solid l → Ends z → 0 < length (l ++ z) → text_lines (l ++ z) ≡ after_line (scan_line (l ++ z)) (l ++ z)
unfolding text_lines all_of
split_step l z solid ends h = ap (all_of line_of) (first_piece l z solid ends h) ∙ after_scanned l z (scan_line (l ++ z)) (line_scanned l z solid ends)

pub text_step : (t : List ℕ) → 0 < length t → text_lines t ≡ after_line (scan_line t) t
text_step t h = let s = split t in rw s.4 at (split_step s.0 s.1 s.2 s.3 (rw s.4 h))

pub line_takes : (t : List ℕ) → Takes (length t) (scan_line t)
line_takes t = let s = split t in rw s.4 at (scanned_takes s.0 s.1 (line_of s.0) (scan_line (s.0 ++ s.1)) (line_scanned s.0 s.1 s.2 s.3))
