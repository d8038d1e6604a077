-- This reader's scans find what those of `idmap` find. Assumes nothing.
use Rattle.std.proofs.Common.{◌≡◌, ℕ, suc, ◌+◌, ◌-◌, ◌*◌, ◌<◌, ◌≤◌, min, Bool, cond, eqb, ltb, leb, List, [], ◌∷◌, length, drop, ap, ◌∙◌, arith, length-drop, ltb-false, ltb-true, le-leb, leb-true, leb-false, Option, Some, None, Result, Ok, Err}
use borrow.Author.Tests.{lt-leb}
use Rattle.idmap.specs.declared.Line.{Line}
use Rattle.map_reader.specs.declared.text.Seen.{Seen}
use Rattle.idmap.specs.Good.{no_id}
use Rattle.idmap.specs.Text.{is_blank, is_digit}
use Rattle.idmap.specs.Scan as plain
use Rattle.idmap.specs.Scan.{span, value, skipped}
use Rattle.idmap.proofs.Scans.{value_le}
use Rattle.idmap.proofs.FirstLine.{span_le}
use Rattle.map_reader.specs.Scan.{byte_at, seen_at, ended, number_from, number_at, field_at, line_end, then_number, scan_line}
use Rattle.prelude.proofs.Tests.{by_test, cond_elim}

-- ---- numbers
abbrev told : Result (ℕ × Seen) Seen → Option (ℕ × ℕ)
told (Ok (v, c)) = Some (v, c.at)
told (Err c) = None

ended_told : (s : List ℕ) (at i v : ℕ) → v ≤ no_id → told (ended at (seen_at s i) v) ≡ plain.ended at i v
unfolding ended plain.ended seen_at
ended_told s at i v small = by_test (eqb i at) (λ t. rw (t, le-leb v no_id small)) (λ t. rw (t, le-leb v no_id small))

number_over : (at e n : ℕ) → no_id < n → None ≡ plain.ended at e n
unfolding plain.ended
number_over at e n h = rw (lt-leb n no_id h)

number_told : (s : List ℕ) (at v i : ℕ) (l : List ℕ) → v ≤ no_id → told (number_from s at v i l) ≡ plain.ended at (i + span is_digit l) (value v l)
unfolding number_from span value
number_told s at v i [] small = ended_told s at i v small ∙ ap (λ (k : ℕ). plain.ended at k v) (omega arith)
number_told s at v i (c ∷ l) small =
    let w = v * 10 + (c - 48) in
    by_test (is_digit c)
    (λ t.
    by_test (leb w no_id)
    (λ u.
    let m : i + suc (span is_digit l) ≡ i + 1 + span is_digit l = omega arith in
    rw (t, u, m) (number_told s at w (i + 1) l (leb-true w no_id u)))
    (λ u. rw (t, u) (number_over at (i + suc (span is_digit l)) (value w l) (let k = leb-false w no_id u in let h = value_le w l in omega arith))))
    (λ t. rw t (ended_told s at i v small ∙ ap (λ (k : ℕ). plain.ended at k v) (omega arith)))

field_told : (s : List ℕ) (at : ℕ) → told (field_at s at) ≡ plain.field_at s at
unfolding field_at number_at plain.field_at plain.number_at
field_told s at = number_told s (skipped s at) 0 (skipped s at) (drop (skipped s at) s) (omega arith)

-- ---- places are in the text
span_in : (p : ℕ → Bool) (s : List ℕ) (at : ℕ) → at ≤ length s → at + span p (drop at s) ≤ length s
span_in p s at h = let k = span_le p (drop at s) in let m = length-drop at s in omega arith

skipped_in : (s : List ℕ) (at : ℕ) → at ≤ length s → skipped s at ≤ length s
unfolding skipped
skipped_in s at h = span_in is_blank s at h

abbrev Within : List ℕ → Option (ℕ × ℕ) → Type 0
Within s (Some (v, e)) = e ≤ length s
Within s None = Unit {0}

ended_in : (s : List ℕ) (at e v : ℕ) → e ≤ length s → Within s (plain.ended at e v)
unfolding plain.ended
ended_in s at e v h = cond_elim (Within s) (leb v no_id) (cond_elim (Within s) (eqb e at) tt h) tt

field_in : (s : List ℕ) (at : ℕ) → at ≤ length s → Within s (plain.field_at s at)
unfolding plain.field_at plain.number_at
field_in s at h = ended_in s (skipped s at) _ _ (span_in is_digit s (skipped s at) (skipped_in s at h))

-- ---- lines
abbrev pub told_line : Result (Line × Seen) Seen → Option (Line × ℕ)
told_line (Ok (l, c)) = Some (l, c.bytes)
told_line (Err c) = None

end_told : (s : List ℕ) (e : ℕ) (l : Line) → e ≤ length s → told_line (line_end (seen_at s e) l) ≡ plain.line_end s e l
unfolding line_end seen_at byte_at plain.line_end
end_told s e l h =
    by_test (ltb e (length s))
    (λ t.
    let k = ltb-true e (length s) t in
    let m : min (e + 1) (length s) ≡ e + 1 = omega arith in
    rw (t, m) (pick (eqb _ 10) _ _))
    (λ t. let k = ltb-false e (length s) t in let m : min (e + 1) (length s) ≡ e = omega arith in rw (t, m))
  where
    pick : (b : Bool) (l : Line) (c : Seen) → told_line (cond b (Ok (l, c)) (Err c)) ≡ cond b (Some (l, c.bytes)) None
    pick b l c = by_test b (λ t. rw t) (λ t. rw t)

then_told : (s : List ℕ) (r : Result (ℕ × Seen) Seen) (o : Option (ℕ × ℕ)) (next : ℕ → ℕ → Result (Line × Seen) Seen) (then : ℕ → ℕ → Option (Line × ℕ))
    → told r ≡ o → Within s o → ((v e : ℕ) → e ≤ length s → told_line (next v e) ≡ then v e) → told_line (then_number r next) ≡ plain.then_number o then
then_told s (Ok (v, c)) o next then e w same = rw (← e) (same v c.at (rw (← e) at w))
then_told s (Err c) o next then e w same = rw (← e)

pub line_told : (s : List ℕ) → told_line (scan_line s) ≡ plain.scan_line s
unfolding scan_line plain.scan_line
line_told s =
    then_told s (field_at s 0) _ _ _ (field_told s 0) (field_in s 0 (omega arith)) (λ a p hp.
    then_told s (field_at s p) _ _ _ (field_told s p) (field_in s p hp) (λ b q hq.
    then_told s (field_at s q) _ _ _ (field_told s q) (field_in s q hq) (λ c e he.
    end_told s (skipped s e) _ (skipped_in s e he))))
