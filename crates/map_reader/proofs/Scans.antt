-- The scans of the reader, turn by turn, in the words of the code: each law's premises are what a place knows. Assumes
-- nothing.
use Rattle.std.proofs.Common.{◌≡◌, ℕ, ◌+◌, ◌-◌, ◌*◌, ◌^◌, ◌<◌, ◌≤◌, min, Bool, true, false, eqb, ltb, leb, List, [], ◌∷◌, length, get_or, drop, sym, refl, ap, ◌∙◌, true≢false, add-one, arith, drop_of_length-le, drop-cons, w64, Fits, ltb-false, ltb-true, le-ltb, lt-ltb, eq-eqb, ne_eqb, le-leb, Result, Ok, Err}
use borrow.Author.Tests.{lt-leb}
use Rattle.idmap.specs.declared.Line.{Line}
use Rattle.map_reader.specs.declared.text.Seen.{Seen}
use Rattle.idmap.specs.Good.{no_id}
use Rattle.idmap.specs.Text.{is_blank, is_digit}
use Rattle.idmap.specs.Scan.{skipped}
use Rattle.map_reader.specs.Scan.{byte_at, see_of, seen_at, ended, number_from, number_at, field_at, line_end, then_number, scan_line}
use Rattle.prelude.proofs.Tests.{by_test, cond_elim}
use Rattle.idmap.proofs.Scans as plain

-- ---- a place that is seen
-- the first place is seen after no bytes
pub see_first : (s : List ℕ) (c : Seen) → c ≡ see_of s 0 0 → c ≡ seen_at s c.at
unfolding see_of seen_at
see_first s c e =
    rw e
    (by_test (ltb 0 (length s))
    (λ t. let h = ltb-true 0 (length s) t in let m : min (0 + 1) (length s) ≡ 1 = omega arith in rw (t, m))
    (λ t. let h = ltb-false 0 (length s) t in let m : min (0 + 1) (length s) ≡ 0 = omega arith in rw (t, m)))

byte_in : (s : List ℕ) (at : ℕ) → at < length s → byte_at s at ≡ get_or s at 0
unfolding byte_at
byte_in s at h = rw (lt-ltb at (length s) h)

byte_end : (s : List ℕ) (at : ℕ) → length s ≤ at → byte_at s at ≡ 10
unfolding byte_at
byte_end s at h = rw (le-ltb at (length s) h)

module _ (s : List ℕ) (c : Seen) (seen : c ≡ seen_at s c.at) where
  seen_byte : c.byte ≡ byte_at s c.at
  unfolding seen_at
  seen_byte = ap (λ (d : Seen). d.byte) seen

  seen_bytes : c.bytes ≡ min (c.at + 1) (length s)
  unfolding seen_at
  seen_bytes = ap (λ (d : Seen). d.bytes) seen

  pub seen_within : c.bytes ≤ length s
  seen_within = let k = seen_bytes in omega arith

  -- a byte that passes a test which a newline does not pass is in the text
  passes_in : (p : ℕ → Bool) → p 10 ≡ false → p c.byte ≡ true → c.at < length s
  passes_in p n t =
      by_test (ltb c.at (length s))
      (λ u. ltb-true c.at (length s) u)
      (λ u. absurd (true≢false (sym t ∙ ap p (seen_byte ∙ byte_end s c.at (ltb-false c.at (length s) u)) ∙ n)))

  stays_in : c.at < length s → c.byte ≡ get_or s c.at 0
  stays_in h = seen_byte ∙ byte_in s c.at h

  -- the next place, whose byte counts one more
  see_next : c.at < length s → (d : Seen) → d ≡ see_of s (c.at + 1) c.bytes → d ≡ seen_at s (c.at + 1)
  unfolding see_of seen_at
  see_next h d e =
      let b : c.bytes ≡ c.at + 1 = (let k = seen_bytes in omega arith) in
      e
      ∙ by_test (ltb (c.at + 1) (length s))
      (λ t. let k = ltb-true (c.at + 1) (length s) t in let m : min (c.at + 1 + 1) (length s) ≡ c.at + 1 + 1 = omega arith in rw (t, b, m))
      (λ t. let k = ltb-false (c.at + 1) (length s) t in let m : min (c.at + 1 + 1) (length s) ≡ c.at + 1 = omega arith in rw (t, b, m))

  pub counted : c.bytes ≤ c.at + 1
  counted = let k = seen_bytes in omega arith

  -- a turn at a byte that passes a test, as a newline does not
  module _ (p : ℕ → Bool) (n : p 10 ≡ false) (t : Bool) (e : t ≡ p c.byte) (y : t ≡ true) where
    pub in_text : c.at < length s
    in_text = passes_in p n (sym e ∙ y)

    pub next_fits : length s < 2 ^ 64 → Fits w64 (c.at + 1)
    next_fits room = let h = in_text in omega arith

    module _ (d : Seen) (f : d ≡ see_of s (c.at + 1) c.bytes) where
      next_at : d.at ≡ c.at + 1
      unfolding see_of
      next_at = ap (λ (x : Seen). x.at) f

      pub next_seen : d ≡ seen_at s d.at
      next_seen = see_next in_text d f ∙ ap (seen_at s) (sym next_at)

      pub next_less : length s - d.at < length s - c.at
      next_less = let h = in_text in let k = next_at in omega arith

-- ---- skip
module _ (s : List ℕ) (c : Seen) (seen : c ≡ seen_at s c.at) (at : ℕ) (inv : skipped s at ≡ skipped s c.at) (t : Bool) (e : t ≡ is_blank c.byte) where
  pub skip_step : t ≡ true → (d : Seen) → d ≡ see_of s (c.at + 1) c.bytes → skipped s at ≡ skipped s d.at
  skip_step y d f =
      let h = in_text s c seen is_blank refl t e y in
      plain.skip_step s at c.at inv t h (e ∙ ap is_blank (stays_in s c seen h)) y ∙ sym (ap (skipped s) (next_at s c seen is_blank refl t e y d f))

  stop_at : t ≡ false → c.at ≡ skipped s at
  stop_at n =
      by_test (ltb c.at (length s))
      (λ u. let h = ltb-true c.at (length s) u in plain.skip_stop s at c.at inv t h (e ∙ ap is_blank (stays_in s c seen h)) n)
      (λ u. plain.skip_end s at c.at inv (ltb-false c.at (length s) u))

  pub skip_stop : t ≡ false → c ≡ seen_at s (skipped s at)
  skip_stop n = seen ∙ ap (seen_at s) (stop_at n)

-- ---- digits
pub number_starts : (s : List ℕ) (at : ℕ) → number_at s at ≡ number_from s at 0 at (drop at s)
unfolding number_at
number_starts s at = refl

module _ (s : List ℕ) (at v i : ℕ) where
  number_step : i < length s → is_digit (get_or s i 0) ≡ true → v * 10 + (get_or s i 0 - 48) ≤ no_id
      → number_from s at v i (drop i s) ≡ number_from s at (v * 10 + (get_or s i 0 - 48)) (i + 1) (drop (i + 1) s)
  unfolding number_from
  number_step h t k = rw (drop-cons s i 0 h, t, le-leb (v * 10 + (get_or s i 0 - 48)) no_id k, add-one i)

  number_over : i < length s → is_digit (get_or s i 0) ≡ true → no_id < v * 10 + (get_or s i 0 - 48)
      → number_from s at v i (drop i s) ≡ Err (seen_at s i)
  unfolding number_from
  number_over h t k = rw (drop-cons s i 0 h, t, lt-leb (v * 10 + (get_or s i 0 - 48)) no_id k)

  number_stop : i < length s → is_digit (get_or s i 0) ≡ false → number_from s at v i (drop i s) ≡ ended at (seen_at s i) v
  unfolding number_from
  number_stop h t = rw (drop-cons s i 0 h, t)

  number_end : length s ≤ i → number_from s at v i (drop i s) ≡ ended at (seen_at s i) v
  unfolding number_from
  number_end h = rw (drop_of_length-le s {i = i} h)

module _ (s : List ℕ) (c : Seen) (seen : c ≡ seen_at s c.at) (at v : ℕ) (inv : number_at s at ≡ number_from s at v c.at (drop c.at s)) (t : Bool) (e : t ≡ is_digit c.byte) where
  module _ (y : t ≡ true) where
    inside : c.at < length s
    inside = in_text s c seen is_digit refl t e y

    here : c.byte ≡ get_or s c.at 0
    here = stays_in s c seen inside

    passes : is_digit (get_or s c.at 0) ≡ true
    passes = sym (e ∙ ap is_digit here) ∙ y

    pub digits_over : no_id < v * 10 + (c.byte - 48) → Err c ≡ number_at s at
    digits_over o = ap Err seen ∙ sym (inv ∙ number_over s at v c.at inside passes (rw here at o))

    pub digits_step : v * 10 + (c.byte - 48) ≤ no_id → (d : Seen) → d ≡ see_of s (c.at + 1) c.bytes
        → number_at s at ≡ number_from s at (v * 10 + (c.byte - 48)) d.at (drop d.at s)
    digits_step k d f =
        rw (next_at s c seen is_digit refl t e y d f, here) (inv ∙ number_step s at v c.at inside passes (rw here at k))

  module _ (n : t ≡ false) where
    stops : ended at c v ≡ number_at s at
    stops =
        ap (λ (d : Seen). ended at d v) seen
        ∙ sym (inv
        ∙ by_test (ltb c.at (length s))
        (λ u. let h = ltb-true c.at (length s) u in number_stop s at v c.at h (sym (e ∙ ap is_digit (stays_in s c seen h)) ∙ n))
        (λ u. number_end s at v c.at (ltb-false c.at (length s) u)))

    pub digits_none : c.at ≡ at → Err c ≡ number_at s at
    unfolding ended
    digits_none h = (rw (eq-eqb c.at at h) at stops)

    pub digits_some : (c.at ≡ at → ⊥) → Ok (v, c) ≡ number_at s at
    unfolding ended
    digits_some h = (rw (ne_eqb c.at at h) at stops)

-- ---- field
pub skipped_seen : (s : List ℕ) (at : ℕ) (c : Seen) → c ≡ seen_at s (skipped s at) → c ≡ seen_at s c.at
unfolding seen_at
skipped_seen s at c e = e ∙ ap (seen_at s) (sym (ap (λ (d : Seen). d.at) e))

pub field_is : (s : List ℕ) (at : ℕ) (c : Seen) (r : Result (ℕ × Seen) Seen) → c ≡ seen_at s (skipped s at) → r ≡ number_at s c.at → r ≡ field_at s at
unfolding field_at seen_at
field_is s at c r e f = f ∙ ap (number_at s) (ap (λ (d : Seen). d.at) e)

-- ---- what is told with a number or a line is a place that is seen
abbrev pub Places : {A : Type 0} → List ℕ → Result (A × Seen) Seen → Type 0
Places s (Ok (v, c)) = c ≡ seen_at s c.at
Places s (Err c) = c ≡ seen_at s c.at

seen_here : (s : List ℕ) (i : ℕ) → seen_at s i ≡ seen_at s (seen_at s i).at
unfolding seen_at
seen_here s i = refl

ended_seen : (s : List ℕ) (at i v : ℕ) → Places s (ended at (seen_at s i) v)
unfolding ended
ended_seen s at i v = cond_elim (λ (r : Result (ℕ × Seen) Seen). Places s r) (eqb (seen_at s i).at at) (seen_here s i) (seen_here s i)

number_seen : (s : List ℕ) (at v i : ℕ) (l : List ℕ) → Places s (number_from s at v i l)
unfolding number_from
number_seen s at v i [] = ended_seen s at i v
number_seen s at v i (c ∷ l) =
    cond_elim (λ (r : Result (ℕ × Seen) Seen). Places s r) (is_digit c)
    (cond_elim (λ (r : Result (ℕ × Seen) Seen). Places s r) (leb (v * 10 + (c - 48)) no_id) (number_seen s at (v * 10 + (c - 48)) (i + 1) l) (seen_here s i))
    (ended_seen s at i v)

field_places : (s : List ℕ) (at : ℕ) → Places s (field_at s at)
unfolding field_at number_at
field_places s at = number_seen s (skipped s at) 0 (skipped s at) (drop (skipped s at) s)

pub field_seen : (s : List ℕ) (at : ℕ) (r : Result (ℕ × Seen) Seen) (v : ℕ) (c : Seen) → r ≡ field_at s at → r ≡ Ok (v, c) → c ≡ seen_at s c.at
field_seen s at r v c f e = rw (sym f ∙ e) at (field_places s at)

then_places : (s : List ℕ) (r : Result (ℕ × Seen) Seen) (next : ℕ → ℕ → Result (Line × Seen) Seen) → Places s r → ((v e : ℕ) → Places s (next v e)) → Places s (then_number r next)
then_places s (Ok (v, c)) next p q = q v c.at
then_places s (Err c) next p q = p

end_places : (s : List ℕ) (e : ℕ) (l : Line) → Places s (line_end (seen_at s e) l)
unfolding line_end
end_places s e l = cond_elim (λ (r : Result (Line × Seen) Seen). Places s r) (eqb (seen_at s e).byte 10) (seen_here s e) (seen_here s e)

pub line_places : (s : List ℕ) → Places s (scan_line s)
unfolding scan_line
line_places s =
    then_places s (field_at s 0) _ (field_places s 0) (λ a p.
    then_places s (field_at s p) _ (field_places s p) (λ b q.
    then_places s (field_at s q) _ (field_places s q) (λ c e. end_places s (skipped s e) _)))
