-- The scans of the reader, turn by turn, in the words of the code: each law's premises are what a place knows. Assumes
-- nothing.
use Rattle.std.proofs.Common.{◌≡◌, ℕ, ◌+◌, ◌-◌, ◌*◌, ◌<◌, ◌≤◌, Bool, true, false, leb, List, [], ◌∷◌, length, get_or, drop, sym, refl, ◌∙◌, add-one, arith, drop_of_length-le, drop-cons, w64, Fits, leb-true, Option, None}
use borrow.Author.Tests.{lt-leb}
use Rattle.idmap.specs.Good.{no_id}
use Rattle.idmap.specs.Text.{is_blank, is_digit}
use Rattle.idmap.specs.Scan.{span, value, skipped, ended, number_at}
use Rattle.prelude.proofs.Tests.{cond_elim, both}

-- ---- a span of bytes
module _ (p : ℕ → Bool) (s : List ℕ) (i : ℕ) where
  span_step : i < length s → p (get_or s i 0) ≡ true → i + span p (drop i s) ≡ i + 1 + span p (drop (i + 1) s)
  unfolding span
  span_step h t = rw (drop-cons s i 0 h, t, add-one i) (omega arith)

  span_stop : i < length s → p (get_or s i 0) ≡ false → i + span p (drop i s) ≡ i
  unfolding span
  span_stop h t = rw (drop-cons s i 0 h, t) (omega arith)

  span_end : length s ≤ i → i + span p (drop i s) ≡ i
  unfolding span
  span_end h = rw (drop_of_length-le s {i = i} h) (omega arith)

-- ---- skip
module _ (s : List ℕ) (at i : ℕ) (inv : skipped s at ≡ skipped s i) where
  pub skip_step : (t : Bool) → i < length s → t ≡ is_blank (get_or s i 0) → t ≡ true → skipped s at ≡ skipped s (i + 1)
  unfolding skipped
  skip_step t h e y = inv ∙ span_step is_blank s i h (sym e ∙ y)

  pub skip_stop : (t : Bool) → i < length s → t ≡ is_blank (get_or s i 0) → t ≡ false → i ≡ skipped s at
  unfolding skipped
  skip_stop t h e n = sym (inv ∙ span_stop is_blank s i h (sym e ∙ n))

  pub skip_end : length s ≤ i → i ≡ skipped s at
  unfolding skipped
  skip_end h = sym (inv ∙ span_end is_blank s i h)

-- ---- digits
module _ (s : List ℕ) (v i : ℕ) where
  value_step : i < length s → is_digit (get_or s i 0) ≡ true → value v (drop i s) ≡ value (v * 10 + (get_or s i 0 - 48)) (drop (i + 1) s)
  unfolding value
  value_step h t = rw (drop-cons s i 0 h, t, add-one i)

  value_stop : i < length s → is_digit (get_or s i 0) ≡ false → value v (drop i s) ≡ v
  unfolding value
  value_stop h t = rw (drop-cons s i 0 h, t)

  value_end : length s ≤ i → value v (drop i s) ≡ v
  unfolding value
  value_end h = rw (drop_of_length-le s {i = i} h)

-- more digits make no number less
pub value_le : (v : ℕ) (s : List ℕ) → v ≤ value v s
unfolding value
value_le v [] = omega arith
value_le v (c ∷ s) =
    cond_elim (λ (n : ℕ). v ≤ n) (is_digit c) (let h = value_le (v * 10 + (c - 48)) s in omega arith) (omega arith)

-- the number from `at`, of which v was read up to i
pub number_from : List ℕ → ℕ → ℕ → ℕ → Option (ℕ × ℕ)
number_from s at v i = ended at (i + span is_digit (drop i s)) (value v (drop i s))

pub number_starts : (s : List ℕ) (at : ℕ) → number_at s at ≡ number_from s at 0 at
unfolding number_at number_from
number_starts s at = refl

module _ (c : ℕ) (t : Bool) (e : t ≡ is_digit c) (y : t ≡ true) where
  digit_bounds : (48 ≤ c) × (c ≤ 57)
  digit_bounds =
      let h = both (leb 48 c) (leb c 57) (sym e ∙ y) in
      (leb-true 48 c h.0, leb-true c 57 h.1)

  pub digit_adds : (v : ℕ) → v ≤ no_id → Fits w64 (v * 10 + (c - 48))
  digit_adds v small = let h = digit_bounds in omega arith

module _ (s : List ℕ) (at v i : ℕ) (inv : number_at s at ≡ number_from s at v i) where
  pub number_step : (t : Bool) → i < length s → t ≡ is_digit (get_or s i 0) → t ≡ true → number_at s at ≡ number_from s at (v * 10 + (get_or s i 0 - 48)) (i + 1)
  unfolding number_from
  number_step t h e y = inv ∙ rw (span_step is_digit s i h (sym e ∙ y), value_step s v i h (sym e ∙ y))

  pub number_stop : (t : Bool) (r : Option (ℕ × ℕ)) → i < length s → t ≡ is_digit (get_or s i 0) → t ≡ false → r ≡ ended at i v → r ≡ number_at s at
  unfolding number_from
  number_stop t r h e n m = m ∙ sym (inv ∙ rw (span_stop is_digit s i h (sym e ∙ n), value_stop s v i h (sym e ∙ n)))

  pub number_end : (r : Option (ℕ × ℕ)) → length s ≤ i → r ≡ ended at i v → r ≡ number_at s at
  unfolding number_from
  number_end r h m = m ∙ sym (inv ∙ rw (span_end is_digit s i h, value_end s v i h))

  pub number_over : (t : Bool) → i < length s → t ≡ is_digit (get_or s i 0) → t ≡ true → no_id < v * 10 + (get_or s i 0 - 48) → None ≡ number_at s at
  unfolding number_from ended
  number_over t h e y o =
      let w = v * 10 + (get_or s i 0 - 48) in
      let k = value_le w (drop (i + 1) s) in
      sym (number_step t h e y ∙ rw (lt-leb (value w (drop (i + 1) s)) no_id (omega arith)))
