-- The laws of rows kept in a list of words: what a store of one whole row does to the rows as they are read.
use Prim.Native.Nat.{ℕ, zero, suc, ◌+◌, ◌*◌, ◌≤◌, ◌<◌}
use mathlib.Core.Path.{◌≡◌, refl, sym, ap, ap₂, ◌∙◌}
use mathlib.Core.List.{List, ◌∷◌}
use mathlib.Core.Logic.{⊎_elim, ◌⊎◌, inl, inr}
use native.Mathlib.Omega.{arith}
use native.Mathlib.Nat.{zero-mul, suc-mul, not-suc-le-zero, le_of_suc-le-suc}
use lib.ListN.{length, get_or, set, get_or-eq_default}
use lib.Seq.{set_out, set-get_or}
use Rattle.prelude.specs.Parts.{part, put_at}
use Rattle.rows.specs.Rows.{rows}
use Rattle.prelude.proofs.Parts.{part_put_same, part_put_apart}

module _ {A : Type 0} (dec : List ℕ → A) (w : ℕ) where
  pub length_rows : (n at : ℕ) (l : List ℕ) → length (rows dec w n at l) ≡ n
  unfolding rows
  length_rows zero at l = refl
  length_rows (suc n) at l = ap suc (length_rows n (at + w) l)

  -- Reading: row i.
  pub get_d_rows : (n at : ℕ) (l : List ℕ) (i : ℕ) (d : A) → i < n → get_or (rows dec w n at l) i d ≡ dec (part w (at + i * w) l)
  unfolding rows
  get_d_rows zero at l i d h = absurd (not-suc-le-zero h)
  get_d_rows (suc n) at l zero d h = ap (λ (k : ℕ). dec (part w k l)) (omega (arith, zero-mul w))
  get_d_rows (suc n) at l (suc i) d h = get_d_rows n (at + w) l i d (le_of_suc-le-suc h) ∙ ap (λ (k : ℕ). dec (part w k l)) (omega (arith, suc-mul i w))

  -- row i, with its place as the code has it
  pub row_get : (n at : ℕ) (l : List ℕ) (i : ℕ) (d : A) (k : ℕ) → k ≡ at + i * w → i < n → get_or (rows dec w n at l) i d ≡ dec (part w k l)
  row_get n at l i d k q h = rw q (get_d_rows n at l i d h)

  -- a row past the region
  pub row_none : (n at : ℕ) (l : List ℕ) (i : ℕ) (d : A) → n ≤ i → get_or (rows dec w n at l) i d ≡ d
  row_none n at l i d h = get_or-eq_default (rows dec w n at l) d (omega (arith, length_rows n at l))

  pub row_out : (n at : ℕ) (l : List ℕ) (i : ℕ) (a : A) → n ≤ i → set (rows dec w n at l) i a ≡ rows dec w n at l
  row_out n at l i a h = set_out (rows dec w n at l) i a (omega (arith, length_rows n at l))

  -- Storing: a region apart from the words that are put keeps its rows.
  pub rows_apart : (n at : ℕ) (l : List ℕ) (a : ℕ) (vs : List ℕ) → (a + length vs ≤ at) ⊎ (at + n * w ≤ a)
      → rows dec w n at (put_at l a vs) ≡ rows dec w n at l
  unfolding rows
  rows_apart zero at l a vs apart = refl
  rows_apart (suc n) at l a vs apart =
      ap₂ (λ (x : A) (xs : List A). x ∷ xs)
      (ap dec (part_put_apart l a vs w at (⊎_elim (λ h. inl h) (λ h. inr (omega (arith, suc-mul n w))) apart)))
      (rows_apart n (at + w) l a vs (⊎_elim (λ h. inl (omega arith)) (λ h. inr (omega (arith, suc-mul n w))) apart))

  -- a whole row put at row i's place sets row i, and no other
  pub rows_put : (n at : ℕ) (l : List ℕ) (i : ℕ) (vs : List ℕ) → i < n → length vs ≡ w → at + n * w ≤ length l
      → rows dec w n at (put_at l (at + i * w) vs) ≡ set (rows dec w n at l) i (dec vs)
  unfolding rows
  rows_put zero at l i vs h e fits = absurd (not-suc-le-zero h)
  rows_put (suc n) at l zero vs h e fits =
      let z : at + 0 * w ≡ at = omega (arith, zero-mul w) in
      let f : at + length vs ≤ length l = omega (arith, suc-mul n w) in
      rw z (ap₂ (λ (x : A) (xs : List A). x ∷ xs)
      (ap (λ (k : ℕ). dec (part k at (put_at l at vs))) (sym e) ∙ ap dec (part_put_same l at vs f))
      (rows_apart n (at + w) l at vs (inl (omega arith))))
  rows_put (suc n) at l (suc i) vs h e fits =
      let s : at + suc i * w ≡ at + w + i * w = omega (arith, suc-mul i w) in
      rw s (ap₂ (λ (x : A) (xs : List A). x ∷ xs)
      (ap dec (part_put_apart l (at + w + i * w) vs w at (inr (omega arith))))
      (rows_put n (at + w) l i vs (le_of_suc-le-suc h) e (omega (arith, suc-mul n w))))

  -- the same, with the row's place as the code has it
  pub row_put : (n at : ℕ) (l : List ℕ) (i : ℕ) (vs : List ℕ) (k : ℕ) → k ≡ at + i * w → i < n → length vs ≡ w → at + n * w ≤ length l
      → rows dec w n at (put_at l k vs) ≡ set (rows dec w n at l) i (dec vs)
  row_put n at l i vs k q h e fits = rw q (rows_put n at l i vs h e fits)

  -- words put within row i change that row, and no other: the row is read anew
  pub rows_within : (n at : ℕ) (l : List ℕ) (i k : ℕ) (vs : List ℕ) → i < n → k + length vs ≤ w
      → rows dec w n at (put_at l (at + i * w + k) vs) ≡ set (rows dec w n at l) i (dec (part w (at + i * w) (put_at l (at + i * w + k) vs)))
  unfolding rows
  rows_within zero at l i k vs h e = absurd (not-suc-le-zero h)
  rows_within (suc n) at l zero k vs h e =
      let z : at + 0 * w ≡ at = omega (arith, zero-mul w) in
      rw z (ap (λ (xs : List A). dec (part w at (put_at l (at + k) vs)) ∷ xs) (rows_apart n (at + w) l (at + k) vs (inl (omega arith))))
  rows_within (suc n) at l (suc i) k vs h e =
      let s : at + suc i * w ≡ at + w + i * w = omega (arith, suc-mul i w) in
      rw s (ap₂ (λ (x : A) (xs : List A). x ∷ xs)
      (ap dec (part_put_apart l (at + w + i * w + k) vs w at (inr (omega arith))))
      (rows_within n (at + w) l i k vs (le_of_suc-le-suc h) e))

  -- a row that reads as before leaves all as they were
  pub rows_still : (n at : ℕ) (l : List ℕ) (i k : ℕ) (vs : List ℕ) (d : A) → i < n → k + length vs ≤ w
      → dec (part w (at + i * w) (put_at l (at + i * w + k) vs)) ≡ dec (part w (at + i * w) l) → rows dec w n at (put_at l (at + i * w + k) vs) ≡ rows dec w n at l
  rows_still n at l i k vs d h e q =
      rows_within n at l i k vs h e ∙ ap (set (rows dec w n at l) i) (q ∙ sym (get_d_rows n at l i d h)) ∙ set-get_or (rows dec w n at l) i d
