-- Numbers that are read from bytes. Assumes nothing.
use Prim.Native.Nat.{ℕ, zero, suc, ◌+◌, ◌*◌, ◌≤◌, ◌<◌, ◌^◌}
use mathlib.Core.Path.{◌≡◌, refl, sym, ap, ◌∙◌}
use mathlib.Core.List.{List, [], ◌∷◌}
use native.Mathlib.Omega.{arith}
use lib.ListN.{length, get_or, set, drop}
use lib.Seq.{paste, paste-zero, get_or-take, get_or-drop}
use Rattle.std.specs.Int.{w16, w32, w64, from_be_bytes}
use Rattle.prelude.specs.Parts.{part, put_at}
use Rattle.prelude.specs.Lists.{tab}
use Rattle.prelude.proofs.Parts.{length_part, put_step, put_all}
use Rattle.prelude.proofs.Made.{tab_all}
use Rattle.journal.specs.Numbers.{number_from, number_at, numbers_at}

-- ---- the library reads bytes so
module _ (l : List ℕ) (small : (i : ℕ) → i < length l → get_or l i 0 < 2 ^ 8) where
  pub two_bytes : length l ≡ 2 → from_be_bytes w16 l ≡ number_from 0 l
  unfolding number_from
  two_bytes e =
      let x0 = small 0 (omega arith) in
      let x1 = small 1 (omega arith) in
      let one_by_one : from_be_bytes w16 l ≡ number_from 0 (get_or l 0 0 ∷ get_or l 1 0 ∷ []) = omega arith in
      one_by_one ∙ ap (number_from 0) (tab_all l 0 2 e)

  pub four_bytes : length l ≡ 4 → from_be_bytes w32 l ≡ number_from 0 l
  unfolding number_from
  four_bytes e =
      let x0 = small 0 (omega arith) in
      let x1 = small 1 (omega arith) in
      let x2 = small 2 (omega arith) in
      let x3 = small 3 (omega arith) in
      let one_by_one : from_be_bytes w32 l ≡ number_from 0 (get_or l 0 0 ∷ get_or l 1 0 ∷ get_or l 2 0 ∷ get_or l 3 0 ∷ []) = omega arith in
      one_by_one ∙ ap (number_from 0) (tab_all l 0 4 e)

  pub eight_bytes : length l ≡ 8 → from_be_bytes w64 l ≡ number_from 0 l
  unfolding number_from
  eight_bytes e =
      let x0 = small 0 (omega arith) in
      let x1 = small 1 (omega arith) in
      let x2 = small 2 (omega arith) in
      let x3 = small 3 (omega arith) in
      let x4 = small 4 (omega arith) in
      let x5 = small 5 (omega arith) in
      let x6 = small 6 (omega arith) in
      let x7 = small 7 (omega arith) in
      let one_by_one : from_be_bytes w64 l ≡ number_from 0 (get_or l 0 0 ∷ get_or l 1 0 ∷ get_or l 2 0 ∷ get_or l 3 0 ∷ get_or l 4 0 ∷ get_or l 5 0 ∷ get_or l 6 0 ∷ get_or l 7 0 ∷ []) = omega arith in
      one_by_one ∙ ap (number_from 0) (tab_all l 0 8 e)

-- those at a place
module _ (w at : ℕ) (l : List ℕ) (small : (i : ℕ) → get_or l i 0 < 2 ^ 8) (fits : at + w ≤ length l) where
  part_small : (i : ℕ) → i < length (part w at l) → get_or (part w at l) i 0 < 2 ^ 8
  unfolding part
  part_small i h =
      let long = length_part w at l fits in
      rw (get_or-take w (drop at l) i 0 (omega arith), get_or-drop at l i 0) (small (at + i))

module _ (at r : ℕ) (l bs : List ℕ) (small : (i : ℕ) → get_or l i 0 < 2 ^ 8) where
  pub size_read : at + 2 ≤ length l → bs ≡ part 2 at l → r ≡ from_be_bytes w16 bs → r ≡ number_at 2 at l
  unfolding number_at
  size_read fits e q = q ∙ ap (from_be_bytes w16) e ∙ two_bytes (part 2 at l) (part_small 2 at l small fits) (length_part 2 at l fits)

  pub number_read : at + 4 ≤ length l → bs ≡ part 4 at l → r ≡ from_be_bytes w32 bs → r ≡ number_at 4 at l
  unfolding number_at
  number_read fits e q = q ∙ ap (from_be_bytes w32) e ∙ four_bytes (part 4 at l) (part_small 4 at l small fits) (length_part 4 at l fits)

  pub name_read : at + 8 ≤ length l → bs ≡ part 8 at l → r ≡ from_be_bytes w64 bs → r ≡ number_at 8 at l
  unfolding number_at
  name_read fits e q = q ∙ ap (from_be_bytes w64) e ∙ eight_bytes (part 8 at l) (part_small 8 at l small fits) (length_part 8 at l fits)

-- ---- a list of them
pub length_tab : {A : Type 0} (f : ℕ → A) (n k : ℕ) → length (tab f n k) ≡ n
length_tab f zero k = refl
length_tab f (suc n) k = ap suc (length_tab f n (suc k))

pub tab_get : {A : Type 0} (f : ℕ → A) (n k i : ℕ) (d : A) → i < n → get_or (tab f n k) i d ≡ f (k + i)
tab_get f zero k i d h = absurd (omega arith)
tab_get f (suc n) k zero d h = let e : k ≡ k + 0 = omega arith in ap f e
tab_get f (suc n) k (suc i) d h = let e : suc k + i ≡ k + suc i = omega arith in tab_get f n (suc k) i d (omega arith) ∙ ap f e

tab_past : {A : Type 0} (f : ℕ → A) (n k i : ℕ) (d : A) → n ≤ i → get_or (tab f n k) i d ≡ d
tab_past f zero k i d h = refl
tab_past f (suc n) k zero d h = absurd (omega arith)
tab_past f (suc n) k (suc i) d h = tab_past f n (suc k) i d (omega arith)

-- one of them, and 0 past the last
pub numbers_get : (w k at i : ℕ) (l : List ℕ) → i < k → get_or (numbers_at w k at l) i 0 ≡ number_at w (at + w * i) l
numbers_get w k at i l h =
    let z : 0 + i ≡ i = omega arith in
    tab_get (λ (j : ℕ). number_at w (at + w * j) l) k 0 i 0 h ∙ ap (λ (j : ℕ). number_at w (at + w * j) l) z

pub numbers_past : (w k at i : ℕ) (l : List ℕ) → k ≤ i → get_or (numbers_at w k at l) i 0 ≡ 0
numbers_past w k at i l h = tab_past (λ (j : ℕ). number_at w (at + w * j) l) k 0 i 0 h

module _ (a n : ℕ) (s l t : List ℕ) (i : ℕ) where
  -- those that the list is to have at its start
  abbrev vs : List ℕ
  vs = numbers_at 4 n a s

  pub list_starts : l ≡ paste l 0 vs 0
  list_starts = paste-zero l 0 vs

  pub list_step : (x : ℕ) → n ≤ length l → i < n → x ≡ number_at 4 (a + 4 * i) s → t ≡ paste l 0 vs i → set t i x ≡ paste l 0 vs (i + 1)
  list_step x most h p e =
      let f : ℕ → ℕ = λ (j : ℕ). number_at 4 (a + 4 * j) s in
      let many = length_tab f n 0 in
      let z : 0 + i ≡ i = omega arith in
      let v : x ≡ get_or vs i 0 = p ∙ sym (rw z at (tab_get f n 0 i 0 h)) in
      ap (set t i) v ∙ (rw z at (put_step l 0 vs t i (omega arith) (omega arith) e))

  pub list_done : n ≤ length l → i ≤ n → n ≤ i → t ≡ paste l 0 vs i → t ≡ put_at l 0 vs
  list_done most h k e =
      let many = length_tab (λ (j : ℕ). number_at 4 (a + 4 * j) s) n 0 in
      put_all l 0 vs t i (omega arith) (omega arith) (omega arith) e

pub ruleset gets = (list_starts, list_step)
