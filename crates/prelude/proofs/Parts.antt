-- The laws of a part of a list and of a store into one: what is put is there, and everything else is as it was. Assumes
-- nothing.
use Prim.Native.Nat.{ℕ, zero, suc, ◌+◌, ◌≤◌, ◌<◌, ◌-◌, min}
use mathlib.Core.Path.{◌≡◌, refl, sym, ap, ◌∙◌}
use mathlib.Core.Bool.{true, false}
use mathlib.Core.List.{List, [], ◌∷◌, ◌++◌, append_assoc}
use mathlib.Core.Logic.{⊎_elim, ◌⊎◌, inl, inr}
use native.Mathlib.Numerals.{add-one}
use native.Mathlib.Omega.{arith}
use lib.Dec.{leb}
use lib.ListN.{length, get_or, set, take, drop, length-set, length-append, length-take, length-drop, drop_of_length-le, get_or-append}
use lib.Seq.{drop_at, drop-length, take_all, take-nil, take-append_seam, take-length, length-take-le, drop-drop, take-take}
use lib.Seq.{ext_get_or, get_or-take, get_or-drop, get_or-append-add, paste, paste-zero, paste-suc}
use borrow.Rule.Slice.PartMut.{put_mid}
use Rattle.std.proofs.lemmas.Slice.{put_mid-paste}
use borrow.Author.Tests.{le-leb, lt-leb, leb-true, leb-false}
use Rattle.prelude.proofs.Tests.{by_test}
use Rattle.prelude.specs.Parts.{part, fits_at, put_at}

-- A part of a list.
module _ {A : Type 0} (w at : ℕ) (l : List A) where
  pub length_part : at + w ≤ length l → length (part w at l) ≡ w
  unfolding part
  length_part h = simp (length-take, length-drop) (omega arith)

  -- a part as a range of the code, `&t[at..end]` with `end = at + w`
  pub part_range : take (at + w - at) (drop at l) ≡ part w at l
  unfolding part
  part_range = let e : at + w - at ≡ w = omega arith in rw e

  -- a part that the code cuts off at the list's end
  pub part_kept : (from n : ℕ) → from ≡ min at (length l) → n ≡ min w (length (take (length l - from) (drop from l)))
      → take n (take (length l - from) (drop from l)) ≡ part w at l
  unfolding part
  part_kept from n e f =
      let long : length (drop at l) ≡ length l - at = length-drop at l in
      let all : length (take (length l - from) (drop from l)) ≡ length l - from = simp (length-take, length-drop) (omega arith) in
      let same : drop from l ≡ drop at l = by_test (leb at (length l))
      (λ t. let h = leb-true at (length l) t in let q : from ≡ at = omega arith in rw q)
      (λ t. let h = leb-false at (length l) t in drop_of_length-le l {i = from} (omega arith) ∙ sym (drop_of_length-le l {i = at} (omega arith))) in
      rw same (ap (take n) (take_all (length l - from) (drop at l) (omega arith)) ∙ by_test (leb w (length l - from))
      (λ t. let h = leb-true w (length l - from) t in let q : n ≡ w = omega arith in rw q)
      (λ t. let h = leb-false w (length l - from) t in take_all n (drop at l) (omega arith) ∙ sym (take_all w (drop at l) (omega arith))))

-- two lists of one length that agree on the w places from at on have one part there
part_agree : (w at : ℕ) (l l' : List ℕ) → length l ≡ length l' → ((j : ℕ) → j < w → get_or l (at + j) 0 ≡ get_or l' (at + j) 0)
    → part w at l ≡ part w at l'
unfolding part
part_agree w at l l' e same =
    ext_get_or 0 (take w (drop at l)) (take w (drop at l')) (simp (length-take, length-drop, e))
    (λ i h.
    let b : i < w = omega (arith, simp (length-take, length-drop) at h) in
    get_or-take w (drop at l) i 0 b ∙ get_or-drop at l i 0 ∙ same i b ∙ sym (get_or-drop at l' i 0) ∙ sym (get_or-take w (drop at l') i 0 b))

-- A store that fits.
module _ {A : Type 0} (l : List A) (at : ℕ) (vs : List A) (fits : at + length vs ≤ length l) where
  pub fits_inside : fits_at l at vs ≡ true
  unfolding fits_at
  fits_inside = le-leb (at + length vs) (length l) fits

  pub put_inside : put_at l at vs ≡ take at l ++ vs ++ drop (at + length vs) l
  unfolding put_at
  put_inside = rw fits_inside

  length_head : length (take at l ++ vs) ≡ at + length vs
  length_head = simp (length-append, length-take) (omega arith)

  length_inside : length (put_at l at vs) ≡ length l
  length_inside = rw put_inside (simp (length-append, length-take, length-drop) (omega arith))

  -- what was put is read again
  pub part_put_same : part (length vs) at (put_at l at vs) ≡ vs
  unfolding part
  part_put_same =
      let rest = drop (at + length vs) l in
      rw (put_inside, append_assoc (take at l) vs rest)
      (rw (drop_at (take at l) (vs ++ rest) at (length-take-le at l (omega arith))) (take-append_seam vs rest))

-- What it leaves and puts, element by element.
module _ (l : List ℕ) (at : ℕ) (vs : List ℕ) (fits : at + length vs ≤ length l) where
  put_before : (j : ℕ) → j < at → get_or (put_at l at vs) j 0 ≡ get_or l j 0
  put_before j h =
      rw (put_inside l at vs fits) (get_or-append (take at l ++ vs) (drop (at + length vs) l) 0 j (omega (arith, length_head l at vs fits)))
      ∙ get_or-append (take at l) vs 0 j (omega (arith, length-take-le at l (omega arith)))
      ∙ get_or-take at l j 0 h

  put_after : (j : ℕ) → at + length vs ≤ j → get_or (put_at l at vs) j 0 ≡ get_or l j 0
  put_after j h =
      let k = j - (at + length vs) in
      let e : j ≡ length (take at l ++ vs) + k = omega (arith, length_head l at vs fits) in
      let e2 : at + length vs + k ≡ j = omega arith in
      rw (put_inside l at vs fits) (ap (λ (n : ℕ). get_or (take at l ++ vs ++ drop (at + length vs) l) n 0) e)
      ∙ get_or-append-add (take at l ++ vs) (drop (at + length vs) l) k 0
      ∙ get_or-drop (at + length vs) l k 0
      ∙ ap (λ (n : ℕ). get_or l n 0) e2

  -- element i of what was put
  pub put_word : (i : ℕ) → i < length vs → get_or (put_at l at vs) (at + i) 0 ≡ get_or vs i 0
  unfolding part
  put_word i h =
      sym (get_or-drop at (put_at l at vs) i 0)
      ∙ sym (get_or-take (length vs) (drop at (put_at l at vs)) i 0 h)
      ∙ ap (λ (s : List ℕ). get_or s i 0) (part_put_same l at vs fits)

-- A store, whether it fits or not.
module _ {A : Type 0} (l : List A) (at : ℕ) (vs : List A) where
  pub fits_outside : length l < at + length vs → fits_at l at vs ≡ false
  unfolding fits_at
  fits_outside h = lt-leb (at + length vs) (length l) h

  -- what does not all fit changes nothing
  pub put_outside : length l < at + length vs → put_at l at vs ≡ l
  unfolding put_at
  put_outside h = rw (fits_outside h)

  by_fit : {P : Type 0} → (at + length vs ≤ length l → P) → (length l < at + length vs → P) → P
  by_fit f g =
      by_test (leb (at + length vs) (length l)) (λ t. f (leb-true (at + length vs) (length l) t)) (λ t. g (leb-false (at + length vs) (length l) t))

  pub length_put : length (put_at l at vs) ≡ length l
  length_put = by_fit (length_inside l at vs) (λ h. ap length (put_outside h))

-- What lies outside of it.
module _ (l : List ℕ) (at : ℕ) (vs : List ℕ) where
  -- every element before and after those that are put keeps its value
  pub put_elsewhere : (j : ℕ) → (at + length vs ≤ j) ⊎ (j < at) → get_or (put_at l at vs) j 0 ≡ get_or l j 0
  put_elsewhere j apart =
      by_fit l at vs (λ h. ⊎_elim (put_after l at vs h j) (put_before l at vs h j) apart) (λ h. ap (λ (s : List ℕ). get_or s j 0) (put_outside l at vs h))

  -- what lies wholly before or after what is put is as it was
  pub part_put_apart : (w a : ℕ) → (at + length vs ≤ a) ⊎ (a + w ≤ at) → part w a (put_at l at vs) ≡ part w a l
  part_put_apart w a apart =
      part_agree w a (put_at l at vs) l (length_put l at vs)
      (λ j h. put_elsewhere (a + j) (⊎_elim (λ after. inl (omega arith)) (λ before. inr (omega arith)) apart))

-- A store at the start of a row is a store of that row with these values at its start.
drop_take : (a v : ℕ) (x : List ℕ) → drop a (take v x) ≡ take (v - a) (drop a x)
drop_take zero v x = let e : v ≡ v - 0 = omega arith in ap (λ (k : ℕ). take k x) e
drop_take (suc a) zero x = let e : 0 - suc a ≡ 0 = omega arith in rw e
drop_take (suc a) (suc v) [] = sym (take-nil (suc v - suc a))
drop_take (suc a) (suc v) (c ∷ x) = let e : suc v - suc a ≡ v - a = omega arith in drop_take a v x ∙ rw e

pub part_part : (w a v b : ℕ) (l : List ℕ) → a + w ≤ v → take w (drop a (part v b l)) ≡ part w (b + a) l
unfolding part
part_part w a v b l h = rw (drop_take a v (drop b l), take-take w (v - a) (drop a (drop b l)) (omega arith), drop-drop a b l)

-- The tests of the code.
module _ {A : Type 0} (l : List A) (at : ℕ) (vs : List A) where
  -- there is no room
  pub fits_not : (length l < at) ⊎ (length l - at < length vs) → false ≡ fits_at l at vs
  fits_not h = sym (fits_outside l at vs (⊎_elim (λ p. omega arith) (λ p. omega arith) h))

  pub put_not : (length l < at) ⊎ (length l - at < length vs) → l ≡ put_at l at vs
  put_not h = sym (put_outside l at vs (⊎_elim (λ p. omega arith) (λ p. omega arith) h))

  -- there is room: the part of the list is what was put
  pub put_range : (new : List A) → at + length vs ≤ length l → new ≡ vs → put_mid at (at + length vs - at) l new ≡ put_at l at vs
  put_range new fits e =
      put_mid-paste at (at + length vs - at) l new vs (length vs) e (omega arith) refl
      ∙ ap (λ (r : List A). take at l ++ r ++ drop (at + length vs) l) (take-length vs)
      ∙ sym (put_inside l at vs fits)

-- A loop that stores value by value.
module _ (l : List ℕ) (at : ℕ) (vs : List ℕ) where
  -- one more element is in place
  pub put_step : (t : List ℕ) (i : ℕ) → at + length vs ≤ length l → i < length vs → t ≡ paste l at vs i
      → set t (at + i) (get_or vs i 0) ≡ paste l at vs (i + 1)
  put_step t i fits h e = rw (e, add-one) (paste-suc l at vs i 0 (omega arith) h)

  -- all of them are in place
  pub put_all : (t : List ℕ) (i : ℕ) → at + length vs ≤ length l → i ≤ length vs → length vs ≤ i → t ≡ paste l at vs i → t ≡ put_at l at vs
  put_all t i fits h k e =
      let q : i ≡ length vs = omega arith in
      e
      ∙ ap (λ (k : ℕ). paste l at vs k) q
      ∙ ap (λ (r : List ℕ). take at l ++ r ++ drop (at + length vs) l) (take-length vs)
      ∙ sym (put_inside l at vs fits)
