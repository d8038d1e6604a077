-- Loops over lists: what a loop over the first n elements has left, and what one that fills a list has made so far.
-- Assumes nothing.
use mathlib.Core.Path.{◌≡◌, refl, sym, ap, ◌∙◌}
use mathlib.Core.List.{List, [], ◌∷◌, ◌++◌, zip_with}
use Prim.Native.Nat.{ℕ, zero, suc, ◌+◌, ◌-◌, ◌<◌, ◌≤◌, min}
use native.Mathlib.Numerals.{add-one}
use native.Mathlib.Omega.{arith}
use lib.Dec.{leb}
use lib.ListN.{length, take, drop, get_or, set, replicate, length-take, length-drop, take-append-drop, drop_of_length-le}
use lib.Seq.{drop-cons, drop-drop, drop-set-lt, get_or-take, length-take-le, take_all, take-suc, take-suc-set}
use borrow.Author.Tests.{leb-true, leb-false}
use Rattle.prelude.proofs.Tests.{by_test}

-- the first n elements of a list, from index i on
module _ {A : Type 0} (l : List A) (n i : ℕ) where
  -- the element at i, and what is left after it
  pub left_step : (d : A) → i < n → i < length l → drop i (take n l) ≡ get_or l i d ∷ drop (i + 1) (take n l)
  left_step d h k =
      let s : i < length (take n l) = simp length-take (omega arith) in
      drop-cons (take n l) i d s ∙ rw (get_or-take n l i d h, add-one)

  -- nothing is left
  pub left_none : min n (length l) ≤ i → drop i (take n l) ≡ []
  left_none h = drop_of_length-le (take n l) {i = i} (simp length-take h)

-- what the code has of a list behind its first k elements is what is left when they are dropped
pub rest_is : {A : Type 0} (l : List A) (k : ℕ) → take (length l - k) (drop k l) ≡ drop k l
rest_is l k = take_all (length l - k) (drop k l) (simp length-drop (omega arith))

-- no more are taken than there are
pub take_min : {A : Type 0} (n : ℕ) (l : List A) → take n l ≡ take (min n (length l)) l
take_min n l =
    by_test (leb n (length l))
    (λ t. let h : n ≤ length l = leb-true n (length l) t in let q : min n (length l) ≡ n = omega arith in rw q)
    (λ t. let h : length l < n = leb-false n (length l) t in take_all n l (omega arith) ∙ sym (take_all (min n (length l)) l (omega arith)))

-- a list that is copied element by element: its first i elements are in place
module _ {A : Type 0} (l t : List A) (i n : ℕ) (front : take i t ≡ take i l) (long : length t ≡ n) (same : length l ≡ n) where
  pub copy_step : (d : A) → i < n → take (i + 1) (set t i (get_or l i d)) ≡ take (i + 1) l
  copy_step d h = rw (add-one, take-suc-set t i (get_or l i d) (omega arith), take-suc l i d (omega arith), front)

  pub copy_all : n ≤ i → t ≡ l
  copy_all h = sym (take_all i t (omega arith)) ∙ front ∙ take_all i l (omega arith)

-- two lists that are joined element by element
pub zip_take : {A B C : Type 0} (f : A → B → C) (n : ℕ) (xs : List A) (ys : List B) → take n (zip_with f xs ys) ≡ zip_with f (take n xs) ys
unfolding zip_with
zip_take f zero xs ys = refl
zip_take f (suc n) [] ys = refl
zip_take f (suc n) (x ∷ xs) [] = refl
zip_take {C = C} f (suc n) (x ∷ xs) (y ∷ ys) = ap (λ (l : List C). f x y ∷ l) (zip_take f n xs ys)

-- an array of n, of which the first i are made and the others are empty
module _ {A : Type 0} (made : List A) (i n : ℕ) (z : A) (rest : drop i made ≡ replicate (n - i) z) where
  pub made_so_far : length made ≡ n → i ≤ n → (length (take i made) ≡ i) × (take i made ++ replicate (n - i) z ≡ made)
  made_so_far long room = (length-take-le i made (omega arith), rw rest at (take-append-drop i made))

  pub rest_empty : (x : A) → i < n → drop (i + 1) (set made i x) ≡ replicate (n - (i + 1)) z
  rest_empty x h =
      let q : n - i ≡ suc (n - (i + 1)) = omega arith in
      let e : drop i made ≡ replicate (suc (n - (i + 1))) z = rw q at rest in
      drop-set-lt (i + 1) made i x (omega arith) ∙ sym (drop-drop 1 i made) ∙ ap (drop 1) e

-- a loop that makes the first of them: the first i are those of another list
pub MadeTo : {A : Type 0} → ℕ → A → List A → List A → ℕ → Type 0
MadeTo n z made r i = (take i r ≡ take i made) × (drop i r ≡ replicate (n - i) z)

module _ {A : Type 0} (n : ℕ) (z : A) (made : List A) where
  pub made_starts : MadeTo n z made (replicate n z) 0
  unfolding MadeTo
  made_starts = let e : n - 0 ≡ n = omega arith in (refl, rw e)

  module _ (r : List A) (i : ℕ) (inv : MadeTo n z made r i) (long : length r ≡ n) where
    pub made_step : (d : A) → i < n → i < length made → MadeTo n z made (set r i (get_or made i d)) (i + 1)
    unfolding MadeTo
    made_step d h k = (
      rw (add-one, take-suc-set r i (get_or made i d) (omega arith), take-suc made i d k, inv.0),
      rest_empty r i n z inv.1 (get_or made i d) h,
    )

    pub made_ends : i ≤ n → r ≡ take i made ++ replicate (n - i) z
    unfolding MadeTo
    made_ends room = sym (rw (← inv.0) (made_so_far r i n z inv.1 long room).1)
