-- The laws of lists that are made element by element. Assumes nothing.
use Rattle.std.specs.Prelude.{Option, Some, None}
use Prim.Native.Nat.{ℕ, zero, suc, ◌+◌, ◌≤◌}
use mathlib.Core.Path.{◌≡◌, refl, sym, ap, ap₂, ◌∙◌}
use mathlib.Core.List.{List, ◌∷◌, map}
use native.Mathlib.Omega.{arith}
use lib.ListN.{length, get_or, take, drop, length-map}
use lib.Seq.{drop-cons, take_all}
use Rattle.prelude.specs.Lists.{tab, cons_of}

-- ---- the list of f k, f (k + 1) and so on
pub tab_same : {A : Type 0} (f g : ℕ → A) (n k : ℕ) → ((j : ℕ) → f j ≡ g j) → tab f n k ≡ tab g n k
tab_same f g zero k e = refl
tab_same {A} f g (suc n) k e = ap₂ (λ (x : A) (xs : List A). x ∷ xs) (e k) (tab_same f g n (suc k) e)

pub tab_next : {A : Type 0} (f : ℕ → A) (n k : ℕ) → tab (λ (j : ℕ). f (suc j)) n k ≡ tab f n (suc k)
tab_next f zero k = refl
tab_next {A} f (suc n) k = ap (λ (xs : List A). f (suc k) ∷ xs) (tab_next f n (suc k))

pub tab_front : {A : Type 0} (f : ℕ → A) (n m k : ℕ) → n ≤ m → take n (tab f m k) ≡ tab f n k
tab_front f zero m k h = refl
tab_front f (suc n) zero k h = absurd (omega arith)
tab_front {A} f (suc n) (suc m) k h = ap (λ (xs : List A). f k ∷ xs) (tab_front f n m (suc k) (omega arith))

pub tab_whole : {A : Type 0} (f : ℕ → A) (n m k : ℕ) → m ≤ n → take n (tab f m k) ≡ tab f m k
tab_whole f zero zero k h = refl
tab_whole f zero (suc m) k h = absurd (omega arith)
tab_whole f (suc n) zero k h = refl
tab_whole {A} f (suc n) (suc m) k h = ap (λ (xs : List A). f k ∷ xs) (tab_whole f n m (suc k) (omega arith))

tab_take : {A : Type 0} (l : List A) (d : A) (n k : ℕ) → k + n ≤ length l → tab (λ (j : ℕ). get_or l j d) n k ≡ take n (drop k l)
tab_take l d zero k h = refl
tab_take {A} l d (suc n) k h =
    ap (λ (xs : List A). get_or l k d ∷ xs) (tab_take l d n (suc k) (omega arith)) ∙ sym (ap (take (suc n)) (drop-cons l k d (omega arith)))

-- a list of length n is the list of its first n elements
pub tab_all : {A : Type 0} (l : List A) (d : A) (n : ℕ) → length l ≡ n → tab (λ (j : ℕ). get_or l j d) n 0 ≡ l
tab_all l d n e = tab_take l d n 0 (omega arith) ∙ take_all n l (omega arith)

-- ---- a mapped list
-- what owning an array of structs tells of its length, in a struct's field: `search (rules, length_mapped)` finds it
pub length_mapped : {X Y : Type 0} (f : X → Y) (l : List X) (n : ℕ) → length (map f l) ≡ n → length l ≡ n
length_mapped f l n e = sym (length-map l f) ∙ e

-- ---- what f gives for each element
pub some_none : {A : Type 0} {x : A} → Some x ≡ None → ⊥
some_none e = let z : ◌≡◌ {A = ℕ} 0 1 = cc in omega arith

-- nothing for the first, and nothing for one of the others
pub cons_first : {A : Type 0} (r : Option (List A)) → cons_of None r ≡ None
unfolding cons_of
cons_first r = refl

pub cons_none : {A : Type 0} (a : Option A) → cons_of a None ≡ None
unfolding cons_of
cons_none None = refl
cons_none (Some a) = refl

-- something for each
pub cons_some : {A : Type 0} (o : Option A) (r : Option (List A)) (l : List A) → cons_of o r ≡ Some l
    → (y : A) × (ys : List A) × (o ≡ Some y) × (r ≡ Some ys) × (l ≡ y ∷ ys)
unfolding cons_of
cons_some None r l e = absurd (some_none (sym e))
cons_some (Some y) None l e = absurd (some_none (sym e))
cons_some (Some y) (Some ys) l e = (y, ys, refl, refl, cc)
