-- Tests: each is true or false, and what follows from two of them together. Assumes nothing.
use mathlib.Core.Path.{◌≡◌, refl, sym}
use mathlib.Core.Bool.{Bool, true, false, cond, not, ◌&&◌, ◌||◌, true≢false}

pub by_test : {P : Type 0} (t : Bool) → (t ≡ true → P) → (t ≡ false → P) → P
by_test true f g = f refl
by_test false f g = g refl

-- what the code knows of a test x where it goes by `!x`
pub not_taken : (x : Bool) → not x ≡ true → x ≡ false
not_taken true e = absurd (true≢false (sym e))
not_taken false e = refl

pub not_left : (x : Bool) → not x ≡ false → x ≡ true
not_left true e = refl
not_left false e = absurd (true≢false e)

-- what holds of both holds of the one that a test picks
pub cond_elim : {A : Type 0} (P : A → Type 0) (t : Bool) {a b : A} → P a → P b → P (cond t a b)
cond_elim P true p q = p
cond_elim P false p q = q

-- two tests that are true together are one
pub test_same : (x y : Bool) → (x ≡ true → y ≡ true) → (y ≡ true → x ≡ true) → x ≡ y
test_same true y f g = sym (f refl)
test_same false true f g = g refl
test_same false false f g = refl

-- both of two
pub and_i : (x y : Bool) → x ≡ true → y ≡ true → (x && y) ≡ true
and_i x y p q = rw (p, q)

pub and_left : (x y : Bool) → (x && y) ≡ true → x ≡ true
and_left true y e = refl
and_left false y e = e

pub and_right : (x y : Bool) → (x && y) ≡ true → y ≡ true
and_right true y e = e
and_right false y e = absurd (true≢false (sym e))

pub both : (x y : Bool) → (x && y) ≡ true → (x ≡ true) × (y ≡ true)
both x y e = (and_left x y e, and_right x y e)

-- a test that implies another is the test of both
pub and_implied : (x y : Bool) → (y ≡ true → x ≡ true) → (x && y) ≡ y
and_implied true y h = refl
and_implied false true h = h refl
and_implied false false h = refl

-- one implies the other
pub or_use : (x y : Bool) → (not x || y) ≡ true → x ≡ true → y ≡ true
or_use true y e t = e
or_use false y e t = absurd (true≢false (sym t))

pub or_make : (x y : Bool) → (x ≡ true → y ≡ true) → (not x || y) ≡ true
or_make true y f = f refl
or_make false y f = refl
