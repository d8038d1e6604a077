-- The bits of a number: what the operations on words do to each bit, and a number made of given bits. It knows no set.
use mathlib.Core.Path.{◌≡◌, refl, sym, ap, ◌∙◌}
use mathlib.Core.Bool.{Bool, true, false, cond, ◌&&◌}
use Prim.Native.Nat.{ℕ, zero, suc, ◌+◌, ◌*◌, ◌/◌, ◌%◌, ◌^◌, ◌≤◌, ◌<◌, min}
use native.Mathlib.Nat.{pow-suc}
use native.Mathlib.Numerals.{one-add}
use native.Mathlib.Omega.{arith}
use lib.Dec.{eqb}
use lib.Bits.{bit_and, and_step, and_shr, and_mask}
use lib.Pow.{shr-shr}
use borrow.Author.Tests.{eqb-true}
use Rattle.capability.specs.Sets.{powers_below}

-- Whether bit n is set.
abbrev pub is_set : ℕ → ℕ → Bool
is_set x n = eqb (x / 2 ^ n % 2) 1

-- the test by a shift and a mask
pub set_shift : (x n : ℕ) → eqb (bit_and (x / 2 ^ n) 1) 1 ≡ is_set x n
set_shift x n = ap (λ (m : ℕ). eqb m 1) (and_mask (x / 2 ^ n) 1)

-- the next bit is a bit of the half
set_next : (x n : ℕ) → is_set x (suc n) ≡ is_set (x / 2) n
set_next x n = rw (← (one-add n)) (rw (← (shr-shr x 1 n)))

-- The operations on words, bit by bit.
set_both : (x y : ℕ) → x < 2 → y < 2 → eqb (min x y) 1 ≡ (eqb x 1 && eqb y 1)
set_both zero zero p q = refl
set_both zero (suc zero) p q = refl
set_both (suc zero) zero p q = refl
set_both (suc zero) (suc zero) p q = refl
set_both zero (suc (suc y)) p q = absurd (omega arith)
set_both (suc zero) (suc (suc y)) p q = absurd (omega arith)
set_both (suc (suc x)) y p q = absurd (omega arith)

pub set_and : (a b n : ℕ) → is_set (bit_and a b) n ≡ (is_set a n && is_set b n)
set_and a b n =
    let e : bit_and a b / 2 ^ n % 2 ≡ min (a / 2 ^ n % 2) (b / 2 ^ n % 2) = rw (and_shr a b n, and_step (a / 2 ^ n) (b / 2 ^ n)) (omega arith) in
    rw e (set_both (a / 2 ^ n % 2) (b / 2 ^ n % 2) (omega arith) (omega arith))

-- Numbers by their bits.
odd_same : (x y : ℕ) → x < 2 → y < 2 → eqb x 1 ≡ eqb y 1 → x ≡ y
odd_same zero zero p q e = refl
odd_same zero (suc zero) p q e = omega (arith, eqb-true 0 1 e)
odd_same (suc zero) zero p q e = omega (arith, eqb-true 0 1 (sym e))
odd_same (suc zero) (suc zero) p q e = refl
odd_same zero (suc (suc y)) p q e = absurd (omega arith)
odd_same (suc zero) (suc (suc y)) p q e = absurd (omega arith)
odd_same (suc (suc x)) y p q e = absurd (omega arith)

-- two numbers with the same bits are one
pub bits_same : (k a b : ℕ) → a < 2 ^ k → b < 2 ^ k → ((n : ℕ) → n < k → is_set a n ≡ is_set b n) → a ≡ b
bits_same zero a b p q h = omega arith
bits_same (suc k) a b p q h =
    let e = pow-suc 2 k in
    let low = odd_same (a / 1 % 2) (b / 1 % 2) (omega arith) (omega arith) (h 0 (omega arith)) in
    let high = bits_same k (a / 2) (b / 2) (omega arith) (omega arith) (λ n l. sym (set_next a n) ∙ h (suc n) (omega arith) ∙ set_next b n) in
    omega arith

-- The sum of given powers, from its lowest bit on.
powers_low : (k : ℕ) (p : ℕ → Bool) → powers_below (suc k) p ≡ cond (p 0) 1 0 + 2 * powers_below k (λ n. p (suc n))
unfolding powers_below
powers_low zero p = omega arith
powers_low (suc k) p = doubled (p (suc k)) ∙ omega (arith, powers_low k p)
  where
    doubled : (t : Bool) → cond t (2 ^ suc k) 0 + powers_below (suc k) p ≡ 2 * cond t (2 ^ k) 0 + powers_below (suc k) p
    doubled true = omega (arith, pow-suc 2 k)
    doubled false = omega arith

pub powers_small : (k : ℕ) (p : ℕ → Bool) → powers_below k p < 2 ^ k
unfolding powers_below
powers_small zero p = omega arith
powers_small (suc k) p = omega (arith, pow-suc 2 k, powers_small k p, most (p k))
  where
    most : (t : Bool) → cond t (2 ^ k) 0 ≤ 2 ^ k
    most true = omega arith
    most false = omega arith

low_bit : (t : Bool) (x : ℕ) → is_set (cond t 1 0 + 2 * x) 0 ≡ t
low_bit true x = let e : (1 + 2 * x) / 1 % 2 ≡ 1 = omega arith in rw e
low_bit false x = let e : (0 + 2 * x) / 1 % 2 ≡ 0 = omega arith in rw e

low_half : (t : Bool) (x : ℕ) → (cond t 1 0 + 2 * x) / 2 ≡ x
low_half true x = omega arith
low_half false x = omega arith

-- it has the bits that it is made of
pub powers_set : (k n : ℕ) (p : ℕ → Bool) → n < k → is_set (powers_below k p) n ≡ p n
powers_set zero n p h = absurd (omega arith)
powers_set (suc k) zero p h = rw (powers_low k p) (low_bit (p 0) (powers_below k (λ n. p (suc n))))
powers_set (suc k) (suc n) p h =
    let rest = powers_below k (λ n. p (suc n)) in
    rw (powers_low k p) (set_next (cond (p 0) 1 0 + 2 * rest) n ∙ rw (low_half (p 0) rest) (powers_set k n (λ n. p (suc n)) (omega arith)))
