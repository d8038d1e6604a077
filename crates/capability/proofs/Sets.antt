-- The laws of sets of capabilities: what each definition says of every capability.
use mathlib.Core.Path.{◌≡◌, refl, sym, ap, ◌∙◌}
use mathlib.Core.Bool.{Bool, true, false, not, ◌&&◌, ◌||◌, and-false, true≢false}
use mathlib.Core.Logic.{◌↔◌}
use Prim.Native.Nat.{ℕ, zero, suc, ◌^◌, ◌≤◌, ◌<◌}
use native.Mathlib.Omega.{arith}
use lib.Dec.{eqb, ltb, leb}
use borrow.Author.Tests.{eqb-true, eqb-false, lt-ltb, le-ltb, ltb-false, ltb-true, lt-leb}
use Rattle.capability.specs.Sets.{cap_last_cap, word_bits, holds, full_set, empty_set, all_below, is_within, powers_below, collect, lowered_to}
use Rattle.prelude.proofs.Tests.{by_test, test_same, and_left, and_right, and_implied, or_use, or_make}
use Rattle.capability.proofs.Bits.{is_set, bits_same, powers_set, powers_small}

-- A capability in a set.
pub holds_low : (a n : ℕ) → n < word_bits → holds a n ≡ is_set a n
unfolding holds
holds_low a n h = rw (lt-ltb n word_bits h)

pub holds_high : (a n : ℕ) → word_bits ≤ n → holds a n ≡ false
unfolding holds
holds_high a n h = rw (le-ltb n word_bits h)

pub holds_below : (a n : ℕ) → holds a n ≡ true → n < word_bits
holds_below a n e = by_test (ltb n word_bits) (λ t. ltb-true n word_bits t) (λ t. absurd (true≢false (sym e ∙ holds_high a n (ltb-false n word_bits t))))

-- two sets with the same capabilities are one
pub holds_same : (a b : ℕ) → a < 2 ^ 64 → b < 2 ^ 64 → ((n : ℕ) → n < word_bits → holds a n ≡ holds b n) → a ≡ b
holds_same a b p q h = bits_same word_bits a b p q (λ n l. sym (holds_low a n l) ∙ h n l ∙ holds_low b n l)

-- A set that is collected.
pub collect_small : (p : ℕ → Bool) → collect p < 2 ^ 64
unfolding collect
collect_small p = powers_small word_bits p

pub collect_holds : (p : ℕ → Bool) (n : ℕ) → holds (collect p) n ≡ (ltb n word_bits && p n)
unfolding collect
collect_holds p n =
    by_test (ltb n word_bits)
    (λ t. let l = ltb-true n word_bits t in rw t (holds_low (powers_below word_bits p) n l ∙ powers_set word_bits n p l))
    (λ t. rw t (holds_high (powers_below word_bits p) n (ltb-false n word_bits t)))

-- the set with the capabilities of which p holds is the one that is collected
pub collect_same : (a : ℕ) (p : ℕ → Bool) → a < 2 ^ 64 → ((n : ℕ) → n < word_bits → holds a n ≡ p n) → a ≡ collect p
collect_same a p small h = holds_same a (collect p) small (collect_small p) (λ n l. h n l ∙ sym (rw (lt-ltb n word_bits l) at (collect_holds p n)))

-- a part of a set, collected from it
collect_part : (a : ℕ) (q : ℕ → Bool) (n : ℕ) → holds (collect (λ n. holds a n && q n)) n ≡ (holds a n && q n)
collect_part a q n =
    collect_holds (λ n. holds a n && q n) n
    ∙ and_implied (ltb n word_bits) (holds a n && q n) (λ t. lt-ltb n word_bits (holds_below a n (and_left (holds a n) (q n) t)))

-- The full set and the empty set.
full_collected : full_set ≡ collect (λ n. leb n cap_last_cap)
unfolding collect powers_below
full_collected = refl

-- the full set has capabilities 0 to 36, and no other
pub full_holds : (n : ℕ) → holds full_set n ≡ leb n cap_last_cap
full_holds n =
    ap (λ (s : ℕ). holds s n) full_collected ∙ collect_holds (λ n. leb n cap_last_cap) n
    ∙ by_test (ltb n word_bits) (λ t. rw t) (λ t. let h = ltb-false n word_bits t in rw (t, lt-leb n cap_last_cap (omega arith)))

empty_collected : empty_set ≡ collect (λ n. false)
unfolding collect powers_below
empty_collected = refl

pub empty_holds : (n : ℕ) → holds empty_set n ≡ false
empty_holds n = ap (λ (s : ℕ). holds s n) empty_collected ∙ collect_holds (λ n. false) n ∙ and-false (ltb n word_bits)

-- A set within another.
all_each : (k : ℕ) (p : ℕ → Bool) → all_below k p ≡ true → (n : ℕ) → n < k → p n ≡ true
unfolding all_below
all_each zero p t n h = absurd (omega arith)
all_each (suc k) p t n h =
    by_test (eqb n k)
    (λ e. rw (eqb-true n k e) (and_left (p k) (all_below k p) t))
    (λ e. all_each k p (and_right (p k) (all_below k p) t) n (omega (arith, eqb-false n k e)))

each_all : (k : ℕ) (p : ℕ → Bool) → ((n : ℕ) → n < k → p n ≡ true) → all_below k p ≡ true
unfolding all_below
each_all zero p h = refl
each_all (suc k) p h = rw (h k (omega arith)) (each_all k p (λ n l. h n (omega arith)))

-- a set is within another just where each of its capabilities is in the other
pub within_each : (a b : ℕ) → (is_within a b ≡ true) ↔ ((n : ℕ) → holds a n ≡ true → holds b n ≡ true)
unfolding is_within
within_each a b = (
  (λ t n h. or_use (holds a n) (holds b n) (all_each word_bits (λ n. not (holds a n) || holds b n) t n (holds_below a n h)) h),
  λ h. each_all word_bits (λ n. not (holds a n) || holds b n) (λ n l. or_make (holds a n) (holds b n) (h n)),
)

pub within_refl : (a : ℕ) → is_within a a ≡ true
within_refl a = (within_each a a).1 (λ n h. h)

pub within_trans : (a b c : ℕ) → is_within a b ≡ true → is_within b c ≡ true → is_within a c ≡ true
within_trans a b c s t = (within_each a c).1 (λ n h. (within_each b c).0 t n ((within_each a b).0 s n h))

pub within_empty : (a : ℕ) → is_within empty_set a ≡ true
within_empty a = (within_each empty_set a).1 (λ n h. absurd (true≢false (sym h ∙ empty_holds n)))

-- two sets within each other are one
pub within_both : (a b : ℕ) → a < 2 ^ 64 → b < 2 ^ 64 → is_within a b ≡ true → is_within b a ≡ true → a ≡ b
within_both a b p q s t = holds_same a b p q (λ n l. test_same (holds a n) (holds b n) ((within_each a b).0 s n) ((within_each b a).0 t n))

-- A set lowered to what is kept.
pub lowered_small : (a b : ℕ) → lowered_to a b < 2 ^ 64
unfolding lowered_to
lowered_small a b = collect_small (λ n. holds a n && holds b n)

pub lowered_holds : (a b n : ℕ) → holds (lowered_to a b) n ≡ (holds a n && holds b n)
unfolding lowered_to
lowered_holds a b n = collect_part a (holds b) n

-- lowering adds no capability
pub lowered_within : (a b : ℕ) → is_within (lowered_to a b) a ≡ true
lowered_within a b = (within_each (lowered_to a b) a).1 (λ n h. and_left (holds a n) (holds b n) (sym (lowered_holds a b n) ∙ h))

-- and leaves none that is not kept
pub lowered_kept : (a b : ℕ) → is_within (lowered_to a b) b ≡ true
lowered_kept a b = (within_each (lowered_to a b) b).1 (λ n h. and_right (holds a n) (holds b n) (sym (lowered_holds a b n) ∙ h))

-- a set lowered to a set within it is that set
pub lowered_all : (a b : ℕ) → is_within b a ≡ true → b < 2 ^ 64 → lowered_to a b ≡ b
lowered_all a b t small =
    holds_same (lowered_to a b) b (lowered_small a b) small
    (λ n l. lowered_holds a b n ∙ and_implied (holds a n) (holds b n) ((within_each b a).0 t n))
