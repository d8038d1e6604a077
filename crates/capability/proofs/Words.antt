-- The operations of the code on words compute the definitions of sets.
use mathlib.Core.Path.{◌≡◌, sym, ◌∙◌}
use mathlib.Core.Bool.{true, false, ◌&&◌, and_comm}
use Prim.Native.Nat.{ℕ, ◌/◌, ◌^◌, ◌≤◌, ◌<◌}
use native.Mathlib.Omega.{arith}
use lib.Dec.{eqb}
use lib.Bits.{bit_and, and_le_l}
use borrow.Author.Rules.{rules}
use borrow.Author.Tests.{eqb-true, eq-eqb}
use Rattle.capability.specs.Sets.{word_bits, holds, is_within, lowered_to}
use Rattle.capability.specs.declared.CapabilitySet.{CapabilitySet}
use Rattle.prelude.proofs.Tests.{test_same, and_right, and_implied}
use Rattle.capability.proofs.Bits.{set_shift, set_and}
use Rattle.capability.proofs.Sets.{holds_low, holds_high, holds_below, holds_same, collect_same, within_each}

-- `(bits >> n) & 1 == 1`
pub has_low : (a n : ℕ) → n < word_bits → eqb (bit_and (a / 2 ^ n) 1) 1 ≡ holds a n
has_low a n h = set_shift a n ∙ sym (holds_low a n h)

pub has_high : (a n : ℕ) → word_bits ≤ n → false ≡ holds a n
has_high a n h = sym (holds_high a n h)

-- `a & b`
and_small : (a b : ℕ) → a < 2 ^ 64 → bit_and a b < 2 ^ 64
and_small a b h = omega (arith, and_le_l a b)

and_holds : (a b n : ℕ) → n < word_bits → holds (bit_and a b) n ≡ (holds a n && holds b n)
and_holds a b n h = rw (holds_low (bit_and a b) n h, holds_low a n h, holds_low b n h) (set_and a b n)

-- `a & b == a`
pub within_and : (a b : ℕ) → a < 2 ^ 64 → eqb (bit_and a b) a ≡ is_within a b
within_and a b small = test_same (eqb (bit_and a b) a) (is_within a b) into back
  where
    into : eqb (bit_and a b) a ≡ true → is_within a b ≡ true
    into t =
        let e = eqb-true (bit_and a b) a t in
        (within_each a b).1 (λ n h. and_right (holds a n) (holds b n) (sym (and_holds a b n (holds_below a n h)) ∙ rw e h))

    back : is_within a b ≡ true → eqb (bit_and a b) a ≡ true
    back t =
        eq-eqb (bit_and a b) a
        (holds_same (bit_and a b) a (and_small a b small) small
        (λ n l. and_holds a b n l ∙ and_comm (holds a n) (holds b n) ∙ and_implied (holds b n) (holds a n) ((within_each a b).0 t n)))

-- The set of given bits.
set_of : {x y : ℕ} → x ≡ y → ◌≡◌ {A = CapabilitySet} (record { bits = x }) (record { bits = y })
set_of e = λ i. record { bits = e i }

pub lowered_and : (a b : ℕ) → a < 2 ^ 64 → ◌≡◌ {A = CapabilitySet} (record { bits = bit_and a b }) (record { bits = lowered_to a b })
unfolding lowered_to
lowered_and a b h = set_of (collect_same (bit_and a b) (λ n. holds a n && holds b n) (and_small a b h) (and_holds a b))

-- What answers the needs of the functions.
pub ruleset words = (has_low, has_high, within_and, lowered_and, rules)
