-- Sets of capabilities, kept as the bits of a word and read capability by capability.
-- Each definition goes over the numbers of the capabilities, so that it computes on literal sets.
use Rattle.std.specs.Prelude.{ℕ, zero, suc, ◌+◌, ◌/◌, ◌%◌, ◌^◌, Bool, true, cond, not, ◌&&◌, ◌||◌, eqb, ltb}

-- Numbers of capabilities, as document 01 has them.
abbrev pub cap_setgid : ℕ
cap_setgid = 6

abbrev pub cap_setuid : ℕ
cap_setuid = 7

abbrev pub cap_sys_admin : ℕ
cap_sys_admin = 21

-- The highest number that a capability has.
abbrev pub cap_last_cap : ℕ
cap_last_cap = 36

-- A set is a word of 64 bits.
abbrev pub word_bits : ℕ
word_bits = 64

-- Whether capability n is in the set: bit n is set. A set has no capability above 63.
unfoldable pub holds : ℕ → ℕ → Bool
holds bits n = ltb n word_bits && eqb (bits / 2 ^ n % 2) 1

-- The full set of capabilities is 0 to 36, written 0000001fffffffff in document 01.
abbrev pub full_set : ℕ
full_set = 0x1fffffffff

-- The set with no capability.
abbrev pub empty_set : ℕ
empty_set = 0

-- Whether p holds of each number below k.
unfoldable pub all_below : ℕ → (ℕ → Bool) → Bool
all_below zero p = true
all_below (suc k) p = p k && all_below k p

-- Whether every capability in a is in b.
unfoldable pub is_within : ℕ → ℕ → Bool
is_within a b = all_below word_bits (λ n. not (holds a n) || holds b n)

-- The sum of 2 ^ n over the numbers n below k of which p holds.
unfoldable pub powers_below : ℕ → (ℕ → Bool) → ℕ
powers_below zero p = 0
powers_below (suc k) p = cond (p k) (2 ^ k) 0 + powers_below k p

-- The set of the capabilities, 0 to 63, of which p holds.
unfoldable pub collect : (ℕ → Bool) → ℕ
collect p = powers_below word_bits p

-- The capabilities that are in both: a drop of capabilities, which never adds one.
unfoldable pub lowered_to : ℕ → ℕ → ℕ
lowered_to a kept = collect (λ n. holds a n && holds kept n)
