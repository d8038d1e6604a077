-- Numbers as bytes, the highest byte first. Assumes nothing.
use Rattle.std.specs.Prelude.{ℕ, zero, suc, ◌+◌, ◌*◌, ◌/◌, ◌%◌, List, [], ◌∷◌, ◌++◌}
use Rattle.prelude.specs.Parts.{part}
use Rattle.prelude.specs.Lists.{tab}

-- ---- writing
-- the lowest w bytes of a number
unfoldable pub big_endian : ℕ → ℕ → List ℕ
big_endian zero x = []
big_endian (suc w) x = big_endian w (x / 256) ++ (x % 256 ∷ [])

-- numbers of w bytes each, one after the other
unfoldable pub all_big_endian : ℕ → List ℕ → List ℕ
all_big_endian w [] = []
all_big_endian w (x ∷ xs) = big_endian w x ++ all_big_endian w xs

-- ---- reading
-- the number that bytes are, after n. A byte is below 256: of anything else the lowest eight bits count
unfoldable pub number_from : ℕ → List ℕ → ℕ
number_from n [] = n
number_from n (b ∷ bs) = number_from (n * 256 + b % 256) bs

-- the number of w bytes at a place of l
unfoldable pub number_at : ℕ → ℕ → List ℕ → ℕ
number_at w at l = number_from 0 (part w at l)

-- k numbers of w bytes each, from place at on
abbrev pub numbers_at : ℕ → ℕ → ℕ → List ℕ → List ℕ
numbers_at w k at l = tab (λ (i : ℕ). number_at w (at + w * i) l) k 0
