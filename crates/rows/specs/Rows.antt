-- A list of words read as rows of one width. It knows no record.
use Rattle.std.specs.Prelude.{ℕ, zero, suc, ◌+◌, List, [], ◌∷◌}
use Rattle.prelude.specs.Parts.{part}

-- The n rows of w words each from place at on, each as dec reads it.
unfoldable pub rows : {A : Type 0} → (List ℕ → A) → ℕ → ℕ → ℕ → List ℕ → List A
rows dec w zero at l = []
rows dec w (suc n) at l = dec (part w at l) ∷ rows dec w n (at + w) l
