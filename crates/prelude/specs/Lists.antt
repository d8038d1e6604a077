-- Lists that are made element by element. Assumes nothing.
use Rattle.std.specs.Prelude.{ℕ, zero, suc, List, [], ◌∷◌, Option, Some, None}

-- the list of f k, f (k + 1) and so on, n of them
abbrev pub tab : {A : Type 0} → (ℕ → A) → ℕ → ℕ → List A
tab f zero k = []
tab f (suc n) k = f k ∷ tab f n (suc k)

-- what f gives for each element, or nothing where it gives nothing for one
unfoldable pub cons_of : {A : Type 0} → Option A → Option (List A) → Option (List A)
cons_of None rest = None
cons_of (Some a) None = None
cons_of (Some a) (Some as') = Some (a ∷ as')

unfoldable pub all_of : {A B : Type 0} → (A → Option B) → List A → Option (List B)
all_of f [] = Some []
all_of f (a ∷ l) = cons_of (f a) (all_of f l)
