-- A part of a list, and a list with values put at a place. Assumes nothing.
use Rattle.std.specs.Prelude.{ℕ, ◌+◌, Bool, cond, List, ◌++◌, leb, take, drop, length}

-- the w elements from place at on. What lies past the end is cut off
unfoldable pub part : {A : Type 0} → ℕ → ℕ → List A → List A
part w at l = take w (drop at l)

-- whether vs fits into l from place at on
unfoldable pub fits_at : {A : Type 0} → List A → ℕ → List A → Bool
fits_at l at vs = leb (at + length vs) (length l)

-- l with vs from place at on, and outside it as it was. Where vs does not fit, nothing changes
unfoldable pub put_at : {A : Type 0} → List A → ℕ → List A → List A
put_at l at vs = cond (fits_at l at vs) (take at l ++ vs ++ drop (at + length vs) l) l
