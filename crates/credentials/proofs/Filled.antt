-- A group list that is filled place by place, from the first group on: what it is with one group more. Assumes nothing.
use Prim.Native.Nat.{ℕ, suc, ◌+◌, ◌-◌, ◌<◌}
use mathlib.Core.Path.{◌≡◌, ap}
use mathlib.Core.List.{List, [], ◌∷◌, ◌++◌, append_assoc}
use native.Mathlib.Numerals.{add-one}
use native.Mathlib.Omega.{arith}
use lib.ListN.{length, take, get_or, set, replicate, length-append}
use lib.Seq.{set_at, take-suc}
use Rattle.records.specs.declared.GroupList.{GroupList}
use Rattle.records.specs.Records.{max_groups}
use Rattle.credentials.specs.Calls.{group_list}

-- one group more is read
pub take_more : (l : List ℕ) (i : ℕ) → i < length l → take (i + 1) l ≡ take i l ++ (get_or l i 0 ∷ [])
take_more l i h = rw (add-one, take-suc l i 0 h)

-- one group more is stored
pub filled_more : (made ids : List ℕ) (i x : ℕ) → group_list made ≡ record { count = i; ids = ids } → i < max_groups
    → group_list (made ++ (x ∷ [])) ≡ record { count = i + 1; ids = set ids i x }
unfolding group_list
filled_more made ids i x e h =
    let long : length made ≡ i = ap (λ (g : GroupList). g.count) e in
    let rest : max_groups - length made ≡ suc (max_groups - (i + 1)) = omega arith in
    let places : made ++ (0 ∷ replicate (max_groups - (i + 1)) 0) ≡ ids = rw rest at (ap (λ (g : GroupList). g.ids) e) in
    let more : length (made ++ (x ∷ [])) ≡ i + 1 = simp length-append (omega arith) in
    rw (more, append_assoc, ← places, set_at made 0 (replicate (max_groups - (i + 1)) 0) x i long)
