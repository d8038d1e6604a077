-- Who holds a capability, step by step, in the words of the code: each law's premises are what a place knows. Assumes
-- nothing.
use Prim.Native.Nat.{ℕ, zero, suc, ◌+◌, ◌-◌, ◌<◌}
use mathlib.Core.Path.{◌≡◌, refl, ap, ◌∙◌}
use mathlib.Core.Bool.{Bool, true, false, cond}
use native.Mathlib.Numerals.{add-one}
use native.Mathlib.Omega.{arith}
use lib.Dec.{eqb}
use borrow.Author.Tests.{eq-eqb, ne_eqb}
use Rattle.capability.specs.Sets.{holds}
use Rattle.records.specs.declared.Process.{Process}
use Rattle.records.specs.declared.Namespace.{Namespace}
use Rattle.tables.specs.Tables.{State, namespace_at}
use Rattle.hierarchy.specs.Walks.{height_of, owned_by, holds_in, capable_in}

-- ---- the walk: the answer at each way out of a turn, and that a turn keeps it
as_tested : (b : Bool) → b ≡ cond b true false
as_tested true = refl
as_tested false = refl

module _ (s : State) (own euid : ℕ) (mine : Bool) where
  rest : ℕ → ℕ → Bool
  rest zero n = false
  rest (suc k) n = holds_in s own euid mine k n

  module _ (k n : ℕ) where
    step : holds_in s own euid mine k n ≡ cond (eqb n own) mine (cond (eqb n 0) false (cond (owned_by own euid (namespace_at s n)) true (rest k (namespace_at s n).parent)))
    unfolding holds_in rest
    step = by_left k
      where
        by_left : (j : ℕ) → holds_in s own euid mine j n ≡ cond (eqb n own) mine (cond (eqb n 0) false (cond (owned_by own euid (namespace_at s n)) true (rest j (namespace_at s n).parent)))
        by_left zero = ap (λ (b : Bool). cond (eqb n own) mine (cond (eqb n 0) false b)) (as_tested (owned_by own euid (namespace_at s n)))
        by_left (suc j) = refl

    pub walk_own : n ≡ own → holds_in s own euid mine k n ≡ mine
    walk_own e = step ∙ rw (eq-eqb n own e)

    module _ (other : n ≡ own → ⊥) where
      pub walk_root : n ≡ 0 → holds_in s own euid mine k n ≡ false
      walk_root e = step ∙ rw (ne_eqb n own other, eq-eqb n 0 e)

      module _ (below : n ≡ 0 → ⊥) (m : Namespace) (read : m ≡ namespace_at s n) where
        pub walk_owned : owned_by own euid m ≡ true → holds_in s own euid mine k n ≡ true
        walk_owned e = step ∙ rw (ne_eqb n own other, ne_eqb n 0 below, ← read, e)

        module _ (e : owned_by own euid m ≡ false) where
          pub walk_end : k ≡ 0 → holds_in s own euid mine k n ≡ false
          unfolding rest
          walk_end z = step ∙ rw (ne_eqb n own other, ne_eqb n 0 below, ← read, e, z)

          pub walk_on : (j : ℕ) → k ≡ suc j → holds_in s own euid mine k n ≡ holds_in s own euid mine j m.parent
          unfolding rest
          walk_on j q = step ∙ rw (ne_eqb n own other, ne_eqb n 0 below, ← read, e, q)

-- of a process: the walk starts at the place that the call names, with the height of that place to go
pub walk_start : (s : State) (p : Process) (place c k : ℕ) → k ≡ height_of s place → holds_in s p.namespace p.users.effective (holds p.effective.bits c) k place ≡ capable_in s p place c
unfolding capable_in
walk_start s p place c k q = rw q
