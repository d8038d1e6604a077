-- Reads after stores: a store changes what its own place reads as, and no other. Assumes nothing.
use Prim.Native.Nat.{ℕ, ◌<◌}
use mathlib.Core.Path.{◌≡◌, refl}
use lib.ListN.{length}
use lib.Seq.{get_or-set_same, get_or-set_other}
use Rattle.records.specs.declared.Process.{Process}
use Rattle.records.specs.declared.Namespace.{Namespace}
use Rattle.records.specs.Records.{free_process, free_namespace}
use Rattle.tables.specs.Tables.{State, process_at, namespace_at, put_process, put_namespace}

module _ (s : State) (i : ℕ) (p : Process) where
  pub process_stored : i < length s.processes → process_at (put_process s i p) i ≡ p
  unfolding process_at
  process_stored h = get_or-set_same s.processes i p free_process h

  pub process_kept : (j : ℕ) → (j ≡ i → ⊥) → process_at (put_process s i p) j ≡ process_at s j
  unfolding process_at
  process_kept j h = get_or-set_other s.processes i j p free_process h

  -- the other table is as it was
  pub process_apart : (j : ℕ) → namespace_at (put_process s i p) j ≡ namespace_at s j
  unfolding namespace_at
  process_apart j = refl

module _ (s : State) (i : ℕ) (n : Namespace) where
  pub namespace_stored : i < length s.namespaces → namespace_at (put_namespace s i n) i ≡ n
  unfolding namespace_at
  namespace_stored h = get_or-set_same s.namespaces i n free_namespace h

  pub namespace_kept : (j : ℕ) → (j ≡ i → ⊥) → namespace_at (put_namespace s i n) j ≡ namespace_at s j
  unfolding namespace_at
  namespace_kept j h = get_or-set_other s.namespaces i j n free_namespace h

  pub namespace_apart : (j : ℕ) → process_at (put_namespace s i n) j ≡ process_at s j
  unfolding process_at
  namespace_apart j = refl
