-- Who is where, and which number a place stands for. Assumes nothing.
use Rattle.std.specs.Prelude.{ℕ, suc, ◌-◌, Bool, cond, List, [], ◌∷◌, eqb, Option, Some, None}
use Rattle.records.specs.declared.Process.{Process}
use Rattle.records.specs.declared.Namespace.{Namespace}
use Rattle.tables.specs.Tables.{State, process_at, namespace_at}

-- document 01: processes are numbered from 1, namespaces from 0: the number of what stands in place i
abbrev pub process_number : ℕ → ℕ
process_number i = suc i

abbrev pub namespace_number : ℕ → ℕ
namespace_number i = i

-- document 01: the caller must exist: the process of that number, if there is one, by its place
unfoldable pub caller_named : State → ℕ → Option ℕ
caller_named s c = cond (eqb c 0) None (cond (process_at s (c - 1)).live (Some (c - 1)) None)

-- document 01: then the process or namespace named, if there is one, by its place. p is the place of the caller that
-- names it: every caller may name every process and every namespace
unfoldable pub process_named : State → ℕ → ℕ → Option ℕ
process_named s p name = caller_named s name

unfoldable pub namespace_named : State → ℕ → ℕ → Option ℕ
namespace_named s p name = cond (namespace_at s name).live (Some name) None

-- the lowest place, from i on, of which the test is false
unfoldable pub free_from : {A : Type 0} → (A → Bool) → ℕ → List A → Option ℕ
free_from live i [] = None
free_from live i (x ∷ xs) = cond (live x) (free_from live (suc i) xs) (Some i)

-- document 01: new ones take the lowest unused number
unfoldable pub free_process_place : State → Option ℕ
free_process_place s = free_from (λ (p : Process). p.live) 0 s.processes

unfoldable pub free_namespace_place : State → Option ℕ
free_namespace_place s = free_from (λ (n : Namespace). n.live) 0 s.namespaces

-- a free place with its number, as the code answers it
abbrev pub free_as : (ℕ → ℕ) → Option ℕ → Option (ℕ × ℕ)
free_as number (Some i) = Some (i, number i)
free_as number None = None
