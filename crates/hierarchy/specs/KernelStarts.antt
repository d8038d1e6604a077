-- Translation by the kernel starts that the lines of the tables have, and ranges by a lookup's count: what the code does.
-- NOT to be believed: that on tables which calls leave it is `by_levels`, the papers', for every kind, namespace and
-- number, is proved (`AsDocument` of claims). Assumes nothing.
use Rattle.std.specs.Prelude.{ℕ, ◌-◌, Bool, cond, List, ◌++◌, map, eqb, length, replicate, Option}
use Rattle.idmap.specs.declared.Line.{Line}
use Rattle.idmap.specs.Good.{max_lines}
use Rattle.idmap.specs.Lookup.{out, or_no_id, back}
use Rattle.idmap.specs.Ranges.{whole_by_reach}
use Rattle.records.specs.declared.Kind.{Kind}
use Rattle.records.specs.Records.{map_in, lines_of, on_kernels}
use Rattle.tables.specs.Tables.{State, namespace_at, starts_at}
use Rattle.hierarchy.specs.Walks.{Translation, itself}

-- the lines of the map of namespace n, with kernel IDs (document 01: station-wide IDs) on the parent side
abbrev pub kernel_lines_at : State → Kind → ℕ → List Line
kernel_lines_at s kind n = on_kernels (lines_of (map_in kind (namespace_at s n))) (starts_at s kind n)

-- the kernel ID that an ID of namespace n stands for, and the ID of namespace n that stands for a kernel ID: one lookup
-- each, at any level
unfoldable pub to_kernel : State → Kind → ℕ → ℕ → Option ℕ
to_kernel s kind n x = cond (eqb n 0) (itself x) (out (kernel_lines_at s kind n) x)

unfoldable pub from_kernel : State → Kind → ℕ → ℕ → Option ℕ
from_kernel s kind n y = cond (eqb n 0) (itself y) (back (kernel_lines_at s kind n) y)

-- whether a range of IDs lies whole in one line of the map of namespace n, by one lookup
unfoldable pub whole_in : State → Kind → ℕ → ℕ → ℕ → Bool
whole_in s kind n = whole_by_reach (lines_of (map_in kind (namespace_at s n)))

unfoldable pub by_kernel_starts : State → Translation
by_kernel_starts s = record { out = to_kernel s; back = from_kernel s; whole = whole_in s }

-- a definition that takes a translation and the tables, by the kernel starts of these tables: how contracts cite it
abbrev pub quick : {A : Type 0} → (Translation → State → A) → State → A
quick f s = f (by_kernel_starts s) s

-- what the code keeps beside lines that are written as a map: the kernel ID that each line's parent start stands for, by
-- what the parent namespace's IDs do, and 0 in the places past the lines
unfoldable pub kernel_starts : (ℕ → Option ℕ) → List Line → List ℕ
kernel_starts out ls = map (λ (l : Line). or_no_id (out l.parent)) ls ++ replicate (max_lines - length ls) 0
