-- `credentials::groups::kernel_groups`: the first `i` groups are mapped, and their kernel IDs are made.
use Rattle.tables.specs.Tables.{tables_of}
use Rattle.hierarchy.specs.KernelStarts.{by_kernel_starts}
use Rattle.credentials.proofs.GroupLists.{ListedTo}
use Rattle.credentials.proofs.groups.kernel_groups.Given as goal

abbrev pub invariant-loop-i : goal.invariant-loop-i
invariant-loop-i l = ListedTo (by_kernel_starts (tables_of l.t)) l.«namespace» l.list l.ids l.i
