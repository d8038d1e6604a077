-- `credentials::own::seen_groups`: the first `i` groups are made as the namespace sees them.
use Rattle.tables.specs.Tables.{tables_of}
use Rattle.hierarchy.specs.KernelStarts.{by_kernel_starts}
use Rattle.credentials.proofs.GroupLists.{SeenTo}
use Rattle.credentials.proofs.own.seen_groups.Given as goal

abbrev pub invariant-loop-i : goal.invariant-loop-i
invariant-loop-i l = SeenTo (by_kernel_starts (tables_of l.t)) l.«namespace» l.fn.list.ids l.ids l.i
