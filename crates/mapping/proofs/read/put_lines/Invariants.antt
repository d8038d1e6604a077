-- `mapping::read::put_lines`: the first `i` lines are in place.
use Rattle.tables.specs.Tables.{tables_of}
use Rattle.hierarchy.specs.KernelStarts.{by_kernel_starts}
use Rattle.mapping.proofs.Reading.{Stored}
use Rattle.mapping.proofs.read.put_lines.Given as goal

abbrev pub invariant-loop-i : goal.invariant-loop-i
invariant-loop-i l = Stored (by_kernel_starts (tables_of l.t)) (tables_of l.t) l.kind l.n l.v l.fn.buffer l.lines l.buffer l.i
