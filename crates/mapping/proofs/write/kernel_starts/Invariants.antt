-- `mapping::write::kernel_starts`: the first `i` are made.
use Rattle.std.proofs.Common.{◌≡◌, length}
use Rattle.idmap.specs.Good.{max_lines}
use Rattle.tables.specs.Tables.{tables_of}
use Rattle.hierarchy.specs.KernelStarts.{to_kernel}
use Rattle.mapping.proofs.Writes.{StartsTo}
use Rattle.mapping.proofs.write.kernel_starts.Given as goal

abbrev pub invariant-loop-i : goal.invariant-loop-i
invariant-loop-i l = record {
  long : length l.kernel ≡ max_lines;
  starts : StartsTo (to_kernel (tables_of l.t) l.kind l.parent) l.lines l.kernel l.i;
}
