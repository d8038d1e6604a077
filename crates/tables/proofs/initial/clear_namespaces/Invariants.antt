-- `tables::initial::clear_namespaces`: the first `i` places have no namespace.
use Rattle.std.proofs.Common.{◌≡◌}
use Rattle.tables.specs.Tables.{tables_of}
use Rattle.tables.proofs.Filling.{cleared_to}
use Rattle.tables.proofs.initial.clear_namespaces.Given as goal

abbrev pub invariant-loop-i : goal.invariant-loop-i
invariant-loop-i l = tables_of l.t ≡ cleared_to (tables_of l.fn.t) l.i
