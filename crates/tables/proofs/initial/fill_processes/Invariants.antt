-- `tables::initial::fill_processes`: the first `i` places are in the tables.
use Rattle.std.proofs.Common.{◌≡◌}
use Rattle.tables.specs.Tables.{tables_of, initial_tables}
use Rattle.tables.proofs.Filling.{processes_in}
use Rattle.tables.proofs.initial.fill_processes.Given as goal

abbrev pub invariant-loop-i : goal.invariant-loop-i
invariant-loop-i l = (l.p-items ≡ initial_tables.processes) × (tables_of l.t ≡ processes_in (tables_of l.fn.t) l.i)
