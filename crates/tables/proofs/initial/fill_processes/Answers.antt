-- `tables::initial::fill_processes` meets its contract. Assumes nothing.
use Rattle.tables.proofs.Filling.{processes_more, filling}
use Rattle.tables.proofs.initial.fill_processes.Goals as goal

pub loop-i-init : goal.loop-i-init
loop-i-init c = search filling

pub loop-i-preserved : goal.loop-i-preserved
loop-i-preserved c =
    let inv = c.loop-i.invariant in
    (inv.0, processes_more _ _ _ inv.1 _ _ _ c.loop-i-test.true inv.0 c.process_put.ensures)

pub returns : goal.returns
returns c = search filling
