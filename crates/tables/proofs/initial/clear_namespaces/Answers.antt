-- `clear_namespaces` meets its contract. Assumes nothing.
use Rattle.tables.proofs.Filling.{filling}
use Rattle.tables.proofs.initial.clear_namespaces.Goals as goal

pub loop-i-init : goal.loop-i-init
loop-i-init c = search filling

pub loop-i-preserved : goal.loop-i-preserved
loop-i-preserved c = search filling

pub returns : goal.returns
returns c = search filling
