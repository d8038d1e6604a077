-- `fill_namespaces` meets its contract. Assumes nothing.
use Rattle.tables.proofs.Filling.{filling}
use Rattle.tables.proofs.initial.fill_namespaces.Goals as goal

pub returns : goal.returns
returns c = search filling
