-- `map_lines` meets its contract. Assumes nothing.
use Rattle.tables.proofs.Lines.{lines}
use Rattle.tables.proofs.namespaces.map_lines.Goals as goal

pub returns-then-place-ge-NAMESPACE_PLACES : goal.returns-then-place-ge-NAMESPACE_PLACES
returns-then-place-ge-NAMESPACE_PLACES c = search lines

pub returns : goal.returns
returns c = search lines
