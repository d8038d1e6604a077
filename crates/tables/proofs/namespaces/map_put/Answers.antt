-- `map_put` meets its contract. Assumes nothing.
use Rattle.tables.proofs.Tables.{stores}
use Rattle.tables.proofs.namespaces.map_put.Goals as goal

pub returns-then-place-lt-NAMESPACE_PLACES : goal.returns-then-place-lt-NAMESPACE_PLACES
returns-then-place-lt-NAMESPACE_PLACES c = search stores

pub returns-else-place-lt-NAMESPACE_PLACES : goal.returns-else-place-lt-NAMESPACE_PLACES
returns-else-place-lt-NAMESPACE_PLACES c = search stores
