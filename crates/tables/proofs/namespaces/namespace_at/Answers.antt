-- `namespace_at` meets its contract. Assumes nothing.
use Rattle.tables.proofs.Tables.{loads}
use Rattle.tables.proofs.namespaces.namespace_at.Goals as goal

pub returns-then-place-lt-NAMESPACE_PLACES : goal.returns-then-place-lt-NAMESPACE_PLACES
returns-then-place-lt-NAMESPACE_PLACES c = search loads

pub returns-else-place-lt-NAMESPACE_PLACES : goal.returns-else-place-lt-NAMESPACE_PLACES
returns-else-place-lt-NAMESPACE_PLACES c = search loads
