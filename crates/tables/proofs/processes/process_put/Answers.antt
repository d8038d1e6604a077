-- `process_put` meets its contract. Assumes nothing.
use Rattle.tables.proofs.Tables.{stores}
use Rattle.tables.proofs.processes.process_put.Goals as goal

pub returns-then-place-lt-PROCESS_PLACES : goal.returns-then-place-lt-PROCESS_PLACES
returns-then-place-lt-PROCESS_PLACES c = search stores

pub returns-else-place-lt-PROCESS_PLACES : goal.returns-else-place-lt-PROCESS_PLACES
returns-else-place-lt-PROCESS_PLACES c = search stores
