-- `process_at` meets its contract. Assumes nothing.
use Rattle.tables.proofs.Tables.{loads}
use Rattle.tables.proofs.processes.process_at.Goals as goal

pub returns-then-place-lt-PROCESS_PLACES : goal.returns-then-place-lt-PROCESS_PLACES
returns-then-place-lt-PROCESS_PLACES c = search loads

pub returns-else-place-lt-PROCESS_PLACES : goal.returns-else-place-lt-PROCESS_PLACES
returns-else-place-lt-PROCESS_PLACES c = search loads
