-- `lines_of`: words of another number hold no lines.
use Rattle.records.proofs.Lines.{lines}
use Rattle.records.proofs.namespaces.lines_of.Goals as goal

pub returns-in-Ok : goal.returns-in-Ok
returns-in-Ok c = search lines

pub returns-in-Err : goal.returns-in-Err
returns-in-Err c = search lines
