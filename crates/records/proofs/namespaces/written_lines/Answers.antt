-- `written_lines`: the words of the lines that the map says it has.
use Rattle.records.proofs.Lines.{lines}
use Rattle.records.proofs.namespaces.written_lines.Goals as goal

pub returns-then-words-eq-WRITTEN : goal.returns-then-words-eq-WRITTEN
returns-then-words-eq-WRITTEN c = search lines

pub returns-else-words-eq-WRITTEN : goal.returns-else-words-eq-WRITTEN
returns-else-words-eq-WRITTEN c = search lines
