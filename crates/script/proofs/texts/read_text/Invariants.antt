-- `script::texts::read_text`: each turn takes a byte or more of what is left.
use Rattle.std.proofs.Common.{length}
use Rattle.script.proofs.texts.read_text.Given as goal

abbrev pub decreases-loop-left : goal.decreases-loop-left
decreases-loop-left l = length l.left
