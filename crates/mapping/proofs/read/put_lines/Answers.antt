-- `mapping::read::put_lines` meets its contract. Assumes nothing.
use Rattle.std.proofs.Common.{arith}
use Rattle.mapping.proofs.Reading.{lines_start, lines_step, lines_end}
use Rattle.mapping.proofs.read.put_lines.Goals as goal

pub loop-i-init : goal.loop-i-init
loop-i-init c = lines_start _ _ _ _ _ _ _

pub loop-i-preserved : goal.loop-i-preserved
loop-i-preserved c = lines_step _ _ _ _ _ _ _ _ _ c.loop-i.invariant _ _ _ c.requires c.loop-i-test.true c.shown.ensures c.put_line.ensures.bytes

pub returns : goal.returns
returns c = lines_end _ _ _ _ _ _ _ _ _ c.loop-i.invariant (omega arith)
