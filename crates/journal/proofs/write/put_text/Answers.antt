-- `journal::write::put_text` meets its contract. Assumes nothing.
use native.Mathlib.Omega.{arith}
use Rattle.prelude.proofs.Parts.{put_step, put_all}
use Rattle.journal.proofs.write.put_text.Goals as goal

pub loop-i-preserved : goal.loop-i-preserved
loop-i-preserved c =
    put_step c.args.buffer.now c.args.at c.args.text.now c.loop-i.buffer c.loop-i.i c.requires c.loop-i-test.true c.loop-i.invariant

pub returns : goal.returns
returns c =
    put_all c.args.buffer.now c.args.at c.args.text.now c.loop-i.buffer c.loop-i.i c.requires (omega arith) (omega arith) c.loop-i.invariant
