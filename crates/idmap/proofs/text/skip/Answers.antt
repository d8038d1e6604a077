-- `idmap::text::skip` meets its contract. Assumes nothing.
use Rattle.std.proofs.Common.{arith}
use Rattle.idmap.proofs.Scans.{skip_stop, skip_step, skip_end}
use Rattle.idmap.proofs.text.skip.Goals as goal

pub loop-end-preserved : goal.loop-end-preserved
loop-end-preserved c = skip_step _ _ _ c.loop-end.invariant _ c.loop-end-test.true c.is_blank.ensures c.if-is_blank.true

pub returns-else-is_blank : goal.returns-else-is_blank
returns-else-is_blank c = skip_stop _ _ _ c.loop-end.invariant _ c.loop-end-test.true c.is_blank.ensures c.if-is_blank.false

pub returns-after-loop-end : goal.returns-after-loop-end
returns-after-loop-end c = skip_end _ _ _ c.loop-end.invariant (omega arith)
