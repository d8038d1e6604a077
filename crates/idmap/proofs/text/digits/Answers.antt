-- `idmap::text::digits` meets its contract. Assumes nothing.
use Rattle.std.proofs.Common.{arith}
use Rattle.idmap.proofs.Scans.{number_starts, number_stop, number_over, number_step, number_end}
use Rattle.idmap.proofs.text.digits.Goals as goal
use Rattle.idmap.proofs.text.digits.Goals.{then-loop-end-test+else-is_digit, else-loop-end-test}

pub loop-end-init : goal.loop-end-init
loop-end-init c = record { small = omega arith; same = number_starts _ _ }

pub returns-then-v : goal.returns-then-v
returns-then-v c = number_over _ _ _ _ c.loop-end.invariant.same _ c.loop-end-test.true c.is_digit.ensures c.if-is_digit.true c.if-v.true

pub loop-end-preserved : goal.loop-end-preserved
loop-end-preserved c = record {
  small = omega arith;
  same = number_step _ _ _ _ c.loop-end.invariant.same _ c.loop-end-test.true c.is_digit.ensures c.if-is_digit.true;
}

pub returns : goal.returns
returns c = elim c.loop-end-test.branch [
  | then-loop-end-test+else-is_digit w ↦ number_stop _ _ _ _ c.loop-end.invariant.same _ _ w.loop-end-test.true w.is_digit.ensures w.if-is_digit.false c.made.ensures
  | else-loop-end-test w ↦ number_end _ _ _ _ c.loop-end.invariant.same _ (omega arith) c.made.ensures
]
