-- `credentials::own::seen_groups` meets its contract. Assumes nothing.
use Rattle.std.proofs.Common.{arith, rules}
use Rattle.credentials.proofs.GroupLists.{seen_starts, seen_step, seen_ends}
use Rattle.credentials.proofs.own.seen_groups.Goals as goal

pub loop-i-init : goal.loop-i-init
loop-i-init c = seen_starts _ _ _

pub loop-i-preserved : goal.loop-i-preserved
loop-i-preserved c = seen_step _ _ _ _ _ _ c.loop-i.invariant (search rules) c.min-count.ensures _ c.loop-i-test.true c.seen.ensures

pub returns : goal.returns
returns c = seen_ends _ _ _ _ _ _ c.loop-i.invariant (search rules) c.min-count.ensures (omega arith)
