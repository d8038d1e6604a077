-- `idmap::overlap::good`: the lines are good if those that are left are.
use Rattle.std.proofs.Common.{◌≡◌, length}
use Rattle.idmap.specs.Good.{good_of}
use Rattle.idmap.proofs.overlap.good.Given as goal

abbrev pub invariant-loop-left : goal.invariant-loop-left
invariant-loop-left l = good_of l.lines ≡ good_of l.left

abbrev pub decreases-loop-left : goal.decreases-loop-left
decreases-loop-left l = length l.left
