-- `idmap::text::skip`: the blanks from place `at` on end where those from `end` on do.
use Rattle.std.proofs.Common.{length, ◌-◌, ◌≡◌}
use Rattle.idmap.specs.Scan.{skipped}
use Rattle.idmap.proofs.text.skip.Given as goal

abbrev pub invariant-loop-end : goal.invariant-loop-end
invariant-loop-end l = skipped l.s l.at ≡ skipped l.s l.end

abbrev pub decreases-loop-end : goal.decreases-loop-end
decreases-loop-end l = length l.s - l.end
