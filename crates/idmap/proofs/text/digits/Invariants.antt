-- `idmap::text::digits`: `v` is the value of the digits up to `end`, and the number is what they and those from `end` on
-- give.
use Rattle.std.proofs.Common.{◌≡◌, ◌≤◌, ◌-◌, length}
use Rattle.idmap.specs.Good.{no_id}
use Rattle.idmap.specs.Scan.{number_at}
use Rattle.idmap.proofs.Scans.{number_from}
use Rattle.idmap.proofs.text.digits.Given as goal

abbrev pub invariant-loop-end : goal.invariant-loop-end
invariant-loop-end l = record { small : l.v ≤ no_id; same : number_at l.s l.at ≡ number_from l.s l.at l.v l.end }

abbrev pub decreases-loop-end : goal.decreases-loop-end
decreases-loop-end l = length l.s - l.end
