-- `capable`: what the walk answers from where it stands, with the levels that are left, is the answer.
use Rattle.std.proofs.Common.{◌≡◌}
use Rattle.capability.specs.Sets.{holds}
use Rattle.tables.specs.Tables.{tables_of}
use Rattle.hierarchy.specs.Walks.{holds_in, capable_in}
use Rattle.hierarchy.proofs.capable.capable.Given as goal

abbrev pub invariant-loop-at : goal.invariant-loop-at
invariant-loop-at l =
    holds_in (tables_of l.t) l.p.namespace l.p.users.effective (holds l.p.effective.bits l.capability) l.left l.at
    ≡ capable_in (tables_of l.t) l.p l.place l.capability

abbrev pub decreases-loop-at : goal.decreases-loop-at
decreases-loop-at l = l.left
