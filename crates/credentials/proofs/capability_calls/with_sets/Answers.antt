-- `credentials::capability_calls::with_sets` meets its contract: what a part is lowered to is the part. Assumes nothing.
use Rattle.std.proofs.Common.{◌≡◌, ◌∙◌}
use Rattle.capability.proofs.Sets.{lowered_all}
use Rattle.credentials.specs.Calls.{with_sets}
use Rattle.credentials.proofs.capability_calls.with_sets.Goals as goal

pub returns : goal.returns
unfolding with_sets
returns c =
    let kept : c.lowered-kept.result ≡ record { bits = c.args.permitted } =
    c.lowered-kept.ensures ∙ rw (c.new.ensures, lowered_all c.args.p.permitted.bits c.args.permitted c.requires.0 c.ranges.permitted.fits) in
    let used : c.lowered.result ≡ record { bits = c.args.effective } =
    c.lowered.ensures ∙ rw (kept, c.new-2.ensures, lowered_all c.args.permitted c.args.effective c.requires.1 c.ranges.effective.fits) in
    rw (kept, used)
