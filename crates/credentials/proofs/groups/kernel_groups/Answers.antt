-- `credentials::groups::kernel_groups` meets its contract. Assumes nothing.
use Rattle.std.proofs.Common.{◌∙◌, sym, arith}
use Rattle.hierarchy.specs.KernelStarts.{by_kernel_starts}
use Rattle.credentials.proofs.GroupLists.{listed_starts, listed_step, listed_unmapped, listed_ends}
use Rattle.credentials.proofs.groups.kernel_groups.Goals as goal

pub loop-i-init : goal.loop-i-init
loop-i-init c = listed_starts _ _ _

pub returns-in_err-ids : goal.returns-in_err-ids
unfolding by_kernel_starts
returns-in_err-ids c =
    c.from_residual.ensures ∙ sym (listed_unmapped _ _ _ _ c.loop-i-test.true (sym c.to_kernel.ensures ∙ c.in_err-ids.was))

pub loop-i-preserved : goal.loop-i-preserved
unfolding by_kernel_starts
loop-i-preserved c =
    listed_step _ _ _ _ c.loop-i-test.true _ _ c.loop-i.invariant c.requires (sym c.to_kernel.ensures ∙ c.in_ok-ids.was)

pub returns : goal.returns
returns c = sym (listed_ends _ _ _ _ _ c.loop-i.invariant (omega arith))
