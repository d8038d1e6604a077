-- `mapping::write::kernel_starts` meets its contract. Assumes nothing.
use Rattle.std.proofs.Common.{◌∙◌, refl, ap, arith, rules}
use Rattle.idmap.specs.Lookup.{or_no_id}
use Rattle.mapping.proofs.Writes.{starts_none, starts_more, starts_all}
use Rattle.mapping.proofs.write.kernel_starts.Goals as goal

pub loop-i-init : goal.loop-i-init
loop-i-init c = record { long = refl; starts = starts_none _ _ }

pub loop-i-preserved : goal.loop-i-preserved
loop-i-preserved c = record {
  long = search rules;
  starts = starts_more _ _ _ _ c.loop-i.invariant.starts c.loop-i.invariant.long _ c.requires c.loop-i-test.true (c.unwrap_or.ensures ∙ ap or_no_id c.to_kernel.ensures);
}

pub returns : goal.returns
returns c = starts_all _ _ _ _ c.loop-i.invariant.starts c.loop-i.invariant.long c.requires (omega arith)
