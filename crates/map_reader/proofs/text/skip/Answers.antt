-- `map_reader::text::skip` meets its contract. Assumes nothing.
use Rattle.std.proofs.Common.{rules, refl}
use Rattle.idmap.specs.Text.{is_blank}
use Rattle.map_reader.proofs.Scans.{counted, next_fits, next_less, next_seen, skip_step, skip_stop}
use Rattle.map_reader.proofs.text.skip.Goals as goal

pub overflow_add-c : goal.overflow_add-c
overflow_add-c c = next_fits _ _ c.loop-c.invariant.seen is_blank refl _ c.is_blank.ensures c.loop-c-test.true (search rules)

pub see-c-requires : goal.see-c-requires
see-c-requires c = counted _ _ c.loop-c.invariant.seen

pub loop-c-smaller : goal.loop-c-smaller
loop-c-smaller c = next_less _ _ c.loop-c.invariant.seen is_blank refl _ c.is_blank.ensures c.loop-c-test.true _ c.see-c.ensures

pub loop-c-preserved : goal.loop-c-preserved
loop-c-preserved c = record {
  seen = next_seen _ _ c.loop-c.invariant.seen is_blank refl _ c.is_blank.ensures c.loop-c-test.true _ c.see-c.ensures;
  same = skip_step _ _ c.loop-c.invariant.seen _ c.loop-c.invariant.same _ c.is_blank.ensures c.loop-c-test.true _ c.see-c.ensures;
}

pub returns : goal.returns
returns c = skip_stop _ _ c.loop-c.invariant.seen _ c.loop-c.invariant.same _ c.is_blank.ensures c.loop-c-test.false
