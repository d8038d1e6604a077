-- `map_reader::text::digits` meets its contract. Assumes nothing.
use Rattle.std.proofs.Common.{rules, refl, arith}
use Rattle.idmap.specs.Text.{is_digit}
use Rattle.map_reader.proofs.Scans.{counted, next_fits, next_less, next_seen, number_starts, digits_over, digits_step, digits_none, digits_some}
use Rattle.map_reader.proofs.text.digits.Goals as goal

pub loop-v-init : goal.loop-v-init
loop-v-init c = record { small = omega arith; seen = c.requires; same = number_starts _ _ }

pub returns-then-v : goal.returns-then-v
returns-then-v c =
    digits_over _ _ c.loop-v.invariant.seen _ _ c.loop-v.invariant.same _ c.is_digit.ensures c.loop-v-test.true c.if-v.true

pub overflow_add-c : goal.overflow_add-c
overflow_add-c c = next_fits _ _ c.loop-v.invariant.seen is_digit refl _ c.is_digit.ensures c.loop-v-test.true (search rules)

pub see-c-requires : goal.see-c-requires
see-c-requires c = counted _ _ c.loop-v.invariant.seen

pub loop-v-smaller : goal.loop-v-smaller
loop-v-smaller c = next_less _ _ c.loop-v.invariant.seen is_digit refl _ c.is_digit.ensures c.loop-v-test.true _ c.see-c.ensures

pub loop-v-preserved : goal.loop-v-preserved
loop-v-preserved c = record {
  small = omega arith;
  seen = next_seen _ _ c.loop-v.invariant.seen is_digit refl _ c.is_digit.ensures c.loop-v-test.true _ c.see-c.ensures;
  same = digits_step _ _ c.loop-v.invariant.seen _ _ c.loop-v.invariant.same _ c.is_digit.ensures c.loop-v-test.true (omega arith) _ c.see-c.ensures;
}

pub returns-then-c-first : goal.returns-then-c-first
returns-then-c-first c =
    digits_none _ _ c.loop-v.invariant.seen _ _ c.loop-v.invariant.same _ c.is_digit.ensures c.loop-v-test.false c.if-c-first.true

pub returns : goal.returns
returns c =
    digits_some _ _ c.loop-v.invariant.seen _ _ c.loop-v.invariant.same _ c.is_digit.ensures c.loop-v-test.false c.if-c-first.false
