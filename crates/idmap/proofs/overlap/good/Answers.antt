-- `idmap::overlap::good` meets its contract. Assumes nothing.
use Rattle.std.proofs.Common.{◌∙◌, sym}
use Rattle.idmap.proofs.Overlaps.{all_apart_list, good_none, good_unbounded, good_unclear, good_next}
use Rattle.idmap.proofs.overlap.good.Goals as goal
use Rattle.idmap.proofs.overlap.good.Goals.{then-not-bounded-via-then-not-bounded, then-not-bounded-via-else-not-bounded+then-not-clear}

pub returns-then-not-bounded : goal.returns-then-not-bounded
returns-then-not-bounded c = sym (c.loop-left.invariant ∙ elim c.then-not-bounded.branch [
  | then-not-bounded-via-then-not-bounded w ↦
      good_unbounded _ c.in-len1-up.len_at_least (sym c.bounded.ensures ∙ w.if-not-bounded.true)
  | then-not-bounded-via-else-not-bounded+then-not-clear w ↦
      good_unclear _ c.in-len1-up.len_at_least (sym c.bounded.ensures ∙ w.if-not-bounded.false) (sym (w.clear.ensures ∙ all_apart_list _ _) ∙ w.if-not-clear.true)
])

pub loop-left-preserved : goal.loop-left-preserved
loop-left-preserved c =
    c.loop-left.invariant
    ∙ good_next _ c.in-len1-up.len_at_least (sym c.bounded.ensures ∙ c.if-not-bounded.false) (sym (c.clear.ensures ∙ all_apart_list _ _) ∙ c.if-not-clear.false)

pub returns : goal.returns
returns c = sym (c.loop-left.invariant ∙ good_none _ c.in_default.len_below)
