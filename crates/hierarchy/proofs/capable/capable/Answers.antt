-- `capable`: a turn of the walk is a step of the definition.
use Rattle.std.proofs.Common.{◌∙◌, ◌-◌, sym, arith}
use Rattle.hierarchy.proofs.Capability.{walk_start, walk_own, walk_root, walk_owned, walk_on, walk_end}
use Rattle.hierarchy.proofs.capable.capable.Goals as goal

pub loop-at-init : goal.loop-at-init
loop-at-init c = walk_start _ _ _ _ _ c.height-left.ensures

pub loop-at-preserved : goal.loop-at-preserved
loop-at-preserved c =
    sym (walk_on _ _ _ _ c.loop-at.left _ c.if-at-p.false c.if-at-eq0.false _ c.namespace_at-n.ensures (sym c.owned.ensures ∙ c.if-owned.false) (c.loop-at.left - 1) (omega (arith, c.if-left-eq0.false)))
    ∙ c.loop-at.invariant

pub returns-then-at-p : goal.returns-then-at-p
returns-then-at-p c = c.has.ensures ∙ sym (walk_own _ _ _ _ _ _ c.if-at-p.true) ∙ c.loop-at.invariant

pub returns-then-at-eq0 : goal.returns-then-at-eq0
returns-then-at-eq0 c = sym (walk_root _ _ _ _ _ _ c.if-at-p.false c.if-at-eq0.true) ∙ c.loop-at.invariant

pub returns-then-owned : goal.returns-then-owned
returns-then-owned c =
    sym (walk_owned _ _ _ _ _ _ c.if-at-p.false c.if-at-eq0.false _ c.namespace_at-n.ensures (sym c.owned.ensures ∙ c.if-owned.true)) ∙ c.loop-at.invariant

pub returns-then-left-eq0 : goal.returns-then-left-eq0
returns-then-left-eq0 c =
    sym (walk_end _ _ _ _ _ _ c.if-at-p.false c.if-at-eq0.false _ c.namespace_at-n.ensures (sym c.owned.ensures ∙ c.if-owned.false) c.if-left-eq0.true) ∙ c.loop-at.invariant
