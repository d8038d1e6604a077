-- `idmap::lookup::lookup` meets its contract. Assumes nothing.
use Rattle.std.proofs.Common.{◌∙◌, sym}
use Rattle.idmap.proofs.Lookups.{lookup_none, lookup_hit, lookup_miss}
use Rattle.idmap.proofs.lookup.lookup.Goals as goal

pub returns-then-in_range : goal.returns-then-in_range
returns-then-in_range c =
    c.held.ensures
    ∙ sym (c.loop-left.invariant ∙ lookup_hit _ _ _ _ c.in-len4-up.len_at_least _ c.line_of-l.ensures (sym c.in_range.ensures ∙ c.if-in_range.true))

pub loop-left-preserved : goal.loop-left-preserved
loop-left-preserved c =
    c.loop-left.invariant ∙ lookup_miss _ _ _ _ c.in-len4-up.len_at_least _ c.line_of-l.ensures (sym c.in_range.ensures ∙ c.if-in_range.false)

pub returns : goal.returns
returns c = sym (c.loop-left.invariant ∙ lookup_none _ _ _ _ c.in_default.len_below)
