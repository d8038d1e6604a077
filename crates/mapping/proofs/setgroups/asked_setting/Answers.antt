-- `mapping::setgroups::asked_setting` meets its contract. Assumes nothing.
use Rattle.std.proofs.Common.{inl, inr}
use Rattle.mapping.proofs.Settings.{compared, is_word_yes, is_word_no, sets_deny, sets_allow, sets_nothing}
use Rattle.mapping.proofs.setgroups.asked_setting.Goals as goal
use Rattle.mapping.proofs.setgroups.asked_setting.Goals.{then-eq-via-then-eq, then-eq-via-else-eq+then-eq-2, then-eq-3-via-then-eq-3, then-eq-3-via-else-eq-3+then-eq-4}

pub returns-then-eq : goal.returns-then-eq
returns-then-eq c = sets_deny _ (is_word_yes _ _ (elim c.then-eq.branch [
  | then-eq-via-then-eq w ↦ inl (compared _ _ _ _ _ c.eq.ensures c.as_slice.ensures w.if-eq.true)
  | then-eq-via-else-eq+then-eq-2 w ↦
      inr (compared _ _ _ _ _ c.eq.ensures c.as_slice.ensures w.if-eq.false, compared _ _ _ _ _ w.eq-else-eq.ensures w.as_slice-else-eq.ensures w.if-eq-2.true)
]))

pub returns-then-eq-3 : goal.returns-then-eq-3
returns-then-eq-3 c =
    sets_allow _
    (is_word_no _ _ (compared _ _ _ _ _ c.eq.ensures c.as_slice.ensures c.if-eq.false) (compared _ _ _ _ _ c.eq-else-eq.ensures c.as_slice-else-eq.ensures c.if-eq-2.false))
    (is_word_yes _ _ (elim c.then-eq-3.branch [
      | then-eq-3-via-then-eq-3 w ↦ inl (compared _ _ _ _ _ c.eq-2.ensures c.as_slice-2.ensures w.if-eq-3.true)
      | then-eq-3-via-else-eq-3+then-eq-4 w ↦
          inr (compared _ _ _ _ _ c.eq-2.ensures c.as_slice-2.ensures w.if-eq-3.false, compared _ _ _ _ _ w.eq-else-eq-3.ensures w.as_slice-else-eq-3.ensures w.if-eq-4.true)
    ]))

pub returns : goal.returns
returns c =
    sets_nothing _
    (is_word_no _ _ (compared _ _ _ _ _ c.eq.ensures c.as_slice.ensures c.if-eq.false) (compared _ _ _ _ _ c.eq-else-eq.ensures c.as_slice-else-eq.ensures c.if-eq-2.false))
    (is_word_no _ _ (compared _ _ _ _ _ c.eq-2.ensures c.as_slice-2.ensures c.if-eq-3.false) (compared _ _ _ _ _ c.eq-else-eq-3.ensures c.as_slice-else-eq-3.ensures c.if-eq-4.false))
