-- `replay_step::step` meets its contract. Assumes nothing.
use Rattle.std.proofs.Common.{◌≡◌, None, Ok, Err, ◌∙◌, sym, ap, rules}
use Rattle.replay_step.proofs.Steps.{found_both, found_made, end_made, stop_made}
use Rattle.replay_step.proofs.step.Goals as goal

pub returns-in_err-record-clause-made : goal.returns-in_err-record-clause-made
returns-in_err-record-clause-made c =
    let e : c.from_residual.result ≡ Err c.in_err-record.field-0.0 = search rules in
    rw e (stop_made _ _ _ _ c.in_err-record.field-0.0 (sym c.read_record.ensures.answer ∙ c.in_err-record.was))

pub returns-in_default-clause-made : goal.returns-in_default-clause-made
returns-in_default-clause-made c =
    let none : c.in_ok-record.field-0 ≡ None = search rules in
    end_made _ _ _ _ (sym c.read_record.ensures.answer ∙ c.in_ok-record.was ∙ ap Ok none)

pub make-answer-requires : goal.make-answer-requires
make-answer-requires c =
    found_both _ _ _ c.read_record.ensures.answer c.in-Some.record (c.in_ok-record.was ∙ ap Ok c.in-Some.is) _ (search rules)

pub returns-clause-made : goal.returns-clause-made
returns-clause-made c =
    found_made _ _ _ c.read_record.ensures.answer c.in-Some.record (c.in_ok-record.was ∙ ap Ok c.in-Some.is) _ _ (search rules)
    c.read_record.ensures.ids _ _ _ _ _ _ c.make-answer.ensures
