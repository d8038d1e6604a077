-- `replay_step::make` meets its contract. Assumes nothing.
use Rattle.replay_step.proofs.Steps.{call_made}
use Rattle.replay_step.proofs.make.Goals as goal

pub returns : goal.returns
returns c = call_made c.answer.result c.args.t.now c.answer.new.t c.answer.new.buffer c.args.journal.now c.args.list.now c.args.buffer.now c.args.r _ _ c.min-length.ensures c.answer.ensures
