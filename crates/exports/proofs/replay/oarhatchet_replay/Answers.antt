-- `exports::replay::oarhatchet_replay` meets its contract. Assumes nothing.
use Rattle.std.proofs.Common.{◌≡◌, rules, Some}
use Rattle.exports.proofs.Replaying.{step_coded, step_ids}
use Rattle.exports.proofs.replay.oarhatchet_replay.Goals as goal

pub returns-in-Ok-Some-clause-made : goal.returns-in-Ok-Some-clause-made
returns-in-Ok-Some-clause-made c =
    let found : c.in-Ok-Some.field-0 ≡ Some c.in-Ok-Some.r = search rules in
    step_coded _ _ _ _ _ (rw found at c.in-Ok-Some.ensures.made) _ c.response_code.ensures

pub returns-in-Ok-Some-clause-ids : goal.returns-in-Ok-Some-clause-ids
returns-in-Ok-Some-clause-ids c =
    let found : c.in-Ok-Some.field-0 ≡ Some c.in-Ok-Some.r = search rules in
    step_ids _ _ _ _ _ (rw found at c.in-Ok-Some.ensures.made) _ _ c.put_own.ensures
