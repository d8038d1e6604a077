-- `exports::replay::put_own` meets its contract. Assumes nothing.
use Rattle.std.proofs.Common.{◌≡◌, ◌∙◌, rules, length, Ok}
use Rattle.calls.specs.declared.Response.TheVariants.{Own}
use Rattle.exports.specs.Codes.{ids_row}
use Rattle.exports.proofs.Replaying.{put_whole}
use Rattle.exports.proofs.replay.put_own.Goals as goal

pub returns-in-Ok-Own : goal.returns-in-Ok-Own
returns-in-Ok-Own c =
    let own : c.args.r ≡ Ok (Own c.in-Ok-Own.o) = search rules in
    let long : length (ids_row c.in-Ok-Own.o) ≡ length c.args.ids.now = search rules in
    rw own (c.row.ensures ∙ put_whole c.args.ids.now (ids_row c.in-Ok-Own.o) long)
