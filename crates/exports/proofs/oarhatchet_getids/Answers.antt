-- `exports::oarhatchet_getids` meets its contract. Assumes nothing.
use Rattle.std.proofs.Common.{◌≡◌, ◌∙◌, refl, rules, length, sym}
use Rattle.exports.specs.Codes.{ids_row}
use Rattle.exports.proofs.Replaying.{put_whole}
use Rattle.exports.proofs.oarhatchet_getids.Goals as goal

pub returns-in-Ok : goal.returns-in-Ok
returns-in-Ok c =
    let long : length (ids_row c.in-Ok.own) ≡ length c.args.ids.now = search rules in
    let words = c.row.ensures ∙ put_whole c.args.ids.now (ids_row c.in-Ok.own) long in
    rw (sym c.own_ids.ensures, c.in-Ok.is) record { answer = refl; words = words }
