-- `row`: the words with the IDs put in are those of the definition.
use Rattle.std.proofs.Common.{refl, sym, ◌∙◌, rules}
use Rattle.prelude.proofs.Made.{tab_all}
use Rattle.records.specs.Records.{max_groups}
use Rattle.exports.proofs.row.Goals as goal

pub returns : goal.returns
returns c =
    let ids = c.args.own.supplementary.ids in
    let list = c.copy_from_slice-2.ensures.after ∙ sym (tab_all ids 0 max_groups (search rules)) in
    rw (c.copy_from_slice.ensures.after, list) refl
