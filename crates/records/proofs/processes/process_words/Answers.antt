-- `process_words`: the row with the IDs put in is the record's.
use Rattle.std.proofs.Common.{refl, sym, ◌∙◌, rules}
use Rattle.prelude.proofs.Made.{tab_all}
use Rattle.records.specs.Records.{max_groups}
use Rattle.records.proofs.Records.{process_round}
use Rattle.records.proofs.processes.process_words.Goals as goal

pub returns : goal.returns
returns c =
    let ids = c.args.p.supplementary.ids in
    let one_by_one = tab_all ids 0 max_groups (search rules) in
    let users = c.copy_from_slice.ensures.after ∙ c.id_words.ensures in
    let groups = c.copy_from_slice-2.ensures.after ∙ c.id_words-2.ensures in
    let list = c.copy_from_slice-3.ensures.after ∙ c.group_words.ensures ∙ sym one_by_one in
    rw (users, groups, list)
    (process_round c.args.p _ ids refl refl (search rules)
    (record { real = search rules; effective = search rules; saved = search rules })
    (record { real = search rules; effective = search rules; saved = search rules })
    (λ j. search rules))
