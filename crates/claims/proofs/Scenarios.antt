-- The scenarios come out, by computation. Assumes nothing.
use mathlib.Core.Path.{◌≡◌, refl}
use mathlib.Core.List.{List, [], ◌∷◌, map, head-eq_of_cons-eq, tail-eq_of_cons-eq}
use Rattle.prelude.specs.Parts.{fits_at, put_at}
use Rattle.prelude.specs.Lists.{cons_of, all_of}
use Rattle.capability.specs.Sets.{holds}
use Rattle.idmap.specs.Lookup.{out}
use Rattle.idmap.specs.Good.{fits_of, bounded_of, apart_side, apart_of, all_apart, good_of}
use Rattle.idmap.specs.Ranges.{one_has, lies_whole}
use Rattle.idmap.specs.Text.{pieces, filled, all_digits, decimal, decimal_of, numbers_of, three_of, line_of, text_lines, checked, map_lines, padded}
use Rattle.idmap.specs.Show.{shown, number_text, line_columns, line_text, lines_text}
use Rattle.tables.specs.Tables.{process_at, namespace_at, put_map, initial_tables}
use Rattle.tables.specs.Find.{process_named, namespace_named, free_from, free_process_place, free_namespace_place, caller_named}
use Rattle.hierarchy.specs.Walks.{height_of, owned_by, holds_in, capable_in}
use Rattle.process.specs.Calls.{fork_of, knows_itself, below, entered, unshare_of}
use Rattle.records.specs.Records.{with_map, with_deny}
use Rattle.mapping.specs.Calls.{is_near, single_line, may_map, all_whole, mapped_tables, write_lines_to, write_map_to, write_map_of}
use Rattle.mapping.specs.Calls.{same_bytes, is_word, setting_in, write_setgroups_to, write_setgroups_of, read_text, view_of, shown_line, map_text_of, read_map_of}
use Rattle.credentials.specs.Calls.{with_users, with_groups, may_take, set_ids_of, set_groups_of, capable_reply, translate_reply}
use Rattle.calls.specs.Calls.{answer_by}
use Rattle.claims.specs.Translation.{by_levels, out_by, back_by}
use Rattle.claims.specs.History.{run_from, history_from}
use Rattle.claims.specs.Scenarios.{Scenario, scenarios, found, expected, AllOf, AllComeOut}

-- where all results are as expected, each scenario comes out
each : (cs : List Scenario) → map found cs ≡ map expected cs → AllOf cs
unfolding AllOf
each [] e = tt
each (c ∷ cs) e = (head-eq_of_cons-eq e, each cs (tail-eq_of_cons-eq e))

pub scenarios_come_out : AllComeOut
unfolding fits_at put_at holds out fits_of bounded_of apart_side apart_of all_apart good_of one_has lies_whole
    pieces filled cons_of all_of all_digits decimal decimal_of numbers_of three_of line_of text_lines checked map_lines padded
    shown number_text line_columns line_text lines_text
    process_at namespace_at initial_tables caller_named process_named namespace_named free_from free_process_place free_namespace_place
    height_of by_levels out_by back_by owned_by holds_in capable_in
    fork_of knows_itself below entered unshare_of
    is_near single_line may_map all_whole with_map mapped_tables put_map write_lines_to write_map_to write_map_of
    same_bytes is_word with_deny setting_in write_setgroups_to write_setgroups_of read_text view_of shown_line map_text_of read_map_of
    with_users with_groups may_take set_ids_of set_groups_of capable_reply translate_reply
    answer_by run_from history_from
scenarios_come_out = each scenarios refl
