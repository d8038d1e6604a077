-- The words of demand 3 tried on lists of calls: each of these lists needs the case that it is about. Assumes nothing.
use Prim.Native.Nat.{ℕ, ◌<◌, ◌+◌}
use mathlib.Core.Path.{◌≡◌, refl, ◌∙◌, subst}
use mathlib.Core.List.{List, [], ◌∷◌}
use mathlib.Core.Logic.{inl, inr}
use native.Mathlib.Omega.{arith}
use Rattle.records.specs.declared.Kind.TheVariants.{User}
use Rattle.prelude.specs.Parts.{fits_at, put_at}
use Rattle.prelude.specs.Lists.{cons_of, all_of}
use Rattle.capability.specs.Sets.{holds}
use Rattle.idmap.specs.Lookup.{out}
use Rattle.idmap.specs.Good.{fits_of, bounded_of, apart_side, apart_of, all_apart, good_of}
use Rattle.idmap.specs.Ranges.{one_has, lies_whole}
use Rattle.idmap.specs.Text.{pieces, filled, all_digits, decimal, decimal_of, numbers_of, three_of, line_of, text_lines, checked, map_lines, padded}
use Rattle.idmap.specs.Show.{shown, number_text, line_columns, line_text, lines_text}
use Rattle.tables.specs.Tables.{process_at, namespace_at, put_map, initial_tables}
use Rattle.tables.specs.Find.{process_named, namespace_named, free_from, free_process_place, free_namespace_place, caller_named}
use Rattle.hierarchy.specs.Walks.{height_of, owned_by, holds_in, capable_in}
use Rattle.process.specs.Calls.{fork_of, knows_itself, below, entered, clone_of, unshare_of, setns_of}
use Rattle.records.specs.Records.{with_map, with_deny}
use Rattle.mapping.specs.Calls.{is_near, single_line, may_map, all_whole, mapped_tables, write_lines_to, write_map_to, write_map_of}
use Rattle.mapping.specs.Calls.{same_bytes, is_word, setting_in, write_setgroups_to, write_setgroups_of, read_text, view_of, shown_line, map_text_of, read_map_of}
use Rattle.credentials.specs.Calls.{with_users, with_groups, may_take, set_ids_of, set_groups_of, capable_reply, translate_reply}
use Rattle.calls.specs.Calls.{answer_by, Request}
use Rattle.calls.specs.declared.Call.TheVariants.{Clone, Setns}
use Rattle.claims.specs.Events.{Event, forked, cloned, unshared, joined, mapped, changed}
use Rattle.claims.specs.Words.{is_namespace, place_of, parent_of, level_of, written_of, written_lines, held_of, held}
use Rattle.claims.specs.Translation.{Pairs, top, through, Under, here, by_levels, out_by, back_by, deeper}
use Rattle.claims.specs.TopLevel.{TopLevel, Stands, Has, Descends, Entered}
use Rattle.claims.specs.History.{run_from, history_from, history, events}
use Rattle.claims.specs.Scenarios.{plain, fork, unshare, set_ids, write_map, bytes_of, line}

-- process 2 takes user 1000 and makes a top-level namespace whose map does not have 1000; it forks 3; a fork of 1 joins
-- from outside
abbrev entering : List Request
entering =
    fork 1 ∷ set_ids User 2 1000 ∷ unshare 2 ∷ write_map User 1 2 "0 100000 10" ∷ fork 2 ∷ fork 1 ∷ plain (Setns 4 1) ∷ []

abbrev entered_events : List Event
entered_events =
    joined 4 1 ∷ forked 1 4 ∷ forked 2 3 ∷ mapped User 2 (bytes_of "0 100000 10") ∷ unshared 2 1
    ∷ changed User 2 (record { real = 1000; effective = 1000; saved = 1000 }) ∷ forked 1 2 ∷ []

-- two top-level namespaces whose maps share kernel IDs: one ID is mapped in both, so `disjoint` needs its premise
abbrev overlapping : List Request
overlapping = plain (Clone 1) ∷ plain (Clone 1) ∷ write_map User 1 2 "0 100000 10" ∷ write_map User 1 3 "0 100005 10" ∷ []

abbrev overlapping_events : List Event
overlapping_events = mapped User 3 (bytes_of "0 100005 10") ∷ mapped User 2 (bytes_of "0 100000 10") ∷ cloned 1 3 2 ∷ cloned 1 2 1 ∷ []

-- the histories say what happened, the newest first
happened_so : (events (history entering) ≡ entered_events) × (events (history overlapping) ≡ overlapping_events)
unfolding fits_at put_at holds out fits_of bounded_of apart_side apart_of all_apart good_of one_has lies_whole
    pieces filled cons_of all_of all_digits decimal decimal_of numbers_of three_of line_of text_lines checked map_lines padded
    shown number_text line_columns line_text lines_text
    process_at namespace_at initial_tables caller_named process_named namespace_named free_from free_process_place free_namespace_place
    height_of by_levels out_by back_by owned_by holds_in capable_in
    fork_of knows_itself below entered unshare_of
    is_near single_line may_map all_whole with_map mapped_tables put_map write_lines_to write_map_to write_map_of
    same_bytes is_word with_deny setting_in write_setgroups_to write_setgroups_of read_text view_of shown_line map_text_of read_map_of
    with_users with_groups may_take set_ids_of set_groups_of capable_reply translate_reply
    answer_by run_from history_from setns_of clone_of
happened_so = (refl, refl)

entering_top : TopLevel entered_events 1
unfolding is_namespace parent_of place_of
entering_top = (refl, (λ e. omega arith), refl)

-- process 2 carries 1000, which is not mapped there: it carried it in when it made the namespace
carries_1000 : Has 1000 (held (held_of User entered_events 2))
unfolding held_of place_of Has written_of parent_of level_of out_by
carries_1000 = inl refl

lines_are : written_lines User entered_events 1 ≡ line 0 100000 10 ∷ []
unfolding written_of place_of map_lines checked text_lines all_of cons_of pieces filled line_of three_of
    numbers_of decimal_of all_digits decimal good_of bounded_of fits_of all_apart apart_of apart_side
lines_are = refl

1000-not-mapped : Stands User entered_events 1 1000 → ⊥
unfolding parent_of place_of
1000-not-mapped (x, top e f h) = omega arith
1000-not-mapped (x, through e z p (top f g h)) = only_line (subst (λ (ls : List _). Pairs ls x z) lines_are p) g
  where
    only_line : Pairs (line 0 100000 10 ∷ []) x z → z ≡ 1000 → ⊥
    only_line r q =
        let w : r.which ≡ 0 = omega (arith, r.which_in_range) in
        let z-is : z ≡ 100000 + r.offset = r.parent_is ∙ rw w in
        omega arith
1000-not-mapped (x, through e z p (through f w q o)) = f refl

entered_by_2 : Entered User entered_events 1 2 1000
unfolding Entered Has held_of place_of written_of parent_of level_of out_by
entered_by_2 = inr (inl (refl, refl, inl refl))

-- process 3 carries it too, and never entered: process 2, from which it descends, did
3-descends : Descends entered_events 3 2
unfolding Descends
3-descends = inr (inl (refl, inl refl))

3-never-entered : Entered User entered_events 1 3 1000 → ⊥
unfolding Entered
3-never-entered (inl d) = omega (arith, d.0)
3-never-entered (inr (inl d)) = omega (arith, d.0)
3-never-entered (inr (inr d)) = d

-- process 4 joined from outside with 0
4-entered : Entered User entered_events 1 4 0
unfolding Entered Has held_of place_of
4-entered = inl (refl, here refl, outside, inl refl)
  where
    outside : Under (parent_of (forked 1 4 ∷ forked 2 3 ∷ mapped User 2 (bytes_of "0 100000 10") ∷ unshared 2 1 ∷ changed User 2 (record { real = 1000; effective = 1000; saved = 1000 }) ∷ forked 1 2 ∷ [])) 1 0 → ⊥
    outside (here e) = omega arith
    outside (deeper e u) = e refl

not_zero : (n : ℕ) → 0 < n → n ≡ 0 → ⊥
not_zero n h e = omega arith

-- one ID is mapped in both top-level namespaces
both_have : Stands User overlapping_events 1 100005 × Stands User overlapping_events 2 100005
unfolding written_of place_of map_lines checked text_lines all_of cons_of pieces filled line_of three_of
    numbers_of decimal_of all_digits decimal good_of bounded_of fits_of all_apart apart_of apart_side parent_of
both_have = (
  (5, through (not_zero 1 (omega arith)) 100005 (record { which = 0; which_in_range = omega arith; offset = 5; below_count = omega arith; inside_is = refl; parent_is = refl }) (top {x = 100005} refl refl (omega arith))),
  (0, through (not_zero 2 (omega arith)) 100005 (record { which = 0; which_in_range = omega arith; offset = 0; below_count = omega arith; inside_is = refl; parent_is = refl }) (top {x = 100005} refl refl (omega arith))),
)
