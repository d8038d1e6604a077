-- `tables::find::free_process_place` meets its contract: what the search over the places finds is the lowest one that is free.
-- Assumes nothing.
use Rattle.std.proofs.Common.{◌≡◌, refl, Some, true, false, ap, sym, ◌∙◌, rules}
use borrow.Author.Tests.{tests}
use Rattle.std.proofs.lemmas.Iterator.{IsFirst-from_position, YieldsList-from_range}
use Rattle.tables.specs.Tables.{process_places, tables_of, process_at}
use Rattle.tables.specs.Find.{process_number, free_process_place, free_as}
use Rattle.tables.proofs.Finding.{process_search, numbered}
use Rattle.tables.proofs.Promises.{free_process_below}
use Rattle.tables.proofs.find.free_process_place.Goals as goal

pub returns-in_err-place : goal.returns-in_err-place
returns-in_err-place c =
    let found : free_process_place (tables_of c.args.t.now) ≡ c.position.result = process_search _ _ (numbered process_places _ _ _ (IsFirst-from_position _ _ _
    (λ i. (process_at (tables_of c.args.t.now) i).live ≡ false) (λ i. (process_at (tables_of c.args.t.now) i).live ≡ true)
    c.position.ensures.ran (YieldsList-from_range 0 process_places process_places refl refl) (λ x q k. search (rules, tests)) (λ x q k. search (rules, tests)))) in
    c.from_residual.ensures ∙ sym (ap (free_as process_number) (found ∙ c.in_err-place.was))

pub process_number-requires : goal.process_number-requires
process_number-requires c =
    let found : free_process_place (tables_of c.args.t.now) ≡ c.position.result = process_search _ _ (numbered process_places _ _ _ (IsFirst-from_position _ _ _
    (λ i. (process_at (tables_of c.args.t.now) i).live ≡ false) (λ i. (process_at (tables_of c.args.t.now) i).live ≡ true)
    c.position.ensures.ran (YieldsList-from_range 0 process_places process_places refl refl) (λ x q k. search (rules, tests)) (λ x q k. search (rules, tests)))) in
    free_process_below _ _ (found ∙ c.in_ok-place.was)

pub returns : goal.returns
returns c =
    let found : free_process_place (tables_of c.args.t.now) ≡ c.position.result = process_search _ _ (numbered process_places _ _ _ (IsFirst-from_position _ _ _
    (λ i. (process_at (tables_of c.args.t.now) i).live ≡ false) (λ i. (process_at (tables_of c.args.t.now) i).live ≡ true)
    c.position.ensures.ran (YieldsList-from_range 0 process_places process_places refl refl) (λ x q k. search (rules, tests)) (λ x q k. search (rules, tests)))) in
    ap (λ n. Some (c.in_ok-place.place, n)) c.process_number.ensures ∙ sym (ap (free_as process_number) (found ∙ c.in_ok-place.was))
