-- `tables::find::free_namespace_place` meets its contract: what the search over the places finds is the lowest one that is free.
-- Assumes nothing.
use Rattle.std.proofs.Common.{◌≡◌, Some, true, false, ap, sym, ◌∙◌, rules}
use borrow.Author.Tests.{tests}
use Rattle.std.proofs.lemmas.Iterator.{first_from_Range}
use Rattle.tables.specs.Tables.{tables_of, namespace_at}
use Rattle.tables.specs.Find.{namespace_number, free_namespace_place, free_as}
use Rattle.tables.proofs.Finding.{namespace_search}
use Rattle.tables.proofs.find.free_namespace_place.Goals as goal

pub returns-in_err-place : goal.returns-in_err-place
returns-in_err-place c =
    let found : free_namespace_place (tables_of c.args.t.now) ≡ c.find.result = namespace_search _ _ (first_from_Range _ _ _ _
    (λ i. (namespace_at (tables_of c.args.t.now) i).live ≡ false) (λ i. (namespace_at (tables_of c.args.t.now) i).live ≡ true)
    c.find.ensures.ran (λ x q k. search (rules, tests)) (λ x q k. search (rules, tests))) in
    c.from_residual.ensures ∙ sym (ap (free_as namespace_number) (found ∙ c.in_err-place.was))

pub returns : goal.returns
returns c =
    let found : free_namespace_place (tables_of c.args.t.now) ≡ c.find.result = namespace_search _ _ (first_from_Range _ _ _ _
    (λ i. (namespace_at (tables_of c.args.t.now) i).live ≡ false) (λ i. (namespace_at (tables_of c.args.t.now) i).live ≡ true)
    c.find.ensures.ran (λ x q k. search (rules, tests)) (λ x q k. search (rules, tests))) in
    ap (λ n. Some (c.in_ok-place.place, n)) c.namespace_number.ensures ∙ sym (ap (free_as namespace_number) (found ∙ c.in_ok-place.was))
