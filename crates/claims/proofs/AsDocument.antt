-- On tables that calls leave, translation by kernel starts and ranges by a lookup's count are the papers', so that the
-- code's steps, runs and histories are those of the papers. Assumes nothing.
use mathlib.Core.Path.{◌≡◌, refl, ap, ◌∙◌}
use mathlib.Core.List.{List, [], ◌∷◌}
use Rattle.tables.specs.Tables.{State, initial_tables}
use Rattle.hierarchy.specs.Walks.{Translation}
use Rattle.hierarchy.specs.KernelStarts.{by_kernel_starts}
use Rattle.calls.specs.Calls.{Request, Step, answer_of}
use Rattle.claims.specs.Translation.{by_levels}
use Rattle.claims.specs.History.{Entry, entry_of, step_of, run_from, history_from, run, history, events, AllFit}
use Rattle.claims.specs.AsDocument.{AsDocument}
use Rattle.claims.proofs.Allowed.{sound}
use Rattle.claims.proofs.Translating.{same_translation}
use Rattle.claims.proofs.Theorem.{Reached, start, step, reached}

module _ (s : State) (h : List Entry) (a : Reached s h) where
  same_at : by_kernel_starts s ≡ by_levels s
  same_at = same_translation s (events h) a.agree (sound (events h) a.valid) a.beside

  same_step : (r : Request) → step_of by_kernel_starts s r ≡ step_of by_levels s r
  same_step r = ap (λ (by : Translation). answer_of by s r) same_at

-- both runs take the same step, and go on from there
same_run : (s : State) (h : List Entry) (rs : List Request) → AllFit rs → Reached s h
    → (run_from by_kernel_starts s rs ≡ run_from by_levels s rs) × (history_from by_kernel_starts s h rs ≡ history_from by_levels s h rs)
unfolding AllFit run_from history_from
same_run s h [] f a = (refl, refl)
same_run s h (r ∷ rs) f a =
    let e = same_step s h a r in
    let next = same_run (step_of by_levels s r).tables (entry_of r (step_of by_levels s r) ∷ h) rs f.1 (step s h r f.0 a) in
    (ap (λ (o : Step). run_from by_kernel_starts o.tables rs) e ∙ next.0, ap (λ (o : Step). history_from by_kernel_starts o.tables (entry_of r o ∷ h) rs) e ∙ next.1)

pub as_document : (rs : List Request) → AllFit rs → AsDocument rs
as_document rs f =
    let same = same_run initial_tables [] rs f start in
    record {
      translation = same_at (run rs) (history rs) (reached rs f);
      step = same_step (run rs) (history rs) (reached rs f);
      tables = same.0;
      told = same.1;
    }
