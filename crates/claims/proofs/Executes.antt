-- What a host does with the code, call after call, is document 01's run of these calls. Assumes nothing.
use Prim.Native.Nat.{ℕ}
use mathlib.Core.Path.{◌≡◌, refl, sym, ap, ◌∙◌}
use mathlib.Core.List.{List, [], ◌∷◌, ◌++◌}
use lib.ListN.{length}
use Rattle.std.specs.Prelude.{Some, Ok}
use Rattle.tables.specs.Tables.{State, tables_of, initial_tables}
use Rattle.tables.specs.Reply.{Reply}
use Rattle.hierarchy.specs.Walks.{Translation}
use Rattle.hierarchy.specs.KernelStarts.{by_kernel_starts}
use Rattle.calls.specs.Calls.{Request, Step, call_reply}
use Rattle.journal.specs.declared.read.Record.{Record}
use Rattle.journal.specs.Reading.{read_at, request_at}
use Rattle.replay_step.specs.Replay.{max_read, replay_of}
use Rattle.exports.specs.Replay.{step_at}
use Rattle.claims.specs.Translation.{by_levels}
use Rattle.claims.specs.History.{Entry, entry_of, step_of, run_from, history_from, run, history, Fits, AllFit}
use Rattle.claims.specs.Execution.{Execution, started, answered, exported, replayed, replayed_export, requests_of, Executed}
use Rattle.claims.proofs.Theorem.{theorem}
use Rattle.claims.proofs.Bounds.{bounds}
use Rattle.claims.proofs.AsDocument.{as_document}
use Rattle.claims.proofs.Exported.{exported_step}
use Rattle.claims.proofs.RecordCalls.{read_fits, reply_replayed, tables_replayed}

-- ---- one call more at the end of a list
module _ (by : State → Translation) (r : Request) where
  pub run_more : (s : State) (rs : List Request) → run_from by s (rs ++ (r ∷ [])) ≡ (step_of by (run_from by s rs) r).tables
  unfolding run_from
  run_more s [] = refl
  run_more s (q ∷ rs) = run_more (step_of by s q).tables rs

  pub history_more : (s : State) (h : List Entry) (rs : List Request) → history_from by s h (rs ++ (r ∷ [])) ≡ entry_of r (step_of by (run_from by s rs) r) ∷ history_from by s h rs
  unfolding run_from history_from
  history_more s h [] = refl
  history_more s h (q ∷ rs) = history_more (step_of by s q).tables (entry_of q (step_of by s q) ∷ h) rs

pub fits_more : (rs : List Request) (r : Request) → AllFit rs → Fits r → AllFit (rs ++ (r ∷ []))
unfolding AllFit
fits_more [] r a f = (f, tt)
fits_more (q ∷ rs) r a f = (a.0, fits_more rs r a.1 f)

-- ---- executions
-- a chain so far: its tables and its answers are those of the run of its calls
record Chain (a : List ℕ) (h : List Entry) : Type 0 where
  tables : tables_of a ≡ run (requests_of h)
  told : h ≡ history (requests_of h)
  fit : AllFit (requests_of h)

-- one step more
link : (a b after : List ℕ) (h : List Entry) (r : Request) (reply : Reply) → Chain a h → Fits r
    → ◌≡◌ {A = Step} (record { reply = reply; tables = tables_of b; buffer = after }) (step_of by_kernel_starts (tables_of a) r)
    → Chain b (record { request = r; reply = reply; buffer = after } ∷ h)
unfolding requests_of
link a b after h r reply c f o =
    let rs = requests_of h in
    let e : ◌≡◌ {A = Step} (record { reply = reply; tables = tables_of b; buffer = after }) (step_of by_levels (run rs) r) =
    o ∙ ap (λ (s : State). step_of by_kernel_starts s r) c.tables ∙ (as_document rs c.fit).step r in
    record {
      tables = ap (λ (s : Step). s.tables) e ∙ sym (run_more by_levels r initial_tables rs);
      told = (λ i. entry_of r (e i) ∷ c.told i) ∙ sym (history_more by_levels r initial_tables [] rs);
      fit = fits_more rs r c.fit f;
    }

-- one record more of a journal
record_link : (a b : List ℕ) (h : List Entry) (r : Record) (reply : Reply) → Chain a h → (l lent : List ℕ) (at : ℕ) → read_at l at ≡ Ok (Some r)
    → length lent ≡ max_read → reply ≡ (replay_of (tables_of a) l (read_at l at) lent).reply → tables_of b ≡ (replay_of (tables_of a) l (read_at l at) lent).tables
    → Chain b (record { request = request_at l r; reply = reply; buffer = (step_of by_kernel_starts (tables_of a) (request_at l r)).buffer } ∷ h)
record_link a b h r reply c l lent at found full e t =
    let q = request_at l r in
    let reply_is = e ∙ reply_replayed l a lent at (requests_of h) r c.tables c.fit found full in
    let tables-are = t ∙ tables_replayed l a lent at (requests_of h) r c.tables c.fit found full in
    let after = (step_of by_kernel_starts (tables_of a) q).buffer in
    link a b after h q reply c (read_fits l at r found) (λ i. record { reply = reply_is i; tables = tables-are i; buffer = after })

chain : (a : List ℕ) (h : List Entry) → Execution a h → Chain a h
unfolding requests_of run_from history_from AllFit
chain a h (started e) = record { tables = e; told = refl; fit = tt }
chain b h (answered {a = a} {after = after} {h = g} {r = r} x f p) = link a b after g r _ (chain a g x) f p.outcome
chain b h (exported {a = a} {after = after} {h = g} {r = r} x f code p) =
    let n = exported_step code a b r.buffer after r.call r.text r.list p in
    link a b after g r _ (chain a g x) f (λ i. record { reply = (step_of by_kernel_starts (tables_of a) r).reply; tables = n.tables i; buffer = n.buffer i })
chain b h (replayed {a = a} {after = after} {h = g} {r = r} {response = response} x l lent at found full p) =
    record_link a b g r (call_reply response) (chain a g x) l lent at found full (ap (λ (s : Step). s.reply) p.outcome) (ap (λ (s : Step). s.tables) p.outcome)
chain b h (replayed_export {a = a} {after = after} {h = g} {r = r} x l lent at code found full p) =
    record_link a b g r (step_at a l at lent).reply (chain a g x) l lent at found full refl p.tables

pub executes : (a : List ℕ) (h : List Entry) → Execution a h → Executed a h
executes a h x =
    let c = chain a h x in
    record { tables = c.tables; told = c.told; all_holds = theorem (requests_of h) c.fit; bounds = bounds (requests_of h) c.fit }
