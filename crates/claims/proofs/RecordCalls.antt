-- The call of a record is a call as any other: its numbers fit, and it is answered as with its whole buffer. Assumes
-- nothing.
use Rattle.std.specs.Prelude.{Option, Some, None}
use Prim.Native.Nat.{ℕ, zero, suc, ◌+◌, ◌*◌, ◌≤◌}
use mathlib.Core.Path.{◌≡◌, refl, ap, ◌∙◌}
use mathlib.Core.List.{List}
use native.Mathlib.Omega.{arith}
use lib.ListN.{length}
use Rattle.std.specs.Prelude.{Some, None, Ok, Err}
use Rattle.prelude.specs.Lists.{tab}
use Rattle.idmap.specs.Good.{max_lines}
use Rattle.records.specs.declared.MapState.{MapState}
use Rattle.records.specs.declared.MapState.TheVariants.{Unwritten, Written}
use Rattle.records.specs.declared.IdMap.{IdMap}
use Rattle.records.specs.Records.{map_in, lines_of}
use Rattle.tables.specs.Tables.{State, tables_of, namespace_at}
use Rattle.hierarchy.specs.KernelStarts.{by_kernel_starts}
use Rattle.calls.specs.declared.Call.{Call}
use Rattle.calls.specs.declared.Call.TheVariants.{Fork, Clone, Unshare, Setns, WriteMap, WriteSetgroups, ReadMap, ReadSetgroups, SetIds, SetGroups, Capable, Drop, OwnIdsOf, Translate}
use Rattle.calls.specs.Calls.{Request, Step}
use Rattle.journal.specs.Numbers.{number_at}
use Rattle.journal.specs.Layout.{form_of, call_by}
use Rattle.journal.specs.declared.read.Record.{Record}
use Rattle.journal.specs.Reading.{Read, Reading, names_in, numbers_in, read_at, request_at, go_on, read_from}
use Rattle.journal.proofs.BigEndian.{id_below}
use Rattle.journal.proofs.Inside.{found_from, found_at}
use Rattle.replay_step.specs.Replay.{max_read, replay_of, FewLines, SameAnswer}
use Rattle.replay_step.proofs.Longest.{same_answer}
use Rattle.claims.specs.Translation.{by_levels}
use Rattle.claims.specs.History.{step_of, run, AllSmall, CallFits, Fits, AllFit}
use Rattle.claims.specs.Bounds.{Bounds}
use Rattle.claims.proofs.Bounds.{bounds}
use Rattle.claims.proofs.AsDocument.{as_document}

-- ---- the widths of the fields give what is asked of a call's numbers
call_fits : (c : Call) (body : List ℕ) → CallFits (call_by c (names_in c body) (numbers_in c body))
unfolding call_by form_of
call_fits (Fork c) body = tt
call_fits (Clone c) body = tt
call_fits (Unshare c) body = tt
call_fits (Setns c n) body = tt
call_fits (WriteMap k c p) body = tt
call_fits (WriteSetgroups c p) body = tt
call_fits (ReadMap k c p) body = tt
call_fits (ReadSetgroups c p) body = tt
call_fits (SetIds k c i) body = (id_below 9 body, id_below 13 body, id_below 17 body)
call_fits (SetGroups c) body = tt
call_fits (Capable c n number) body = tt
call_fits (Drop c p e) body = tt
call_fits (OwnIdsOf c) body = tt
call_fits (Translate k w c n x) body = id_below 17 body

ids_small : (l : List ℕ) (at n i : ℕ) → AllSmall (tab (λ (j : ℕ). number_at 4 (at + 4 * j) l) n i)
unfolding AllSmall
ids_small l at zero i = tt
ids_small l at (suc n) i = (id_below (at + 4 * i) l, ids_small l at n (suc i))

pub read_fits : (l : List ℕ) (at : ℕ) (r : Record) → read_at l at ≡ Ok (Some r) → Fits (request_at l r)
read_fits l at r e =
    let f = found_from l at r e in
    let b = (found_at l f.0 r f.3).in_body in
    let call : CallFits r.call = rw (← b.is) (call_fits b.template _) in
    (call, ids_small l r.tail r.ids 0)

on_fits : (l : List ℕ) (at : ℕ) (x : Read) → read_at l at ≡ x → (rest : ℕ → Reading) → ((next : ℕ) → AllFit (rest next).calls) → AllFit (go_on l x rest).calls
unfolding AllFit
on_fits l at (Ok (Some r)) e rest h = (read_fits l at r e, h r.next)
on_fits l at (Ok None) e rest h = tt
on_fits l at (Err s) e rest h = tt

pub from_fits : (n : ℕ) (l : List ℕ) (at : ℕ) → AllFit (read_from n l at).calls
unfolding read_from AllFit
from_fits zero l at = tt
from_fits (suc n) l at = on_fits l at (read_at l at) refl (λ (next : ℕ). read_from n l next) (λ next. from_fits n l next)

-- ---- the maps that calls leave have few lines
few_by : (x : MapState) (m : IdMap) → m.state ≡ x → ((c : ℕ) → m.state ≡ Written c → (1 ≤ c) × (c ≤ max_lines) × (length (lines_of m) ≡ c)) → length (lines_of m) ≤ max_lines
few_by Unwritten m e h = rw e (omega arith)
few_by (Written c) m e h = let k = h c e in omega (arith, k)

few_lines : (rs : List Request) → Bounds rs → FewLines (run rs)
few_lines rs b k n = let m = map_in k (namespace_at (run rs) n) in few_by m.state m refl (λ c e. b.line_counts k n c e)

-- ---- the step that replays it, on an array a that calls have left
module _ (l a lent : List ℕ) (at : ℕ) (rs : List Request) (r : Record) (are : tables_of a ≡ run rs) (fit : AllFit rs) (found : read_at l at ≡ Ok (Some r))
    (full : length lent ≡ max_read) where
  abbrev q : Request
  q = request_at l r

  same : SameAnswer (tables_of a) l r lent
  same = same_answer (tables_of a) l (rw are (few_lines rs (bounds rs fit))) lent full r

  document : step_of by_kernel_starts (tables_of a) q ≡ step_of by_levels (run rs) q
  document = ap (λ (s : State). step_of by_kernel_starts s q) are ∙ (as_document rs fit).step q

  here : replay_of (tables_of a) l (read_at l at) lent ≡ replay_of (tables_of a) l (Ok (Some r)) lent
  here = ap (λ (x : Read). replay_of (tables_of a) l x lent) found

  -- its reply and its tables are those of the request
  pub reply_replayed : (replay_of (tables_of a) l (read_at l at) lent).reply ≡ (step_of by_kernel_starts (tables_of a) q).reply
  reply_replayed = ap (λ (s : Step). s.reply) here ∙ same.reply

  pub tables_replayed : (replay_of (tables_of a) l (read_at l at) lent).tables ≡ (step_of by_kernel_starts (tables_of a) q).tables
  tables_replayed = ap (λ (s : Step). s.tables) here ∙ same.tables

  -- and document 01's
  pub reply_document : (replay_of (tables_of a) l (read_at l at) lent).reply ≡ (step_of by_levels (run rs) q).reply
  reply_document = reply_replayed ∙ ap (λ (s : Step). s.reply) document

  pub tables_document : (replay_of (tables_of a) l (read_at l at) lent).tables ≡ (step_of by_levels (run rs) q).tables
  tables_document = tables_replayed ∙ ap (λ (s : Step). s.tables) document
