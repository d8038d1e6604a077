-- Lists of calls: the run, its history, and the events of a history. Document 01, 'Lists of calls'. Assumes nothing.
use Rattle.std.specs.Prelude.{ℕ, ◌<◌, ◌^◌, List, [], ◌∷◌, map}
use Rattle.tables.specs.Tables.{State, initial_tables}
use Rattle.tables.specs.Reply.{Reply, refused, done, child, child_in, new_namespace, yes', no', bytes, ids, id, unmapped}
use Rattle.hierarchy.specs.Walks.{Translation}
use Rattle.calls.specs.declared.Call.{Call}
use Rattle.calls.specs.declared.Call.TheVariants.{Fork, Clone, Unshare, Setns, WriteMap, WriteSetgroups, ReadMap, ReadSetgroups, SetIds, SetGroups, Capable, Drop, OwnIdsOf, Translate}
use Rattle.calls.specs.Calls.{Request, Step, answer_of}
use Rattle.claims.specs.Translation.{by_levels}
use Rattle.claims.specs.Events.{Event, other, forked, cloned, unshared, joined, mapped, changed, grouped}

-- ---- the run
-- a call with what was answered, and the buffer that it left
pub record Entry : Type 0 where
  pub request : Request
  pub reply : Reply
  pub buffer : List ℕ

abbrev pub entry_of : Request → Step → Entry
entry_of r o = record { request = r; reply = o.reply; buffer = o.buffer }

-- by: how IDs are translated, at each state of the tables
module _ (by : State → Translation) where
  -- what a call answers on tables s, and what it leaves
  abbrev pub step_of : State → Request → Step
  step_of s r = answer_of (by s) s r

  -- the first call gets the tables given, each other one those that the call before it left, refused or not
  unfoldable pub run_from : State → List Request → State
  run_from s [] = s
  run_from s (r ∷ rs) = run_from (step_of s r).tables rs

  -- the calls with their answers, newest first, after those that were there
  unfoldable pub history_from : State → List Entry → List Request → List Entry
  history_from s h [] = h
  history_from s h (r ∷ rs) = history_from (step_of s r).tables (entry_of r (step_of s r) ∷ h) rs

-- the tables after a list of calls from the fresh start, and the list's history, with document 01's translation. That
-- what a host does with the code has these tables and this history is `executes` of proofs/Executes.antt
abbrev pub run : List Request → State
run rs = run_from by_levels initial_tables rs

abbrev pub history : List Request → List Entry
history rs = history_from by_levels initial_tables [] rs

-- ---- the numbers of a call fit the types of the interface: its IDs are 32-bit, as document 01 says
unfoldable pub AllSmall : List ℕ → Type 0
AllSmall [] = Unit {0}
AllSmall (x ∷ l) = (x < 2 ^ 32) × AllSmall l

abbrev pub CallFits : Call → Type 0
CallFits (Fork c) = Unit {0}
CallFits (Clone c) = Unit {0}
CallFits (Unshare c) = Unit {0}
CallFits (Setns c n) = Unit {0}
CallFits (WriteMap k c p) = Unit {0}
CallFits (WriteSetgroups c p) = Unit {0}
CallFits (ReadMap k c p) = Unit {0}
CallFits (ReadSetgroups c p) = Unit {0}
CallFits (SetIds k c i) = (i.real < 2 ^ 32) × (i.effective < 2 ^ 32) × (i.saved < 2 ^ 32)
CallFits (SetGroups c) = Unit {0}
CallFits (Capable c n number) = Unit {0}
CallFits (Drop c p e) = Unit {0}
CallFits (OwnIdsOf c) = Unit {0}
CallFits (Translate k w c n x) = x < 2 ^ 32

abbrev pub Fits : Request → Type 0
Fits r = CallFits r.call × AllSmall r.list

unfoldable pub AllFit : List Request → Type 0
AllFit [] = Unit {0}
AllFit (r ∷ rs) = Fits r × AllFit rs

-- ---- events
-- what follows from an answer, by what is to follow from "done", a child, a child in a new namespace, and a new
-- namespace; from any other answer nothing follows
abbrev pub by_reply : Event → (ℕ → Event) → (ℕ → ℕ → Event) → (ℕ → Event) → Reply → Event
by_reply d f g n done = d
by_reply d f g n (child q) = f q
by_reply d f g n (child_in q m) = g q m
by_reply d f g n (new_namespace m) = n m
by_reply d f g n (refused e) = other
by_reply d f g n yes' = other
by_reply d f g n no' = other
by_reply d f g n (bytes l) = other
by_reply d f g n (ids l) = other
by_reply d f g n (id x) = other
by_reply d f g n unmapped = other

abbrev pub on_done : Event → Reply → Event
on_done e r = by_reply e (λ q. other) (λ q m. other) (λ m. other) r

-- what a call and its answer say
abbrev pub happened_by : Call → List ℕ → List ℕ → Reply → Event
happened_by (Fork c) text list r = by_reply other (forked c) (λ q m. other) (λ m. other) r
happened_by (Clone c) text list r = by_reply other (λ q. other) (cloned c) (λ m. other) r
happened_by (Unshare c) text list r = by_reply other (λ q. other) (λ q m. other) (unshared c) r
happened_by (Setns c n) text list r = on_done (joined c n) r
happened_by (WriteMap k c p) text list r = on_done (mapped k p text) r
happened_by (WriteSetgroups c p) text list r = other
happened_by (ReadMap k c p) text list r = other
happened_by (ReadSetgroups c p) text list r = other
happened_by (SetIds k c i) text list r = on_done (changed k c i) r
happened_by (SetGroups c) text list r = on_done (grouped c list) r
happened_by (Capable c n number) text list r = other
happened_by (Drop c p e) text list r = other
happened_by (OwnIdsOf c) text list r = other
happened_by (Translate k w c n x) text list r = other

abbrev pub happened : Entry → Event
happened e = happened_by e.request.call e.request.text e.request.list e.reply

abbrev pub events : List Entry → List Event
events h = map happened h
