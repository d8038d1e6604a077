-- What a host has and sees that keeps its tables by this code alone, call after call, through the entry point, through
-- exported functions or by replaying journals: document 01's run of these calls. `executes` of proofs/Executes.antt
-- proves it. Assumes nothing.
use Rattle.std.specs.Prelude.{ℕ, ◌-◌, ◌≡◌, true, cond, List, [], ◌∷◌, ◌++◌, length, replicate, Some, Ok, Result}
use Rattle.prelude.specs.Parts.{put_at}
use Rattle.tables.specs.Tables.{tables_of, initial_tables}
use Rattle.tables.specs.Reply.{Reply, Outcome, is_refused}
use Rattle.hierarchy.specs.KernelStarts.{by_kernel_starts, quick}
use Rattle.process.specs.Calls.{fork_of, clone_of, unshare_of, setns_of}
use Rattle.mapping.specs.Calls.{ReadOutcome, write_map_of, write_setgroups_of, read_map_of, read_setgroups_of}
use Rattle.tables.specs.declared.answer.Errno.{Errno}
use Rattle.credentials.specs.declared.own.OwnIds.{OwnIds}
use Rattle.credentials.specs.Calls.{set_ids_of, set_groups_of, capable_reply, drop_of, own_ids_of, translate_reply}
use Rattle.calls.specs.declared.Response.{Response}
use Rattle.calls.specs.declared.Call.{Call}
use Rattle.calls.specs.declared.Call.TheVariants.{Fork, Clone, Unshare, Setns, WriteMap, WriteSetgroups, ReadMap, ReadSetgroups, SetIds, SetGroups, Capable, Drop, OwnIdsOf, Translate}
use Rattle.calls.specs.Calls.{Request, Step, call_reply, listed_in, CallPromise}
use Rattle.journal.specs.declared.read.Record.{Record}
use Rattle.journal.specs.Reading.{read_at, request_at}
use Rattle.replay_step.specs.Replay.{max_read, replay_of}
use Rattle.exports.specs.Codes.{code_of, Coded, CodedRead, own_width, CodedIds}
use Rattle.exports.specs.Replay.{step_at, CodedStep}
use Rattle.claims.specs.History.{Entry, step_of, run, history, Fits}
use Rattle.claims.specs.Holds.{Holds}
use Rattle.claims.specs.Bounds.{Bounds}

-- ---- the exported functions
-- what the exported function of a call promises. It answers the number code; the array was entry and is exit, the
-- buffer was before and is after
module _ (code : ℕ) (entry exit before after : List ℕ) where
  -- one that may store, and is lent no buffer
  abbrev pub Stores : Outcome → Type 0
  Stores o = Coded code entry exit o × (after ≡ before)

  -- a read, which is lent the array to read only
  abbrev pub Reads : ReadOutcome → Type 0
  Reads o = CodedRead code after o × (exit ≡ entry)

  -- a question, which is lent no buffer, and the array to read only
  abbrev pub Asks : Reply → Type 0
  Asks r = (code ≡ code_of r) × (exit ≡ entry) × (after ≡ before)

  -- the own-ID question, which puts the IDs into words that are lent to it
  abbrev pub Tells : Result OwnIds Errno → Type 0
  Tells own = ((words words' : List ℕ) × CodedIds code words words' own) × (exit ≡ entry) × (after ≡ before)

  abbrev pub ExportPromise : Call → List ℕ → List ℕ → Type 0
  ExportPromise (Fork c) text list = Stores (fork_of (tables_of entry) c)
  ExportPromise (Clone c) text list = Stores (quick clone_of (tables_of entry) c)
  ExportPromise (Unshare c) text list = Stores (quick unshare_of (tables_of entry) c)
  ExportPromise (Setns c n) text list = Stores (setns_of (tables_of entry) c n)
  ExportPromise (WriteMap k c p) text list = Stores (quick write_map_of (tables_of entry) k c p text)
  ExportPromise (WriteSetgroups c p) text list = Stores (write_setgroups_of (tables_of entry) c p text)
  ExportPromise (ReadMap k c p) text list = Reads (quick read_map_of (tables_of entry) k c p before)
  ExportPromise (ReadSetgroups c p) text list = Reads (read_setgroups_of (tables_of entry) c p before)
  ExportPromise (SetIds k c i) text list = Stores (quick set_ids_of (tables_of entry) k c i.real i.effective i.saved)
  ExportPromise (SetGroups c) text list = Stores (quick set_groups_of (tables_of entry) c list)
  ExportPromise (Capable c n number) text list = Asks (capable_reply (tables_of entry) c n number)
  ExportPromise (Drop c p e) text list = Stores (drop_of (tables_of entry) c p e)
  ExportPromise (OwnIdsOf c) text list = Tells (quick own_ids_of (tables_of entry) c)
  ExportPromise (Translate k w c n x) text list = Asks (quick translate_reply (tables_of entry) k w c n x)

-- a step whose answer is seen as its number. `exported_step` of proofs/Exported.antt: every exported function promises
-- one
pub record Numbered (code : ℕ) (entry exit after : List ℕ) (step : Step) : Type 0 where
  pub answer : code ≡ code_of step.reply
  pub tables : tables_of exit ≡ step.tables
  pub buffer : after ≡ step.buffer
  pub kept : is_refused step.reply ≡ true → exit ≡ entry

-- what the own-ID question leaves in the words that are lent to it: the IDs of its reply in order and 0 past them, or
-- what was there where it refuses. `exported_words` of proofs/Exported.antt: the exported function promises it
abbrev pub words_after : Reply → List ℕ → List ℕ
words_after r words = cond (is_refused r) words (put_at words 0 (listed_in r ++ replicate (own_width - length (listed_in r)) 0))

-- ---- executions
-- an array, and the calls that led to it with their answers, newest first
pub data Execution : List ℕ → List Entry → Type 0 where
  -- the first array is one that `tables::initial::initial` leaves
  started : {a : List ℕ} → tables_of a ≡ initial_tables → Execution a []
  -- a call through the entry point, `calls::answer`, with what it promises. Its IDs have the interface's types
  answered : {a b after : List ℕ} {h : List Entry} {r : Request} {response : Result Response Errno} → Execution a h → Fits r
      → CallPromise response a b after (step_of by_kernel_starts (tables_of a) r)
      → Execution b (record { request = r; reply = call_reply response; buffer = after } ∷ h)
  -- a call through an exported function, with what it promises. The number that it answers is that of this reply
  -- (`Numbered`)
  exported : {a b after : List ℕ} {h : List Entry} {r : Request} → Execution a h → Fits r → (code : ℕ)
      → ExportPromise code a b r.buffer after r.call r.text r.list
      → Execution b (record { request = r; reply = (step_of by_kernel_starts (tables_of a) r).reply; buffer = after } ∷ h)
  -- the call of a record of a journal l, through `replay_step::step`, with what it promises of the buffer lent to it.
  -- The entry has the buffer that the record says, of which the bytes read are the lent one's (`SameAnswer`)
  replayed : {a b after : List ℕ} {h : List Entry} {r : Record} {response : Result Response Errno} → Execution a h → (l lent : List ℕ) (at : ℕ)
      → read_at l at ≡ Ok (Some r) → length lent ≡ max_read → CallPromise response a b after (replay_of (tables_of a) l (read_at l at) lent)
      → Execution b (record {
        request = request_at l r;
        reply = call_reply response;
        buffer = (step_of by_kernel_starts (tables_of a) (request_at l r)).buffer;
      } ∷ h)
  -- the same through `oarhatchet_replay`, whose number is that of this reply
  replayed_export : {a b after : List ℕ} {h : List Entry} {r : Record} → Execution a h → (l lent : List ℕ) (at code : ℕ)
      → read_at l at ≡ Ok (Some r) → length lent ≡ max_read → CodedStep code a b after (step_at a l at lent)
      → Execution b (record {
        request = request_at l r;
        reply = (step_at a l at lent).reply;
        buffer = (step_of by_kernel_starts (tables_of a) (request_at l r)).buffer;
      } ∷ h)

-- the calls of an execution, oldest first
unfoldable pub requests_of : List Entry → List Request
requests_of [] = []
requests_of (e ∷ h) = requests_of h ++ (e.request ∷ [])

pub record Executed (a : List ℕ) (h : List Entry) : Type 0 where
  -- the array holds the tables of document 01's run of these calls, and their answers and buffers are that run's
  pub tables : tables_of a ≡ run (requests_of h)
  pub told : h ≡ history (requests_of h)
  -- so all that holds after a list of calls holds of it
  pub all_holds : Holds (requests_of h)
  pub bounds : Bounds (requests_of h)
