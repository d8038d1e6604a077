-- Journals that are replayed: demand 3 covers their calls as any others. `replayed` and `replays` of
-- proofs/Replayed.antt prove it. Assumes nothing.
use Rattle.std.specs.Prelude.{ℕ, ◌≡◌, List, [], ◌∷◌, ◌++◌, map, length, Some, Ok, Result}
use Rattle.tables.specs.Tables.{tables_of, initial_tables}
use Rattle.tables.specs.Reply.{Reply}
use Rattle.tables.specs.declared.answer.Errno.{Errno}
use Rattle.calls.specs.declared.Response.{Response}
use Rattle.calls.specs.Calls.{Request, call_reply, CallPromise}
use Rattle.journal.specs.declared.read.Record.{Record}
use Rattle.journal.specs.Reading.{read_at, request_at, read_journal}
use Rattle.replay_step.specs.Replay.{max_read, replay_of}
use Rattle.claims.specs.History.{Entry, run, history}
use Rattle.claims.specs.Holds.{Holds}
use Rattle.claims.specs.Bounds.{Bounds}

-- ---- what holds after the calls of any bytes, whatever they are
pub record Replayed (l : List ℕ) : Type 0 where
  pub all_holds : Holds (read_journal l).calls
  pub bounds : Bounds (read_journal l).calls

-- ---- a loop over `replay_step::step` the array and the offset that it has come to in the journal l, the calls made,
-- oldest first, and their answers, newest first
pub data Replay (l : List ℕ) : List ℕ → ℕ → List Request → List Reply → Type 0 where
  -- the first array is one that `tables::initial::initial` leaves, and the first offset is 0
  began : {a : List ℕ} → tables_of a ≡ initial_tables → Replay l a 0 [] []
  -- a step that found a record, with what it promises of the buffer lent to it; the next offset is that of the next
  -- record
  stepped : {a b after : List ℕ} {at : ℕ} {rs : List Request} {replies : List Reply} {r : Record} {response : Result Response Errno} → Replay l a at rs replies
      → read_at l at ≡ Ok (Some r) → (lent : List ℕ) → length lent ≡ max_read → CallPromise response a b after (replay_of (tables_of a) l (read_at l at) lent)
      → Replay l b r.next (rs ++ (request_at l r ∷ [])) (call_reply response ∷ replies)

pub record IsRun (l a : List ℕ) (at : ℕ) (rs : List Request) (replies : List Reply) : Type 0 where
  -- the array holds the tables of document 01's run of these calls, and their answers are that run's
  pub tables : tables_of a ≡ run rs
  pub told : replies ≡ map (λ (e : Entry). e.reply) (history rs)
  -- where no record is found any more, these are the calls that the journal is read as
  pub whole : ((r : Record) → read_at l at ≡ Ok (Some r) → ⊥) → rs ≡ (read_journal l).calls
  -- so all that holds after a list of calls holds of them
  pub all_holds : Holds rs
