-- The call of one record: docs/journal.md, 'Reading'. Assumes nothing.
use Rattle.std.specs.Prelude.{ℕ, ◌+◌, ◌*◌, ◌≤◌, ◌≡◌, List, ◌++◌, length, take, drop, Some, None, Ok, Err, Option, Result}
use Rattle.prelude.specs.Parts.{part}
use Rattle.idmap.specs.Good.{max_lines}
use Rattle.idmap.specs.Show.{line_bytes}
use Rattle.records.specs.declared.Kind.{Kind}
use Rattle.records.specs.Records.{map_in, lines_of}
use Rattle.tables.specs.Tables.{State, namespace_at}
use Rattle.tables.specs.Reply.{done, bytes}
use Rattle.hierarchy.specs.KernelStarts.{quick}
use Rattle.calls.specs.Calls.{Step, answer_by, answer_of}
use Rattle.tables.specs.declared.answer.Errno.{Errno}
use Rattle.tables.specs.declared.answer.Answer.TheVariants.{Done}
use Rattle.calls.specs.declared.Response.{Response}
use Rattle.calls.specs.declared.Response.TheVariants.{Plain}
use Rattle.journal.specs.declared.read.Record.{Record}
use Rattle.journal.specs.declared.read.Stopped.{Stopped}
use Rattle.replay_step.specs.declared.Replayed.{Replayed}
use Rattle.journal.specs.declared.layout.Lent.TheVariants.{Buffer}
use Rattle.journal.specs.Layout.{form_of}
use Rattle.journal.specs.Reading.{Read, ids_at, request_at}

-- the longest text of a read: the lines of a full map
abbrev pub max_read : ℕ
max_read = max_lines * line_bytes

-- ---- the call of a record, in a journal l a read is lent the first bytes of the buffer, as many as its own had and no
-- more than there are; those behind them stay
abbrev pub behind : Step → List ℕ → Step
behind o rest = record { reply = o.reply; tables = o.tables; buffer = o.buffer ++ rest }

abbrev pub call_of : State → Record → List ℕ → List ℕ → List ℕ → Step
call_of s r l list buffer =
    behind (quick answer_by s r.call (part r.text r.tail l) list (take r.buffer buffer)) (drop r.buffer buffer)

-- with the list that the record has
unfoldable pub replay_of : State → List ℕ → Read → List ℕ → Step
replay_of s l (Ok (Some r)) buffer = call_of s r l (ids_at l r) buffer
replay_of s l (Ok None) buffer = record { reply = done; tables = s; buffer = buffer }
replay_of s l (Err stop) buffer = record { reply = done; tables = s; buffer = buffer }

-- ---- what the step tells: what stands at the offset, and what its call was answered, which is `done` where there is none
abbrev pub read_in : Result (Option Replayed) Stopped → Read
read_in (Ok (Some x)) = Ok (Some x.record)
read_in (Ok None) = Ok None
read_in (Err stop) = Err stop

abbrev pub answer_in : Result (Option Replayed) Stopped → Result Response Errno
answer_in (Ok (Some x)) = x.answer
answer_in (Ok None) = Ok (Plain Done)
answer_in (Err stop) = Ok (Plain Done)

-- where there is no call, every word of the lent array is as it was
abbrev pub Unchanged : Read → List ℕ → List ℕ → Type 0
Unchanged (Ok (Some r)) entry exit = Unit {0}
Unchanged (Ok None) entry exit = exit ≡ entry
Unchanged (Err s) entry exit = exit ≡ entry

-- ---- a buffer of the longest text serves for any longer one
-- no map has more lines than are allowed: so it is after every list of calls
abbrev pub FewLines : State → Type 0
FewLines s = (k : Kind) (n : ℕ) → length (lines_of (map_in k (namespace_at s n))) ≤ max_lines

-- a call is answered as with the whole buffer that its record says: no text is longer than max_read, so it fits the one
-- exactly where it fits the other. `same_answer` of proofs/Longest.antt proves it of every lent buffer of max_read bytes
pub record SameAnswer (s : State) (l : List ℕ) (r : Record) (buffer : List ℕ) : Type 0 where
  pub reply : (replay_of s l (Ok (Some r)) buffer).reply ≡ (quick answer_of s (request_at l r)).reply
  pub tables : (replay_of s l (Ok (Some r)) buffer).tables ≡ (quick answer_of s (request_at l r)).tables
  -- and the bytes that a read gives are the same
  pub text : (form_of r.call).lent ≡ Buffer → (n : ℕ) → (replay_of s l (Ok (Some r)) buffer).reply ≡ bytes n
      → take n (replay_of s l (Ok (Some r)) buffer).buffer ≡ take n (quick answer_of s (request_at l r)).buffer

-- ---- not to be believed, only proved: what the code makes the call with
abbrev pub Inside : Record → List ℕ → List ℕ → Type 0
Inside r l list = (r.tail + r.text ≤ length l) × (r.ids ≤ length list)

abbrev pub made_of : State → Record → List ℕ → List ℕ → List ℕ → Step
made_of s r l list buffer = call_of s r l (take r.ids list) buffer
