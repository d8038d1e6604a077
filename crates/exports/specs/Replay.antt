-- What stands at an offset of a journal, and what its call comes to, as numbers. Assumes nothing.
use Rattle.std.specs.Prelude.{ℕ, ◌≡◌, true, List, [], ◌∷◌, ◌++◌, get_or, Some, None, Ok, Err, Result}
use Rattle.prelude.specs.Parts.{put_at}
use Rattle.prelude.specs.Lists.{tab}
use Rattle.tables.specs.Tables.{tables_of}
use Rattle.tables.specs.Reply.{Reply, refused, done, child, child_in, new_namespace, yes', no', bytes, id, unmapped, ids, number_of, answered, is_refused}
use Rattle.tables.specs.declared.answer.Errno.{Errno}
use Rattle.calls.specs.declared.Response.{Response}
use Rattle.calls.specs.declared.Response.TheVariants.{Plain, Own}
use Rattle.calls.specs.Calls.{Step}
use Rattle.journal.specs.declared.read.Stop.{Stop}
use Rattle.journal.specs.declared.read.Stop.TheVariants.{Version, Cut, Short, UnknownCall, Leftover}
use Rattle.journal.specs.declared.read.Record.{Record}
use Rattle.journal.specs.Layout.{byte_of, names_of, numbers_of, first_three}
use Rattle.journal.specs.Reading.{Read, read_at}
use Rattle.replay_step.specs.Replay.{replay_of}
use Rattle.exports.specs.Codes.{negated, code_of, ids_row, own_width}

-- ---- what stands at an offset, in twelve words
-- why the reading stops
abbrev pub stop_number : Stop → ℕ
stop_number Version = 1
stop_number Cut = 2
stop_number Short = 3
stop_number UnknownCall = 4
stop_number Leftover = 5

-- a call: its call byte, its names and its other numbers; where these end and its text or list starts, the bytes of the
-- one and the IDs of the other; where the next record starts, and the namespace that the call made
abbrev pub found_words : Record → ℕ → List ℕ
found_words r namespace =
    byte_of r.call ∷ (first_three (names_of r.call) ++ first_three (numbers_of r.call r.buffer)
    ++ (r.tail ∷ r.text ∷ r.ids ∷ r.next ∷ namespace ∷ []))

-- no call: what there is, and its offset
abbrev pub plain_words : ℕ → ℕ → List ℕ
plain_words what offset = what ∷ 0 ∷ 0 ∷ 0 ∷ 0 ∷ 0 ∷ 0 ∷ 0 ∷ 0 ∷ 0 ∷ offset ∷ 0 ∷ []

-- the journal's end is 0, with the offset asked for, and a stop its reason, with the offset of the bad record
abbrev pub read_words : Read → ℕ → ℕ → List ℕ
read_words (Ok (Some r)) at namespace = found_words r namespace
read_words (Ok None) at namespace = plain_words 0 at
read_words (Err s) at namespace = plain_words (stop_number s.why) s.at

-- ---- what its call comes to
-- the step at an offset of a journal: `done`, and nothing changed, where there is no call
abbrev pub step_at : List ℕ → List ℕ → ℕ → List ℕ → Step
step_at words journal at buffer = replay_of (tables_of words) journal (read_at journal at) buffer

-- what the exported step promises: the number of its answer, the tables, the buffer, and that a refusal leaves every
-- word of the tables as it was
pub record CodedStep (code : ℕ) (entry exit after : List ℕ) (o : Step) : Type 0 where
  pub answer : code ≡ code_of o.reply
  pub tables : tables_of exit ≡ o.tables
  pub buffer : after ≡ o.buffer
  pub kept : is_refused o.reply ≡ true → exit ≡ entry

-- ---- own IDs
-- a lent array with the IDs that an answer lists at its start, in order, and 0 past the last: other answers leave it
abbrev pub ids_after : Reply → List ℕ → List ℕ
ids_after (ids l) words = put_at words 0 (tab (λ (j : ℕ). get_or l j 0) own_width 0)
ids_after (refused e) words = words
ids_after done words = words
ids_after (child p) words = words
ids_after (child_in p n) words = words
ids_after (new_namespace n) words = words
ids_after yes' words = words
ids_after no' words = words
ids_after (bytes n) words = words
ids_after (id x) words = words
ids_after unmapped words = words

-- ---- not to be believed, only proved: the number and the words of a response
abbrev pub response_code : Result Response Errno → ℕ
response_code (Ok (Plain a)) = code_of (answered a)
response_code (Ok (Own o)) = o.supplementary.count
response_code (Err e) = negated (number_of e)

abbrev pub response_ids : Result Response Errno → List ℕ → List ℕ
response_ids (Ok (Plain a)) words = words
response_ids (Ok (Own o)) words = put_at words 0 (ids_row o)
response_ids (Err e) words = words
