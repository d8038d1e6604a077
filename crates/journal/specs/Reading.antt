-- What reading bytes gives: docs/journal.md, 'Reading'. Assumes nothing.
use Rattle.std.specs.Prelude.{ℕ, zero, suc, ◌+◌, ◌*◌, ◌-◌, ◌/◌, ◌%◌, Bool, false, cond, List, [], ◌∷◌, eqb, leb, ltb, length, get_or, replicate, Option, Some, None, Result, Ok, Err}
use Rattle.prelude.specs.Parts.{part, put_at}
use Rattle.calls.specs.declared.Call.{Call}
use Rattle.calls.specs.Calls.{Request}
use Rattle.journal.specs.declared.layout.Lent.{Lent}
use Rattle.journal.specs.declared.layout.Lent.TheVariants.{Nothing, Text, Groups, Buffer}
use Rattle.journal.specs.declared.read.Stop.{Stop}
use Rattle.journal.specs.declared.read.Stop.TheVariants.{Version, Cut, Short, UnknownCall, Leftover}
use Rattle.journal.specs.declared.read.Stopped.{Stopped}
use Rattle.journal.specs.declared.read.Record.{Record}
use Rattle.journal.specs.Numbers.{number_at, numbers_at}
use Rattle.journal.specs.Layout.{version, size_bytes, name_bytes, number_bytes, template_of, form_of, fixed_bytes, call_by}

-- what stands at an offset: a record, the journal's end, or a stop with the offset where the bad record starts
abbrev pub Read : Type 0
Read = Result (Option Record) Stopped

abbrev pub stop_at : ℕ → Stop → Stopped
stop_at at why = record { at = at; why = why }

abbrev pub stopped_at : ℕ → Stop → Read
stopped_at at why = Err (stop_at at why)

-- ---- a record whether bytes are left after its arguments: after those of a call that has no text and no list any, in
-- a list those that are no whole ID
abbrev pub leftover : Lent → ℕ → Bool
leftover Nothing rest = ltb 0 rest
leftover Text rest = false
leftover Groups rest = ltb 0 (rest % number_bytes)
leftover Buffer rest = ltb 0 rest

-- how many bytes its text has, how many IDs its list, and how long its buffer is
abbrev pub text_bytes : Lent → ℕ → ℕ
text_bytes Nothing rest = 0
text_bytes Text rest = rest
text_bytes Groups rest = 0
text_bytes Buffer rest = 0

abbrev pub id_count : Lent → ℕ → ℕ
id_count Nothing rest = 0
id_count Text rest = 0
id_count Groups rest = rest / number_bytes
id_count Buffer rest = 0

abbrev pub buffer_length : Lent → List ℕ → ℕ
buffer_length Nothing numbers = 0
buffer_length Text numbers = 0
buffer_length Groups numbers = 0
buffer_length Buffer numbers = get_or numbers 0 0

-- the names and the numbers of a call like c; body is what the record has after its length
abbrev pub names_in : Call → List ℕ → List ℕ
names_in c body = numbers_at name_bytes (form_of c).names 1 body

abbrev pub numbers_in : Call → List ℕ → List ℕ
numbers_in c body = numbers_at number_bytes (form_of c).numbers (1 + (form_of c).names * name_bytes) body

abbrev pub rest_of : Call → List ℕ → ℕ
rest_of c body = length body - fixed_bytes (form_of c)

abbrev pub record_in : ℕ → List ℕ → Call → Record
record_in at body c = record {
  call = call_by c (names_in c body) (numbers_in c body);
  tail = at + size_bytes + fixed_bytes (form_of c);
  text = text_bytes (form_of c).lent (rest_of c body);
  ids = id_count (form_of c).lent (rest_of c body);
  buffer = buffer_length (form_of c).lent (numbers_in c body);
  next = at + size_bytes + length body;
}

-- the record at an offset, by the call of its call byte
unfoldable pub record_by : ℕ → List ℕ → Option Call → Read
record_by at body None = stopped_at at UnknownCall
record_by at body (Some c) =
    cond (ltb (length body) (fixed_bytes (form_of c))) (stopped_at at Short)
    (cond (leftover (form_of c).lent (rest_of c body)) (stopped_at at Leftover) (Ok (Some (record_in at body c))))

abbrev pub body_read : ℕ → List ℕ → Read
body_read at body = record_by at body (template_of (get_or body 0 0))

-- the record that starts at an offset of l, if its length and as many bytes as this says are there
unfoldable pub record_at : List ℕ → ℕ → Read
record_at l at =
    cond (leb (length l) at) (Ok None)
    (cond (ltb (length l - at) size_bytes) (stopped_at at Cut)
    (cond (ltb (length l - at - size_bytes) (number_at size_bytes at l)) (stopped_at at Cut)
    (cond (eqb (number_at size_bytes at l) 0) (stopped_at at Short)
    (body_read at (part (number_at size_bytes at l) (at + size_bytes) l)))))

-- what stands at an offset of a journal: at 0 the version byte, with the record after it
unfoldable pub read_at : List ℕ → ℕ → Read
read_at l at = cond (ltb 0 at) (record_at l at) (cond (eqb (length l) 0) (stopped_at 0 Version) (cond (eqb (get_or l 0 0) version) (record_at l 1) (stopped_at 0 Version)))

-- ---- the call of a record, with what is lent beside it: its text is a part of the journal, and its buffer holds zeros
abbrev pub ids_at : List ℕ → Record → List ℕ
ids_at l r = numbers_at number_bytes r.ids r.tail l

abbrev pub request_at : List ℕ → Record → Request
request_at l r = record { call = r.call; text = part r.text r.tail l; list = ids_at l r; buffer = replicate r.buffer 0 }

-- a lent list with the IDs of what was read at its start
abbrev pub list_after : List ℕ → Read → List ℕ → List ℕ
list_after l (Ok (Some r)) list = put_at list 0 (ids_at l r)
list_after l (Ok None) list = list
list_after l (Err s) list = list

-- ---- a whole journal
-- the reading ended well, or stopped: the bad record's offset, and why
pub data Ending : Type 0 where
  ended : Ending
  stopped : ℕ → Stop → Ending

pub record Reading : Type 0 where
  pub calls : List Request
  pub ending : Ending

abbrev pub before : Request → Reading → Reading
before r x = record { calls = r ∷ x.calls; ending = x.ending }

-- what follows what stands at an offset
abbrev pub go_on : List ℕ → Read → (ℕ → Reading) → Reading
go_on l (Ok (Some r)) rest = before (request_at l r) (rest r.next)
go_on l (Ok None) rest = record { calls = []; ending = ended }
go_on l (Err s) rest = record { calls = []; ending = stopped s.at s.why }

-- the calls from an offset on, fewer than n
unfoldable pub read_from : ℕ → List ℕ → ℕ → Reading
read_from zero l at = record { calls = []; ending = ended }
read_from (suc n) l at = go_on l (read_at l at) (λ (next : ℕ). read_from n l next)

-- the calls of a journal. It has fewer records than bytes: `reads_on` and `reads_all` of proofs/Whole.antt
abbrev pub read_journal : List ℕ → Reading
read_journal l = read_from (suc (length l)) l 0
