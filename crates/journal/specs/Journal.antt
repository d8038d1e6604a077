-- Calls as bytes, and what the writer does: docs/journal.md, 'Format' and 'Writing'. Assumes nothing.
use Rattle.std.specs.Prelude.{ℕ, ◌+◌, ◌^◌, Bool, false, cond, List, [], ◌∷◌, ◌++◌, leb, ltb, length, Result, Ok, Err}
use Rattle.prelude.specs.Parts.{put_at}
use Rattle.tables.specs.declared.answer.Errno.{Errno}
use Rattle.tables.specs.declared.answer.Errno.TheVariants.{EINVAL, ERANGE}
use Rattle.calls.specs.declared.Call.{Call}
use Rattle.calls.specs.Calls.{Request}
use Rattle.journal.specs.declared.layout.Lent.{Lent}
use Rattle.journal.specs.declared.layout.Lent.TheVariants.{Nothing, Text, Groups, Buffer}
use Rattle.journal.specs.Numbers.{big_endian, all_big_endian}
use Rattle.journal.specs.Layout.{version, size_bytes, max_size, name_bytes, number_bytes, byte_of, form_of, names_of, numbers_of}

-- what is lent runs to the record's end: a text byte by byte, a list as numbers. Of a buffer only the length stands in
-- the record, among the call's numbers
abbrev pub tail_of : Lent → List ℕ → List ℕ → List ℕ
tail_of Nothing text list = []
tail_of Text text list = text
tail_of Groups text list = all_big_endian number_bytes list
tail_of Buffer text list = []

-- a buffer's length that needs over four bytes
abbrev pub long_buffer : ℕ → Lent → Bool
long_buffer n Nothing = false
long_buffer n Text = false
long_buffer n Groups = false
long_buffer n Buffer = leb (2 ^ 32) n

-- a call with a text, a list and a buffer of n bytes beside it
module _ (c : Call) (text list : List ℕ) (n : ℕ) where
  -- the call byte, the caller and the other arguments
  unfoldable pub body_of : List ℕ
  body_of = byte_of c ∷ (all_big_endian name_bytes (names_of c) ++ all_big_endian number_bytes (numbers_of c n) ++ tail_of (form_of c).lent text list)

  -- and the length of these before them
  unfoldable pub record_of : List ℕ
  record_of = big_endian size_bytes (length body_of) ++ body_of

  -- what the writer answers, with a buffer lent to write to from a place on: 22 for a call whose length field would
  -- pass 65,535 or whose buffer's length needs over four bytes, then 34 for a short buffer, else how many bytes the
  -- record has
  unfoldable pub write_of : List ℕ → ℕ → Result ℕ Errno
  write_of buffer at =
      cond (ltb max_size (length body_of)) (Err EINVAL)
      (cond (long_buffer n (form_of c).lent) (Err EINVAL)
      (cond (ltb (length buffer) (at + length record_of)) (Err ERANGE) (Ok (length record_of))))

  -- what stands in that buffer then: the record, or what was there
  abbrev pub buffer_by : Result ℕ Errno → List ℕ → ℕ → List ℕ
  buffer_by (Ok k) buffer at = put_at buffer at record_of
  buffer_by (Err e) buffer at = buffer

-- ---- a list of calls
abbrev pub request_record : Request → List ℕ
request_record r = record_of r.call r.text r.list (length r.buffer)

unfoldable pub records_of : List Request → List ℕ
records_of [] = []
records_of (r ∷ rs) = request_record r ++ records_of rs

-- the version byte, then the records
abbrev pub journal_of : List Request → List ℕ
journal_of rs = version ∷ records_of rs
