-- Records of a journal as numbers, for programs in other languages: docs/journal.md has the format. Assumes nothing.
use Rattle.std.specs.Prelude.{ℕ, List, Option, Some, None, Result, Ok, Err}
use Rattle.tables.specs.declared.answer.Errno.{Errno}
use Rattle.tables.specs.declared.answer.Errno.TheVariants.{EINVAL}
use Rattle.tables.specs.Reply.{number_of}
use Rattle.calls.specs.declared.Call.{Call}
use Rattle.journal.specs.Layout.{call_by}
use Rattle.journal.specs.Journal.{write_of, buffer_by}
use Rattle.exports.specs.Codes.{negated}

-- ---- writing
-- the number of what the writer answers: the bytes of the record, or a refusal negated
abbrev pub written_code : Result ℕ Errno → ℕ
written_code (Ok n) = n
written_code (Err e) = negated (number_of e)

-- what is answered for the call of a call byte's template, with its names and its other numbers in order: as the writer
-- does for that call, and 22 where no call has the byte
abbrev pub write_by : Option Call → List ℕ → List ℕ → List ℕ → List ℕ → ℕ → List ℕ → ℕ → Result ℕ Errno
write_by None names numbers text list n buffer at = Err EINVAL
write_by (Some d) names numbers text list n buffer at = write_of (call_by d names numbers) text list n buffer at

-- and what stands in the buffer then: the record, or what was there
abbrev pub buffer_after : Option Call → List ℕ → List ℕ → List ℕ → List ℕ → ℕ → List ℕ → ℕ → List ℕ
buffer_after None names numbers text list n buffer at = buffer
buffer_after (Some d) names numbers text list n buffer at =
    buffer_by (call_by d names numbers) text list n (write_of (call_by d names numbers) text list n buffer at) buffer at
