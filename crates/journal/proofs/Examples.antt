-- The two journals of docs/journal.md, byte by byte: what they are read as, and that what was read is written so.
-- Assumes nothing.
use Prim.Native.Nat.{ℕ}
use mathlib.Core.Path.{◌≡◌, refl}
use mathlib.Core.List.{List, [], ◌∷◌}
use lib.ListN.{replicate}
use Rattle.records.specs.declared.Kind.TheVariants.{User}
use Rattle.credentials.specs.declared.translate.Way.TheVariants.{Out}
use Rattle.calls.specs.declared.Call.TheVariants.{Clone, WriteMap, ReadMap, SetGroups, OwnIdsOf, Translate}
use Rattle.calls.specs.Calls.{Request}
use Rattle.prelude.specs.Parts.{part}
use Rattle.journal.specs.declared.read.Stop.TheVariants.{Leftover}
use Rattle.journal.specs.Numbers.{big_endian, all_big_endian, number_from, number_at}
use Rattle.journal.specs.Layout.{byte_of, form_of, names_of, numbers_of, call_by, template_of, with_byte}
use Rattle.journal.specs.Journal.{body_of, record_of, records_of, journal_of}
use Rattle.journal.specs.Reading.{ended, stopped, record_by, record_at, read_at, read_from, read_journal}

-- the first: a clone, a write of a user map, and its read
abbrev first : List ℕ
first = 1 ∷ 0 ∷ 9 ∷ 0x11 ∷ 0 ∷ 0 ∷ 0 ∷ 0 ∷ 0 ∷ 0 ∷ 0 ∷ 1 ∷ 0 ∷ 0x1b ∷ 0x20 ∷ 0 ∷ 0 ∷ 0 ∷ 0 ∷ 0 ∷ 0 ∷ 0 ∷ 1 ∷ 0 ∷ 0 ∷ 0 ∷ 0 ∷ 0 ∷ 0 ∷ 0 ∷ 2 ∷ 0x30 ∷ 0x20 ∷ 0x31 ∷ 0x30 ∷ 0x30 ∷ 0x30 ∷ 0x30 ∷ 0x20 ∷ 0x35 ∷ 0x0a ∷ 0 ∷ 0x15 ∷ 0x23 ∷ 0 ∷ 0 ∷ 0 ∷ 0 ∷ 0 ∷ 0 ∷ 0 ∷ 1 ∷ 0 ∷ 0 ∷ 0 ∷ 0 ∷ 0 ∷ 0 ∷ 0 ∷ 2 ∷ 0 ∷ 0 ∷ 0 ∷ 0x28 ∷ []

abbrev first_calls : List Request
first_calls = record { call = Clone 1; text = []; list = []; buffer = [] } ∷ record { call = WriteMap User 1 2; text = 0x30 ∷ 0x20 ∷ 0x31 ∷ 0x30 ∷ 0x30 ∷ 0x30 ∷ 0x30 ∷ 0x20 ∷ 0x35 ∷ 0x0a ∷ []; list = []; buffer = [] } ∷ record { call = ReadMap User 1 2; text = []; list = []; buffer = replicate 40 0 } ∷ []

first_read : read_journal first ≡ record { calls = first_calls; ending = ended }
unfolding read_from read_at record_at record_by template_of with_byte byte_of form_of call_by number_at number_from part
first_read = refl

first_written : journal_of first_calls ≡ first
unfolding records_of record_of body_of byte_of form_of names_of numbers_of big_endian all_big_endian
first_written = refl

-- the second: setgroups, getids, a translation, and a fork with a byte too many
abbrev second : List ℕ
second = 1 ∷ 0 ∷ 0x11 ∷ 0x32 ∷ 0 ∷ 0 ∷ 0 ∷ 0 ∷ 0 ∷ 0 ∷ 0 ∷ 1 ∷ 0 ∷ 0 ∷ 0 ∷ 5 ∷ 0 ∷ 1 ∷ 0x11 ∷ 0x70 ∷ 0 ∷ 9 ∷ 0x34 ∷ 0 ∷ 0 ∷ 0 ∷ 0 ∷ 0 ∷ 0 ∷ 0 ∷ 1 ∷ 0 ∷ 0x15 ∷ 0x41 ∷ 0 ∷ 0 ∷ 0 ∷ 0 ∷ 0 ∷ 0 ∷ 0 ∷ 1 ∷ 0 ∷ 0 ∷ 0 ∷ 0 ∷ 0 ∷ 0 ∷ 0 ∷ 0 ∷ 0 ∷ 0 ∷ 0xff ∷ 0xff ∷ 0 ∷ 0x0a ∷ 0x10 ∷ 0 ∷ 0 ∷ 0 ∷ 0 ∷ 0 ∷ 0 ∷ 0 ∷ 1 ∷ 0 ∷ []

abbrev second_calls : List Request
second_calls = record { call = SetGroups 1; text = []; list = 5 ∷ 70000 ∷ []; buffer = [] } ∷ record { call = OwnIdsOf 1; text = []; list = []; buffer = [] } ∷ record { call = Translate User Out 1 0 65535; text = []; list = []; buffer = [] } ∷ []

second_read : read_journal second ≡ record { calls = second_calls; ending = stopped 54 Leftover }
unfolding read_from read_at record_at record_by template_of with_byte byte_of form_of call_by number_at number_from part
second_read = refl
