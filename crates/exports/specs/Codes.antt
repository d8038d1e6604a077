-- Answers as numbers, for programs in other languages. Assumes nothing.
use Rattle.std.specs.Prelude.{ℕ, ◌+◌, ◌-◌, ◌^◌, ◌≡◌, true, List, ◌∷◌, length, get_or, Result, Ok, Err}
use Rattle.prelude.specs.Parts.{put_at}
use Rattle.prelude.specs.Lists.{tab}
use Rattle.idmap.specs.Good.{no_id}
use Rattle.records.specs.Records.{max_groups}
use Rattle.tables.specs.Tables.{tables_of}
use Rattle.tables.specs.Reply.{Reply, refused, done, child, child_in, new_namespace, yes', no', bytes, id, unmapped, ids, number_of, Outcome, is_refused}
use Rattle.mapping.specs.Calls.{ReadOutcome}
use Rattle.credentials.specs.declared.own.OwnIds.{OwnIds}
use Rattle.tables.specs.declared.answer.Errno.{Errno}

-- a refusal's number, negated, as a signed 64-bit number has it
abbrev pub negated : ℕ → ℕ
negated e = 2 ^ 64 - e

-- a process's own three user IDs and three group IDs
abbrev pub own_threes : ℕ
own_threes = 6

-- the number of an answer: a refusal is negated, as the kernel's own calls have it; unmapped is 4,294,967,295, which is
-- never an ID; own IDs are the number of groups
abbrev pub code_of : Reply → ℕ
code_of (refused e) = negated e
code_of done = 0
code_of (child p) = p
code_of (child_in p n) = p
code_of (new_namespace n) = n
code_of yes' = 1
code_of no' = 0
code_of (bytes n) = n
code_of (id x) = x
code_of unmapped = no_id
code_of (ids l) = length l - own_threes

-- what an exported call that may store promises: the number of its answer, the tables, and that a refusal leaves every
-- word as it was
pub record Coded (code : ℕ) (entry exit : List ℕ) (o : Outcome) : Type 0 where
  pub answer : code ≡ code_of o.reply
  pub tables : tables_of exit ≡ o.tables
  pub kept : is_refused o.reply ≡ true → exit ≡ entry

-- what an exported read promises: the number of its answer, and the buffer
pub record CodedRead (code : ℕ) (after : List ℕ) (o : ReadOutcome) : Type 0 where
  pub answer : code ≡ code_of o.reply
  pub buffer : after ≡ o.buffer

-- ---- the new namespace of a clone, beside the child: a refusal leaves what was there
abbrev pub space_after : Reply → ℕ → ℕ
space_after (child_in p n) old = n
space_after (refused e) old = old
space_after done old = old
space_after (child p) old = old
space_after (new_namespace n) old = old
space_after yes' old = old
space_after no' old = old
space_after (bytes n) old = old
space_after (id x) old = old
space_after unmapped old = old
space_after (ids l) old = old

-- ---- own IDs in words: real, effective and saved user ID, the same of the group, and as many places as there may be
-- groups, 0 past the last
abbrev pub ids_row : OwnIds → List ℕ
ids_row o =
    o.users.real ∷ o.users.effective ∷ o.users.saved ∷ o.groups.real ∷ o.groups.effective ∷ o.groups.saved
    ∷ tab (λ (j : ℕ). get_or o.supplementary.ids j 0) max_groups 0

abbrev pub own_width : ℕ
own_width = own_threes + max_groups

-- the number of groups or the refusal, and the words, which a refusal leaves
abbrev pub own_code : Result OwnIds Errno → ℕ
own_code (Ok o) = o.supplementary.count
own_code (Err e) = negated (number_of e)

abbrev pub own_words : Result OwnIds Errno → List ℕ → List ℕ
own_words (Ok o) words = put_at words 0 (ids_row o)
own_words (Err e) words = words

-- what the exported own-ID question promises
pub record CodedIds (code : ℕ) (entry exit : List ℕ) (own : Result OwnIds Errno) : Type 0 where
  pub answer : code ≡ own_code own
  pub words : exit ≡ own_words own entry
