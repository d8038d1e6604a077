-- A read that is refused leaves every byte of the buffer as it was. Assumes nothing.
use Rattle.std.specs.Prelude.{Option, Some, None}
use Prim.Native.Nat.{ℕ}
use mathlib.Core.Path.{◌≡◌, refl}
use mathlib.Core.Bool.{true, false, false≢true}
use mathlib.Core.List.{List}
use Rattle.prelude.specs.Parts.{fits_at, put_at}
use Rattle.prelude.proofs.Tests.{by_test}
use Rattle.records.specs.declared.Kind.{Kind}
use Rattle.tables.specs.Tables.{State}
use Rattle.tables.specs.Find.{caller_named, process_named}
use Rattle.tables.specs.Reply.{refused, is_refused, on_found}
use Rattle.hierarchy.specs.Walks.{Translation}
use Rattle.mapping.specs.Calls.{ReadOutcome, read_text, read_map_of, read_setgroups_of}

-- a refusal leaves the buffer
abbrev Leaves : List ℕ → ReadOutcome → Type 0
Leaves buffer o = is_refused o.reply ≡ true → o.buffer ≡ buffer

text_kept : (text buffer : List ℕ) → Leaves buffer (read_text text buffer)
unfolding read_text put_at
text_kept text buffer e =
    by_test (fits_at buffer 0 text)
    (λ t. let z : false ≡ true = rw t at e in absurd (false≢true z))
    (λ t. rw t)

found_kept : (buffer : List ℕ) (r : Option ℕ) (next : ℕ → ReadOutcome) → ((i : ℕ) → Leaves buffer (next i)) → Leaves buffer (on_found r (record { reply = refused 3; buffer = buffer }) next)
found_kept buffer (Some i) next h = h i
found_kept buffer None next h = λ e. refl

pub read_map_kept : (by : Translation) (s : State) (kind : Kind) (c name : ℕ) (buffer : List ℕ) → Leaves buffer (read_map_of by s kind c name buffer)
unfolding read_map_of
read_map_kept by s kind c name buffer =
    found_kept buffer (caller_named s c) _ (λ r. found_kept buffer (process_named s r name) _ (λ p. text_kept _ buffer))

pub read_setgroups_kept : (s : State) (c name : ℕ) (buffer : List ℕ) → Leaves buffer (read_setgroups_of s c name buffer)
unfolding read_setgroups_of
read_setgroups_kept s c name buffer =
    found_kept buffer (caller_named s c) _ (λ r. found_kept buffer (process_named s r name) _ (λ p. text_kept _ buffer))
