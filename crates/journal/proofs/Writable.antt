-- The writer writes exactly the calls that can be written. Assumes nothing.
use Prim.Native.Nat.{ℕ, ◌+◌, ◌≤◌, ◌^◌}
use mathlib.Core.Path.{◌≡◌}
use mathlib.Core.Bool.{false}
use mathlib.Core.List.{List, [], ◌∷◌}
use lib.Dec.{leb, ltb}
use lib.ListN.{length}
use borrow.Author.Rules.{rules}
use borrow.Author.Tests.{ltb-false, leb-false, le-ltb, lt-leb}
use Rattle.std.specs.Prelude.{Ok}
use Rattle.prelude.proofs.Tests.{by_test}
use Rattle.calls.specs.declared.Call.{Call}
use Rattle.calls.specs.declared.Call.TheVariants.{Fork, Clone, Unshare, Setns, WriteMap, WriteSetgroups, ReadMap, ReadSetgroups, SetIds, SetGroups, Capable, Drop, OwnIdsOf, Translate}
use Rattle.calls.specs.Calls.{Request}
use Rattle.journal.specs.Layout.{max_size, form_of, names_of, numbers_of}
use Rattle.journal.specs.Journal.{long_buffer, body_of, write_of, request_record}
use Rattle.journal.specs.Laws.{AllBelow, Writable}

-- a read's buffer is too long where its length does not fit
read_fits : (n : ℕ) → leb (2 ^ 32) n ≡ false → AllBelow (2 ^ 32) (n ∷ [])
read_fits n t = (leb-false (2 ^ 32) n t, tt)

read_short : (n : ℕ) → AllBelow (2 ^ 32) (n ∷ []) → leb (2 ^ 32) n ≡ false
read_short n h = lt-leb (2 ^ 32) n h.0

record NumbersFit (c : Call) (n : ℕ) : Type 0 where
  fits : AllBelow (2 ^ 32) (numbers_of c 0) → long_buffer n (form_of c).lent ≡ false → AllBelow (2 ^ 32) (numbers_of c n)
  short : AllBelow (2 ^ 32) (numbers_of c n) → long_buffer n (form_of c).lent ≡ false

numbers_fit : (c : Call) (m : ℕ) → NumbersFit c m
unfolding form_of numbers_of
numbers_fit (Fork c) m = search rules
numbers_fit (Clone c) m = search rules
numbers_fit (Unshare c) m = search rules
numbers_fit (Setns c n) m = search rules
numbers_fit (WriteMap k c p) m = search rules
numbers_fit (WriteSetgroups c p) m = search rules
numbers_fit (ReadMap k c p) m = search (read_fits, read_short)
numbers_fit (ReadSetgroups c p) m = search (read_fits, read_short)
numbers_fit (SetIds k c i) m = search rules
numbers_fit (SetGroups c) m = search rules
numbers_fit (Capable c n number) m = search rules
numbers_fit (Drop c p e) m = search rules
numbers_fit (OwnIdsOf c) m = search rules
numbers_fit (Translate k w c n x) m = search rules

module _ (r : Request) (buffer : List ℕ) (at : ℕ) where
  abbrev n : ℕ
  n = length r.buffer

  abbrev body : List ℕ
  body = body_of r.call r.text r.list n

  -- a call that can be written is, where there is room
  pub writable_written : Writable r → at + length (request_record r) ≤ length buffer
      → write_of r.call r.text r.list n buffer at ≡ Ok (length (request_record r))
  unfolding write_of
  writable_written ok room =
      rw (le-ltb max_size (length body) ok.1, (numbers_fit r.call n).short ok.0.1, le-ltb (length buffer) (at + length (request_record r)) room)

  -- what is written can be: the premises are what the types of the interface give
  pub written_writable : AllBelow (2 ^ 64) (names_of r.call) → AllBelow (2 ^ 32) (numbers_of r.call 0) → AllBelow 256 r.text → AllBelow (2 ^ 32) r.list
      → (k : ℕ) → write_of r.call r.text r.list n buffer at ≡ Ok k → Writable r
  unfolding write_of
  written_writable names numbers text list k e =
      by_test (ltb max_size (length body)) (λ t. let z = rw t at e in cc)
      (λ t.
      by_test (long_buffer n (form_of r.call).lent) (λ s. let z = rw (t, s) at e in cc)
      (λ s. ((names, (numbers_fit r.call n).fits numbers s, text, list), ltb-false max_size (length body) t)))
