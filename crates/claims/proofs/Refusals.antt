-- Every refusal has its number and leaves everything as it was. Assumes nothing.
use Rattle.std.specs.Prelude.{Option, Some, None, Result}
use Prim.Native.Nat.{ℕ}
use mathlib.Core.Path.{◌≡◌, refl, sym, ap, ◌∙◌, subst}
use mathlib.Core.Bool.{Bool, true, false, cond, true≢false}
use mathlib.Core.List.{List}
use lib.Dec.{ltb}
use Rattle.capability.specs.Sets.{cap_last_cap}
use Rattle.prelude.specs.Parts.{fits_at, put_at}
use Rattle.prelude.proofs.Tests.{by_test}
use Rattle.tables.specs.Tables.{State, process_at}
use Rattle.tables.specs.Find.{process_named, namespace_named, caller_named}
use Rattle.tables.specs.Reply.{Reply, refused, yes', no', is_refused, Outcome}
use Rattle.hierarchy.specs.Walks.{Translation, capable_in}
use Rattle.mapping.specs.Calls.{ReadOutcome, read_text, read_map_of, read_setgroups_of}
use Rattle.tables.specs.declared.answer.Errno.{Errno}
use Rattle.credentials.specs.declared.own.OwnIds.{OwnIds}
use Rattle.credentials.specs.OwnReply.{own_reply}
use Rattle.credentials.specs.Calls.{capable_reply, own_ids_of, translated, turned, translate_reply}
use Rattle.calls.specs.declared.Call.{Call}
use Rattle.calls.specs.declared.Call.TheVariants.{Fork, Clone, Unshare, Setns, WriteMap, WriteSetgroups, ReadMap, ReadSetgroups, SetIds, SetGroups, Capable, Drop, OwnIdsOf, Translate}
use Rattle.calls.specs.Calls.{Request, stored, asked, read_by, answer_by}
use Rattle.claims.specs.TopLevel.{Has}
use Rattle.claims.specs.Refusals.{refusal_numbers, Refuses, RefusesWell}
use Rattle.claims.proofs.Cases.{found_case, is_3, is_22, is_34, fork_case, clone_case, unshare_case, setns_case, write_map_case, write_setgroups_case, set_ids_case, set_groups_case, drop_case}

-- a refusal that leaves the tables and the buffer
refuses : (s : State) (buffer : List ℕ) (n : ℕ) → Has n refusal_numbers → Refuses s buffer (asked s (refused n) buffer)
refuses s buffer n i e q = let f : n ≡ e = cc in (subst (λ (m : ℕ). Has m refusal_numbers) f i, refl, refl)

-- an answer that is no refusal
answers : (s t : State) (buffer after : List ℕ) (r : Reply) → is_refused r ≡ false → Refuses s buffer (record { reply = r; tables = t; buffer = after })
answers s t buffer after r f e q = absurd (true≢false (sym (ap is_refused q) ∙ f))

module _ (by : Translation) (s : State) (buffer : List ℕ) where
  abbrev Stored : Outcome → Type 0
  Stored o = Refuses s buffer (stored o buffer)

  abbrev Asked : Reply → Type 0
  Asked r = Refuses s buffer (asked s r buffer)

  abbrev Read : ReadOutcome → Type 0
  Read o = Refuses s buffer (read_by s o)

  read_text_lem : (text : List ℕ) → Read (read_text text buffer)
  unfolding read_text put_at
  read_text_lem text =
      by_test (fits_at buffer 0 text)
      (λ t. rw t (answers s s buffer _ _ refl))
      (λ t. rw t (refuses s buffer 34 is_34))

  translation : (t : Option ℕ) → is_refused (translated t) ≡ false
  translation (Some y) = refl
  translation None = refl

  question : (t : Bool) → is_refused (cond t yes' no') ≡ false
  question true = refl
  question false = refl

  call_refuses : (c : Call) (text list : List ℕ) → Refuses s buffer (answer_by by s c text list buffer)
  unfolding answer_by read_map_of read_setgroups_of capable_reply own_ids_of translate_reply
  call_refuses (Fork c) text list = fork_case by s Stored (refuses s buffer) c (λ i q e f. answers s _ buffer _ _ refl)
  call_refuses (Clone c) text list = clone_case by s Stored (refuses s buffer) c (λ p n q r f. answers s _ buffer _ _ refl)
  call_refuses (Unshare c) text list = unshare_case by s Stored (refuses s buffer) c (λ p n r. answers s _ buffer _ _ refl)
  call_refuses (Setns c n) text list = setns_case by s Stored (refuses s buffer) c n (λ p m e f t. answers s _ buffer _ _ refl)
  call_refuses (WriteMap k c p) text list = write_map_case by s Stored (refuses s buffer) k c p text (λ q ls e w m g. answers s _ buffer _ _ refl)
  call_refuses (WriteSetgroups c p) text list = write_setgroups_case by s Stored (refuses s buffer) c p text (λ q b e. answers s _ buffer _ _ refl)
  call_refuses (ReadMap k c p) text list =
      found_case Read (caller_named s c) (refuses s buffer 3 is_3) (λ r e.
      found_case Read (process_named s r p) (refuses s buffer 3 is_3) (λ q f. read_text_lem _))
  call_refuses (ReadSetgroups c p) text list =
      found_case Read (caller_named s c) (refuses s buffer 3 is_3) (λ r e.
      found_case Read (process_named s r p) (refuses s buffer 3 is_3) (λ q f. read_text_lem _))
  call_refuses (SetIds k c i) text list = set_ids_case by s Stored (refuses s buffer) k c i (λ j x y z e fx fy fz. answers s _ buffer _ _ refl)
  call_refuses (SetGroups c) text list = set_groups_case by s Stored (refuses s buffer) c list (λ i l e w f. answers s _ buffer _ _ refl)
  call_refuses (Capable c n number) text list =
      found_case Asked (caller_named s c) (refuses s buffer 3 is_3) (λ i e.
      found_case Asked (namespace_named s i n) (refuses s buffer 3 is_3) (λ m f.
      by_test (ltb cap_last_cap number)
      (λ t. rw t (refuses s buffer 22 is_22))
      (λ t. rw t (answers s s buffer _ _ (question (capable_in s (process_at s i) m number))))))
  call_refuses (Drop c p e) text list = drop_case by s Stored (refuses s buffer) c p e (λ i f. answers s _ buffer _ _ refl)
  call_refuses (OwnIdsOf c) text list =
      found_case (λ (r : Result OwnIds Errno). Asked (own_reply r)) (caller_named s c) (refuses s buffer 3 is_3) (λ i e. answers s s buffer _ _ refl)
  call_refuses (Translate k w c n x) text list =
      found_case Asked (caller_named s c) (refuses s buffer 3 is_3) (λ i e.
      found_case Asked (namespace_named s i n) (refuses s buffer 3 is_3) (λ m f. answers s s buffer _ _ (translation (turned by k w m x))))

pub refusals : (by : Translation) (s : State) (r : Request) → RefusesWell by s r
refusals by s r = call_refuses by s r.buffer r.call r.text r.list
