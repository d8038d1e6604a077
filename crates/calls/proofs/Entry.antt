-- The entry point: each call's promise is the step's. Assumes nothing.
use Rattle.std.specs.Prelude.{Option, Some, None, Result, Ok, Err}
use mathlib.Core.Path.{◌≡◌, refl, sym, ap, ◌∙◌, subst}
use mathlib.Core.Bool.{true}
use mathlib.Core.List.{List, map}
use Prim.Native.Nat.{ℕ, ◌-◌}
use lib.ListN.{length, take, replicate}
use lib.Seq.{take-append_seam}
use borrow.Author.Rules.{rules}
use Rattle.records.specs.declared.Kind.{Kind}
use Rattle.records.specs.declared.Kind.TheVariants.{User, Group}
use Rattle.records.specs.declared.Ids.{Ids}
use Rattle.records.specs.Records.{max_groups}
use Rattle.tables.specs.declared.answer.Errno.{Errno}
use Rattle.tables.specs.declared.answer.Answer.{Answer}
use Rattle.tables.specs.declared.answer.Answer.TheVariants.{Done, Child, ChildIn, NewNamespace, Yes, No, Length, Id, Unmapped}
use Rattle.tables.specs.Tables.{State, tables_of, process_at}
use Rattle.tables.specs.Find.{caller_named}
use Rattle.tables.specs.Reply.{Reply, reply_of, Outcome, is_refused, Promise, on_found}
use Rattle.hierarchy.specs.Walks.{Translation}
use Rattle.process.specs.Calls.{fork_of, clone_of, unshare_of, setns_of}
use Rattle.mapping.specs.Calls.{ReadOutcome, write_map_of, write_setgroups_of, read_map_of, read_setgroups_of}
use Rattle.credentials.specs.declared.own.OwnIds.{OwnIds}
use Rattle.credentials.specs.OwnReply.{own_reply}
use Rattle.credentials.specs.declared.translate.Way.{Way}
use Rattle.credentials.specs.Calls.{set_ids_of, group_list, set_groups_of, capable_reply, drop_of, seen, seen_ids, seen_groups, own_ids_of, translate_reply}
use Rattle.calls.specs.declared.Response.{Response}
use Rattle.calls.specs.declared.Call.{Call}
use Rattle.calls.specs.declared.Call.TheVariants.{Fork, Clone, Unshare, Setns, WriteMap, WriteSetgroups, ReadMap, ReadSetgroups, SetIds, SetGroups, Capable, Drop, OwnIdsOf, Translate}
use Rattle.calls.specs.Calls.{Step, call_reply, plain_of, own_of, ids_held, listed_ids, stored, asked, read_by, answer_by, CallPromise}

-- ---- no other IDs stand in a response than its reply lists
abbrev Whole : Result Response Errno → Type 0
Whole r = ids_held r ≡ listed_ids (call_reply r)

-- an answer with nothing beside it
plain_whole : (a : Result Answer Errno) → Whole (plain_of a)
unfolding group_list
plain_whole (Err e) = refl
plain_whole (Ok Done) = refl
plain_whole (Ok (Child p)) = refl
plain_whole (Ok (ChildIn p n)) = refl
plain_whole (Ok (NewNamespace n)) = refl
plain_whole (Ok Yes) = refl
plain_whole (Ok No) = refl
plain_whole (Ok (Length n)) = refl
plain_whole (Ok (Id x)) = refl
plain_whole (Ok Unmapped) = refl

plain_reply : (a : Result Answer Errno) → call_reply (plain_of a) ≡ reply_of a
plain_reply (Ok a) = refl
plain_reply (Err e) = refl

-- own IDs
groups_whole : (xs : List ℕ) → group_list xs ≡ group_list (take (group_list xs).count (group_list xs).ids)
unfolding group_list
groups_whole xs = ap group_list (sym (take-append_seam xs (replicate (max_groups - length xs) 0)))

found_whole : (f : Option ℕ) (x : Result OwnIds Errno) (next : ℕ → Result OwnIds Errno) → Whole (own_of x) → ((i : ℕ) → Whole (own_of (next i))) → Whole (own_of (on_found f x next))
found_whole (Some i) x next p q = q i
found_whole None x next p q = p

own_whole : (by : Translation) (s : State) (c : ℕ) → Whole (own_of (own_ids_of by s c))
unfolding own_ids_of seen_groups group_list
own_whole by s c =
    found_whole (caller_named s c) _ _ refl
    (λ i j. record {
      users = seen_ids by User (process_at s i).namespace (process_at s i).users;
      groups = seen_ids by Group (process_at s i).namespace (process_at s i).groups;
      supplementary = groups_whole (map (seen by Group (process_at s i).namespace) (take (process_at s i).supplementary.count (process_at s i).supplementary.ids)) j;
    })

own_reply_lem : (o : Result OwnIds Errno) → call_reply (own_of o) ≡ own_reply o
own_reply_lem (Ok o) = refl
own_reply_lem (Err e) = refl

promises : (r : Result Response Errno) (l l' b : List ℕ) (step : Step) → ◌≡◌ {A = Step} (record { reply = call_reply r; tables = tables_of l'; buffer = b }) step → Whole r → (is_refused (call_reply r) ≡ true → l' ≡ l) → CallPromise r l l' b step
promises r l l' b step o w k = record { outcome = o; whole = w ∙ ap (λ (x : Step). listed_ids x.reply) o; kept = k }

module _ (r : Result Response Errno) (a : Result Answer Errno) (e : r ≡ plain_of a) (l : List ℕ) where
  reply_is : call_reply r ≡ reply_of a
  reply_is = ap call_reply e ∙ plain_reply a

  whole : Whole r
  whole = subst Whole (sym e) (plain_whole a)

  -- a call that may store
  stores : (l' b : List ℕ) (o : Outcome) (step : Step) → Promise a l l' o → step ≡ stored o b → CallPromise r l l' b step
  stores l' b o step p q =
      promises r l l' b step
      ((λ i. record { reply = (reply_is ∙ ap (λ (x : Outcome). x.reply) p.outcome) i; tables = (p.outcome i).tables; buffer = b }) ∙ sym q)
      whole
      (λ t. p.kept (sym (ap is_refused reply_is) ∙ t))

  -- a read
  reads : (b' : List ℕ) (o : ReadOutcome) (step : Step) → ◌≡◌ {A = ReadOutcome} (record { reply = reply_of a; buffer = b' }) o → step ≡ read_by (tables_of l) o → CallPromise r l l b' step
  reads b' o step p q =
      promises r l l b' step ((λ i. record { reply = (reply_is ∙ ap (λ (x : ReadOutcome). x.reply) p) i; tables = tables_of l; buffer = (p i).buffer }) ∙ sym q) whole (λ t. refl)

  -- a question
  asks : (b : List ℕ) (o : Reply) (step : Step) → reply_of a ≡ o → step ≡ asked (tables_of l) o b → CallPromise r l l b step
  asks b o step p q = promises r l l b step ((λ i. record { reply = (reply_is ∙ p) i; tables = tables_of l; buffer = b }) ∙ sym q) whole (λ t. refl)

-- ---- each call
module _ (by : Translation) (c : Call) (l text list b : List ℕ) (r : Result Response Errno) where
  pub fork_step : (a : Result Answer Errno) (l' : List ℕ) (p : ℕ) → c ≡ Fork p → Promise a l l' (fork_of (tables_of l) p) → r ≡ plain_of a → CallPromise r l l' b (answer_by by (tables_of l) c text list b)
  unfolding answer_by
  fork_step a l' p e h q = stores r a q l l' b (fork_of (tables_of l) p) (answer_by by (tables_of l) c text list b) h (rw e)

  pub clone_step : (a : Result Answer Errno) (l' : List ℕ) (p : ℕ) → c ≡ Clone p → Promise a l l' (clone_of by (tables_of l) p) → r ≡ plain_of a → CallPromise r l l' b (answer_by by (tables_of l) c text list b)
  unfolding answer_by
  clone_step a l' p e h q = stores r a q l l' b (clone_of by (tables_of l) p) (answer_by by (tables_of l) c text list b) h (rw e)

  pub unshare_step : (a : Result Answer Errno) (l' : List ℕ) (p : ℕ) → c ≡ Unshare p → Promise a l l' (unshare_of by (tables_of l) p) → r ≡ plain_of a → CallPromise r l l' b (answer_by by (tables_of l) c text list b)
  unfolding answer_by
  unshare_step a l' p e h q = stores r a q l l' b (unshare_of by (tables_of l) p) (answer_by by (tables_of l) c text list b) h (rw e)

  pub setns_step : (a : Result Answer Errno) (l' : List ℕ) (p n : ℕ) → c ≡ Setns p n → Promise a l l' (setns_of (tables_of l) p n) → r ≡ plain_of a → CallPromise r l l' b (answer_by by (tables_of l) c text list b)
  unfolding answer_by
  setns_step a l' p n e h q = stores r a q l l' b (setns_of (tables_of l) p n) (answer_by by (tables_of l) c text list b) h (rw e)

  pub write_map_step : (a : Result Answer Errno) (l' : List ℕ) (k : Kind) (p n : ℕ) → c ≡ WriteMap k p n → Promise a l l' (write_map_of by (tables_of l) k p n text) → r ≡ plain_of a → CallPromise r l l' b (answer_by by (tables_of l) c text list b)
  unfolding answer_by
  write_map_step a l' k p n e h q = stores r a q l l' b (write_map_of by (tables_of l) k p n text) (answer_by by (tables_of l) c text list b) h (rw e)

  pub write_setgroups_step : (a : Result Answer Errno) (l' : List ℕ) (p n : ℕ) → c ≡ WriteSetgroups p n → Promise a l l' (write_setgroups_of (tables_of l) p n text) → r ≡ plain_of a → CallPromise r l l' b (answer_by by (tables_of l) c text list b)
  unfolding answer_by
  write_setgroups_step a l' p n e h q = stores r a q l l' b (write_setgroups_of (tables_of l) p n text) (answer_by by (tables_of l) c text list b) h (rw e)

  pub set_ids_step : (a : Result Answer Errno) (l' : List ℕ) (k : Kind) (p : ℕ) (i : Ids) → c ≡ SetIds k p i → Promise a l l' (set_ids_of by (tables_of l) k p i.real i.effective i.saved) → r ≡ plain_of a → CallPromise r l l' b (answer_by by (tables_of l) c text list b)
  unfolding answer_by
  set_ids_step a l' k p i e h q = stores r a q l l' b (set_ids_of by (tables_of l) k p i.real i.effective i.saved) (answer_by by (tables_of l) c text list b) h (rw e)

  pub set_groups_step : (a : Result Answer Errno) (l' : List ℕ) (p : ℕ) → c ≡ SetGroups p → Promise a l l' (set_groups_of by (tables_of l) p list) → r ≡ plain_of a → CallPromise r l l' b (answer_by by (tables_of l) c text list b)
  unfolding answer_by
  set_groups_step a l' p e h q = stores r a q l l' b (set_groups_of by (tables_of l) p list) (answer_by by (tables_of l) c text list b) h (rw e)

  pub drop_step : (a : Result Answer Errno) (l' : List ℕ) (p x y : ℕ) → c ≡ Drop p x y → Promise a l l' (drop_of (tables_of l) p x y) → r ≡ plain_of a → CallPromise r l l' b (answer_by by (tables_of l) c text list b)
  unfolding answer_by
  drop_step a l' p x y e h q = stores r a q l l' b (drop_of (tables_of l) p x y) (answer_by by (tables_of l) c text list b) h (rw e)

  pub read_map_step : (a : Result Answer Errno) (b' : List ℕ) (k : Kind) (p n : ℕ) → c ≡ ReadMap k p n → ◌≡◌ {A = ReadOutcome} (record { reply = reply_of a; buffer = b' }) (read_map_of by (tables_of l) k p n b) → r ≡ plain_of a → CallPromise r l l b' (answer_by by (tables_of l) c text list b)
  unfolding answer_by
  read_map_step a b' k p n e h q = reads r a q l b' (read_map_of by (tables_of l) k p n b) (answer_by by (tables_of l) c text list b) h (rw e)

  pub read_setgroups_step : (a : Result Answer Errno) (b' : List ℕ) (p n : ℕ) → c ≡ ReadSetgroups p n → ◌≡◌ {A = ReadOutcome} (record { reply = reply_of a; buffer = b' }) (read_setgroups_of (tables_of l) p n b) → r ≡ plain_of a → CallPromise r l l b' (answer_by by (tables_of l) c text list b)
  unfolding answer_by
  read_setgroups_step a b' p n e h q = reads r a q l b' (read_setgroups_of (tables_of l) p n b) (answer_by by (tables_of l) c text list b) h (rw e)

  pub capable_step : (a : Result Answer Errno) (p n number : ℕ) → c ≡ Capable p n number → reply_of a ≡ capable_reply (tables_of l) p n number → r ≡ plain_of a → CallPromise r l l b (answer_by by (tables_of l) c text list b)
  unfolding answer_by
  capable_step a p n number e q w = asks r a w l b (capable_reply (tables_of l) p n number) (answer_by by (tables_of l) c text list b) q (rw e)

  pub translate_step : (a : Result Answer Errno) (k : Kind) (w : Way) (p n x : ℕ) → c ≡ Translate k w p n x → reply_of a ≡ translate_reply by (tables_of l) k w p n x → r ≡ plain_of a → CallPromise r l l b (answer_by by (tables_of l) c text list b)
  unfolding answer_by
  translate_step a k w p n x e q z = asks r a z l b (translate_reply by (tables_of l) k w p n x) (answer_by by (tables_of l) c text list b) q (rw e)

  pub own_ids_step : (p : ℕ) (o : Result OwnIds Errno) → c ≡ OwnIdsOf p → o ≡ own_ids_of by (tables_of l) p → r ≡ own_of o → CallPromise r l l b (answer_by by (tables_of l) c text list b)
  unfolding answer_by
  own_ids_step p o e f q =
      let x : r ≡ own_of (own_ids_of by (tables_of l) p) = rw f at q in
      let reply = ap call_reply x ∙ own_reply_lem (own_ids_of by (tables_of l) p) in
      promises r l l b (answer_by by (tables_of l) c text list b) ((λ i. record { reply = reply i; tables = tables_of l; buffer = b }) ∙ rw e) (subst Whole (sym x) (own_whole by (tables_of l) p)) (λ t. refl)

pub ruleset entry = (
  fork_step,
  clone_step,
  unshare_step,
  setns_step,
  write_map_step,
  write_setgroups_step,
  set_ids_step,
  set_groups_step,
  drop_step,
  read_map_step,
  read_setgroups_step,
  capable_step,
  translate_step,
  own_ids_step,
  rules,
)
