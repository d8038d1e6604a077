-- What each exported function promises is a step of document 01's calls, of which it tells the number. Assumes nothing.
use Rattle.std.specs.Prelude.{Result}
use Prim.Native.Nat.{ℕ, suc, ◌+◌, ◌-◌, ◌*◌, ◌≤◌}
use mathlib.Core.Path.{◌≡◌, refl, ap, ◌∙◌}
use mathlib.Core.List.{List, ◌++◌, map}
use native.Mathlib.Omega.{arith}
use lib.Dec.{ltb}
use lib.ListN.{length, take, replicate, length-append, length-take, length-map, length-replicate}
use lib.Seq.{take-append_seam}
use borrow.Author.Tests.{ltb-true, ltb-false}
use Rattle.prelude.specs.Parts.{put_at}
use Rattle.prelude.proofs.Tests.{by_test}
use Rattle.prelude.proofs.Made.{tab_all}
use Rattle.rows.proofs.Rows.{row_get, row_none}
use Rattle.records.specs.declared.Kind.TheVariants.{User, Group}
use Rattle.records.specs.declared.Ids.{Ids}
use Rattle.records.specs.declared.Process.{Process}
use Rattle.records.specs.Records.{process_of, free_process, max_groups, process_width}
use Rattle.tables.specs.Tables.{State, tables_of, process_at, process_places, processes_at}
use Rattle.tables.specs.Find.{caller_named}
use Rattle.tables.specs.Reply.{Reply, Outcome}
use Rattle.hierarchy.specs.Walks.{Translation}
use Rattle.hierarchy.specs.KernelStarts.{quick}
use Rattle.mapping.specs.Calls.{ReadOutcome}
use Rattle.credentials.specs.declared.own.OwnIds.{OwnIds}
use Rattle.tables.specs.declared.answer.Errno.{Errno}
use Rattle.credentials.specs.OwnReply.{ids_list, own_reply}
use Rattle.credentials.specs.Calls.{group_list, seen, seen_ids, seen_groups, own_ids_of}
use Rattle.calls.specs.declared.Call.{Call}
use Rattle.calls.specs.declared.Call.TheVariants.{Fork, Clone, Unshare, Setns, WriteMap, WriteSetgroups, ReadMap, ReadSetgroups, SetIds, SetGroups, Capable, Drop, OwnIdsOf, Translate}
use Rattle.calls.specs.Calls.{stored, asked, read_by, answer_by}
use Rattle.exports.specs.Codes.{own_threes, code_of, ids_row, own_width, own_code, own_words, CodedIds}
use Rattle.claims.specs.Execution.{Stores, Reads, Asks, Tells, ExportPromise, Numbered, words_after}
use Rattle.claims.proofs.Cases.{found_case}

-- own IDs: the number of groups is told, or the refusal
abbrev own_with : Ids → Ids → List ℕ → OwnIds
own_with u g xs = record { users = u; groups = g; supplementary = group_list xs }

groups_code : (u g : Ids) (xs : List ℕ) → (group_list xs).count ≡ length (ids_list (own_with u g xs)) - own_threes
unfolding group_list
groups_code u g xs = let h = ap length (take-append_seam xs (replicate (max_groups - length xs) 0)) in omega arith

abbrev OwnCode : Result OwnIds Errno → Type 0
OwnCode own = own_code own ≡ code_of (own_reply own)

own_code_lem : (by : Translation) (s : State) (c : ℕ) → OwnCode (own_ids_of by s c)
unfolding own_ids_of seen_groups
own_code_lem by s c =
    found_case OwnCode (caller_named s c) refl (λ i e.
    groups_code (seen_ids by User (process_at s i).namespace (process_at s i).users) (seen_ids by Group (process_at s i).namespace (process_at s i).groups) _)

-- their words are those of the reply
own_row : (u g : Ids) (xs : List ℕ) → length xs ≤ max_groups → ids_row (own_with u g xs) ≡ ids_list (own_with u g xs) ++ replicate (own_width - length (ids_list (own_with u g xs))) 0
unfolding group_list
own_row u g xs h =
    let zeros : List ℕ = replicate (max_groups - length xs) 0 in
    let seam = take-append_seam xs zeros in
    let all = tab_all (xs ++ zeros) 0 max_groups (simp (length-append, length-replicate) (omega arith)) in
    let left : own_width - suc (suc (suc (suc (suc (suc (length xs)))))) ≡ max_groups - length xs = omega arith in
    rw (all, seam, left)

-- a process's record has that many places for groups
groups_long : (l : List ℕ) (i : ℕ) → length (process_at (tables_of l) i).supplementary.ids ≡ max_groups
unfolding process_at tables_of
groups_long l i =
    by_test (ltb i process_places)
    (λ t. ap (λ (p : Process). length p.supplementary.ids) (row_get process_of process_width process_places processes_at l i free_process (processes_at + i * process_width) refl (ltb-true i process_places t)))
    (λ t. ap (λ (p : Process). length p.supplementary.ids) (row_none process_of process_width process_places processes_at l i free_process (ltb-false i process_places t)))

abbrev OwnWords : List ℕ → Result OwnIds Errno → Type 0
OwnWords words own = own_words own words ≡ words_after (own_reply own) words

pub exported_words : (by : Translation) (l : List ℕ) (c code : ℕ) (words words' : List ℕ) → CodedIds code words words' (own_ids_of by (tables_of l) c) → words' ≡ words_after (own_reply (own_ids_of by (tables_of l) c)) words
unfolding own_ids_of seen_groups
exported_words by l c code words words' p =
    p.words
    ∙ found_case (OwnWords words) (caller_named (tables_of l) c) refl (λ i e.
    let p = process_at (tables_of l) i in
    let xs = map (seen by Group p.namespace) (take p.supplementary.count p.supplementary.ids) in
    let few : length xs ≤ max_groups = let h = groups_long l i in simp (length-map, length-take) (omega arith) in
    ap (put_at words 0) (own_row (seen_ids by User p.namespace p.users) (seen_ids by Group p.namespace p.groups) xs few))

module _ (code : ℕ) (entry exit before after : List ℕ) where
  -- a promise `Coded`
  coded_step : (o : Outcome) → Stores code entry exit before after o → Numbered code entry exit after (stored o before)
  coded_step o (p, e) = record { answer = p.answer; tables = p.tables; buffer = e; kept = p.kept }

  -- `CodedRead`
  read_step : (o : ReadOutcome) → Reads code entry exit before after o → Numbered code entry exit after (read_by (tables_of entry) o)
  read_step o (p, e) = record { answer = p.answer; tables = ap tables_of e; buffer = p.buffer; kept = λ t. e }

  -- a number alone
  asks_step : (r : Reply) → Asks code entry exit before after r → Numbered code entry exit after (asked (tables_of entry) r before)
  asks_step r (p, e, f) = record { answer = p; tables = ap tables_of e; buffer = f; kept = λ t. e }

  -- `CodedIds`
  ids_step : (by : Translation) (c : ℕ) → Tells code entry exit before after (own_ids_of by (tables_of entry) c) → Numbered code entry exit after (asked (tables_of entry) (own_reply (own_ids_of by (tables_of entry) c)) before)
  ids_step by c ((words, words', p), e, f) = record { answer = p.answer ∙ own_code_lem by (tables_of entry) c; tables = ap tables_of e; buffer = f; kept = λ t. e }

  pub exported_step : (c : Call) (text list : List ℕ) → ExportPromise code entry exit before after c text list → Numbered code entry exit after (quick answer_by (tables_of entry) c text list before)
  unfolding answer_by
  exported_step (Fork c) text list p = coded_step _ p
  exported_step (Clone c) text list p = coded_step _ p
  exported_step (Unshare c) text list p = coded_step _ p
  exported_step (Setns c n) text list p = coded_step _ p
  exported_step (WriteMap k c n) text list p = coded_step _ p
  exported_step (WriteSetgroups c n) text list p = coded_step _ p
  exported_step (ReadMap k c n) text list p = read_step _ p
  exported_step (ReadSetgroups c n) text list p = read_step _ p
  exported_step (SetIds k c i) text list p = coded_step _ p
  exported_step (SetGroups c) text list p = coded_step _ p
  exported_step (Capable c n number) text list p = asks_step _ p
  exported_step (Drop c n e) text list p = coded_step _ p
  exported_step (OwnIdsOf c) text list p = ids_step _ c p
  exported_step (Translate k w c n x) text list p = asks_step _ p
