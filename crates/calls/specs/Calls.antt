-- Every call of document 01 with all that is lent to it, and what it answers. Assumes nothing.
use Rattle.std.specs.Prelude.{ℕ, ◌≡◌, true, List, [], get_or, drop, Result, Ok, Err}
use Rattle.tables.specs.declared.answer.Errno.{Errno}
use Rattle.tables.specs.declared.answer.Answer.{Answer}
use Rattle.records.specs.Records.{zero_ids, no_groups}
use Rattle.tables.specs.Tables.{State, tables_of}
use Rattle.tables.specs.Reply.{Reply, refused, done, child, child_in, new_namespace, yes', no', bytes, ids, id, unmapped, number_of, answered, Outcome, is_refused}
use Rattle.hierarchy.specs.Walks.{Translation}
use Rattle.process.specs.Calls.{fork_of, clone_of, unshare_of, setns_of}
use Rattle.mapping.specs.Calls.{ReadOutcome, write_map_of, write_setgroups_of, read_map_of, read_setgroups_of}
use Rattle.credentials.specs.declared.own.OwnIds.{OwnIds}
use Rattle.credentials.specs.Calls.{set_ids_of, group_list, set_groups_of, capable_reply, drop_of, own_ids_of, translate_reply}
use Rattle.credentials.specs.OwnReply.{ids_list, own_reply}
use Rattle.calls.specs.declared.Response.{Response}
use Rattle.calls.specs.declared.Response.TheVariants.{Plain, Own}
use Rattle.calls.specs.declared.Call.{Call}
use Rattle.calls.specs.declared.Call.TheVariants.{Fork, Clone, Unshare, Setns, WriteMap, WriteSetgroups, ReadMap, ReadSetgroups, SetIds, SetGroups, Capable, Drop, OwnIdsOf, Translate}

-- a call with all that is lent beside it: a text, a list of groups and a buffer
pub record Request : Type 0 where
  pub call : Call
  pub text : List ℕ
  pub list : List ℕ
  pub buffer : List ℕ

-- what a call answers, and the tables and the buffer that it leaves
pub record Step : Type 0 where
  pub reply : Reply
  pub tables : State
  pub buffer : List ℕ

-- the reply that a response is
abbrev pub response_reply : Response → Reply
response_reply (Plain a) = answered a
response_reply (Own o) = ids (ids_list o)

abbrev pub call_reply : Result Response Errno → Reply
call_reply (Ok r) = response_reply r
call_reply (Err e) = refused (number_of e)

-- an answer that has no IDs beside it, and the response of the own-ID question
abbrev pub plain_of : Result Answer Errno → Result Response Errno
plain_of (Ok a) = Ok (Plain a)
plain_of (Err e) = Err e

abbrev pub own_of : Result OwnIds Errno → Result Response Errno
own_of (Ok o) = Ok (Own o)
own_of (Err e) = Err e

-- the IDs that a response holds: none but the own ones, and where it holds none they are 0
abbrev pub no_own_ids : OwnIds
no_own_ids = record { users = zero_ids; groups = zero_ids; supplementary = no_groups }

abbrev pub ids_held : Result Response Errno → OwnIds
ids_held (Ok (Own o)) = o
ids_held (Ok (Plain a)) = no_own_ids
ids_held (Err e) = no_own_ids

-- the IDs that a reply lists
abbrev pub listed_in : Reply → List ℕ
listed_in (ids l) = l
listed_in (refused e) = []
listed_in done = []
listed_in (child p) = []
listed_in (child_in p n) = []
listed_in (new_namespace n) = []
listed_in yes' = []
listed_in no' = []
listed_in (bytes n) = []
listed_in (id x) = []
listed_in unmapped = []

-- what stands beside an answer: the IDs that its reply lists, and zeros where it lists none
abbrev pub listed_ids : Reply → OwnIds
listed_ids r = record {
  users = record { real = get_or (listed_in r) 0 0; effective = get_or (listed_in r) 1 0; saved = get_or (listed_in r) 2 0 };
  groups = record { real = get_or (listed_in r) 3 0; effective = get_or (listed_in r) 4 0; saved = get_or (listed_in r) 5 0 };
  supplementary = group_list (drop 6 (listed_in r));
}

-- ---- the one definition that a list of calls folds
abbrev pub stored : Outcome → List ℕ → Step
stored o buffer = record { reply = o.reply; tables = o.tables; buffer = buffer }

abbrev pub asked : State → Reply → List ℕ → Step
asked s r buffer = record { reply = r; tables = s; buffer = buffer }

abbrev pub read_by : State → ReadOutcome → Step
read_by s o = record { reply = o.reply; tables = s; buffer = o.buffer }

unfoldable pub answer_by : Translation → State → Call → List ℕ → List ℕ → List ℕ → Step
answer_by by s (Fork c) text list buffer = stored (fork_of s c) buffer
answer_by by s (Clone c) text list buffer = stored (clone_of by s c) buffer
answer_by by s (Unshare c) text list buffer = stored (unshare_of by s c) buffer
answer_by by s (Setns c n) text list buffer = stored (setns_of s c n) buffer
answer_by by s (WriteMap k c p) text list buffer = stored (write_map_of by s k c p text) buffer
answer_by by s (WriteSetgroups c p) text list buffer = stored (write_setgroups_of s c p text) buffer
answer_by by s (ReadMap k c p) text list buffer = read_by s (read_map_of by s k c p buffer)
answer_by by s (ReadSetgroups c p) text list buffer = read_by s (read_setgroups_of s c p buffer)
answer_by by s (SetIds k c i) text list buffer = stored (set_ids_of by s k c i.real i.effective i.saved) buffer
answer_by by s (SetGroups c) text list buffer = stored (set_groups_of by s c list) buffer
answer_by by s (Capable c n number) text list buffer = asked s (capable_reply s c n number) buffer
answer_by by s (Drop c p e) text list buffer = stored (drop_of s c p e) buffer
answer_by by s (OwnIdsOf c) text list buffer = asked s (own_reply (own_ids_of by s c)) buffer
answer_by by s (Translate k w c n x) text list buffer = asked s (translate_reply by s k w c n x) buffer

abbrev pub answer_of : Translation → State → Request → Step
answer_of by s r = answer_by by s r.call r.text r.list r.buffer

-- what the entry point promises of its response r: its answer, the tables and the buffer are the step's, the response
-- holds no other IDs than that answer's, and a refusal leaves every word of the lent array as it was. `one_response` of
-- proofs/OneResponse.antt: it is one value
pub record CallPromise (r : Result Response Errno) (entry exit after : List ℕ) (step : Step) : Type 0 where
  pub outcome : ◌≡◌ {A = Step} (record { reply = call_reply r; tables = tables_of exit; buffer = after }) step
  pub whole : ids_held r ≡ listed_ids step.reply
  pub kept : is_refused (call_reply r) ≡ true → exit ≡ entry
