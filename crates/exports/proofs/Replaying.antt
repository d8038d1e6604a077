-- An exported step of a journal is the step's. Assumes nothing.
use Prim.Native.Nat.{ℕ, zero, suc, ◌+◌, ◌-◌}
use mathlib.Core.Path.{◌≡◌, refl, sym, ap, ◌∙◌}
use mathlib.Core.List.{List, [], ◌∷◌, ◌++◌, append-nil}
use native.Mathlib.Omega.{arith}
use lib.ListN.{length, get_or, take, replicate, drop_of_length-le}
use Rattle.prelude.specs.Parts.{put_at}
use Rattle.prelude.specs.Lists.{tab}
use Rattle.prelude.proofs.Made.{tab_same}
use Rattle.prelude.proofs.Parts.{put_inside}
use Rattle.records.specs.Records.{max_groups}
use Rattle.tables.specs.Reply.{Reply, ids, is_refused}
use Rattle.tables.specs.declared.answer.Errno.{Errno}
use Rattle.std.specs.Prelude.{Result, Ok, Err}
use Rattle.tables.specs.declared.answer.Answer.TheVariants.{Done, Child, ChildIn, NewNamespace, Yes, No, Length, Id, Unmapped}
use Rattle.credentials.specs.declared.own.OwnIds.{OwnIds}
use Rattle.credentials.specs.Calls.{group_list}
use Rattle.credentials.specs.OwnReply.{ids_list}
use Rattle.calls.specs.declared.Response.{Response}
use Rattle.calls.specs.declared.Response.TheVariants.{Plain, Own}
use Rattle.calls.specs.Calls.{Step, call_reply, ids_held, listed_ids, CallPromise}
use Rattle.exports.specs.Codes.{code_of, ids_row, own_width}
use Rattle.exports.specs.Replay.{ids_after, response_code, response_ids, CodedStep}

-- ---- a row that takes the place of a whole array is put at its start
pub put_whole : (l vs : List ℕ) → length vs ≡ length l → vs ≡ put_at l 0 vs
put_whole l vs e = sym (put_inside l 0 vs (omega arith) ∙ rw (drop_of_length-le l {i = 0 + length vs} (omega arith)) (append-nil vs))

-- ---- own IDs, in a response that has no others than its reply lists
-- places past the last are 0
past_last : (n j : ℕ) → ◌≡◌ {A = ℕ} (get_or (replicate n 0) j 0) 0
past_last zero j = refl
past_last (suc n) zero = refl
past_last (suc n) (suc j) = past_last n j

padded : (xs : List ℕ) (n j : ℕ) → get_or (xs ++ replicate n 0) j 0 ≡ get_or xs j 0
padded [] n j = past_last n j
padded (x ∷ xs) n zero = refl
padded (x ∷ xs) n (suc j) = padded xs n j

-- own IDs that are those that they list
abbrev Listed : OwnIds → Type 0
Listed o = o ≡ listed_ids (ids (ids_list o))

abbrev groups_in : OwnIds → List ℕ
groups_in o = take o.supplementary.count o.supplementary.ids

own_count : (o : OwnIds) → Listed o → o.supplementary.count ≡ length (groups_in o)
unfolding group_list
own_count o e = ap (λ (x : OwnIds). x.supplementary.count) e

own_places : (o : OwnIds) → Listed o → o.supplementary.ids ≡ groups_in o ++ replicate (max_groups - length (groups_in o)) 0
unfolding group_list
own_places o e = ap (λ (x : OwnIds). x.supplementary.ids) e

own_row : (o : OwnIds) → Listed o → ids_row o ≡ tab (λ (j : ℕ). get_or (ids_list o) j 0) own_width 0
own_row o e =
    ap (λ (l : List ℕ). o.users.real ∷ o.users.effective ∷ o.users.saved ∷ o.groups.real ∷ o.groups.effective ∷ o.groups.saved ∷ l)
    (tab_same (λ (j : ℕ). get_or o.supplementary.ids j 0) (λ (j : ℕ). get_or (groups_in o) j 0) max_groups 0
    (λ j. ap (λ (l : List ℕ). get_or l j 0) (own_places o e) ∙ padded (groups_in o) (max_groups - length (groups_in o)) j))

abbrev Whole : Result Response Errno → Type 0
Whole r = ids_held r ≡ listed_ids (call_reply r)

response_code_lem : (r : Result Response Errno) → Whole r → response_code r ≡ code_of (call_reply r)
response_code_lem (Err e) w = refl
response_code_lem (Ok (Plain a)) w = refl
response_code_lem (Ok (Own o)) w = let k = own_count o w in omega (arith, k)

response_ids_lem : (r : Result Response Errno) (l : List ℕ) → Whole r → response_ids r l ≡ ids_after (call_reply r) l
response_ids_lem (Err x) l w = refl
response_ids_lem (Ok (Plain Done)) l w = refl
response_ids_lem (Ok (Plain (Child p))) l w = refl
response_ids_lem (Ok (Plain (ChildIn p n))) l w = refl
response_ids_lem (Ok (Plain (NewNamespace n))) l w = refl
response_ids_lem (Ok (Plain Yes)) l w = refl
response_ids_lem (Ok (Plain No)) l w = refl
response_ids_lem (Ok (Plain (Length n))) l w = refl
response_ids_lem (Ok (Plain (Id x))) l w = refl
response_ids_lem (Ok (Plain Unmapped)) l w = refl
response_ids_lem (Ok (Own o)) l w = ap (put_at l 0) (own_row o w)

-- ---- the step
module _ (r : Result Response Errno) (entry exit after : List ℕ) (o : Step) (p : CallPromise r entry exit after o) where
  reply_is : call_reply r ≡ o.reply
  reply_is = ap (λ (x : Step). x.reply) p.outcome

  whole : Whole r
  whole = p.whole ∙ ap listed_ids (sym reply_is)

  pub step_coded : (code : ℕ) → code ≡ response_code r → CodedStep code entry exit after o
  step_coded code e = record {
    answer = e ∙ response_code_lem r whole ∙ ap code_of reply_is;
    tables = ap (λ (x : Step). x.tables) p.outcome;
    buffer = ap (λ (x : Step). x.buffer) p.outcome;
    kept = λ t. p.kept (ap is_refused reply_is ∙ t);
  }

  pub step_ids : (l l' : List ℕ) → l' ≡ response_ids r l → l' ≡ ids_after o.reply l
  step_ids l l' e = e ∙ response_ids_lem r l whole ∙ ap (λ (x : Reply). ids_after x l) reply_is
