-- The theorem over every list of calls: demand 3, entire. Assumes nothing.
use Rattle.std.specs.Prelude.{Option, Some, None}
use Prim.Native.Nat.{ℕ, ◌<◌, ◌^◌}
use mathlib.Core.Path.{◌≡◌, refl, sym, ap, ◌∙◌, subst}
use mathlib.Core.Bool.{true≢false}
use mathlib.Core.List.{List, [], ◌∷◌, ◌++◌}
use mathlib.Core.Logic.{◌↔◌}
use native.Mathlib.Omega.{arith}
use Rattle.idmap.proofs.Translation.{two_answers}
use Rattle.records.specs.declared.Kind.{Kind}
use Rattle.tables.specs.Tables.{State, initial_tables}
use Rattle.tables.specs.Find.{namespace_named, caller_named}
use Rattle.tables.specs.Reply.{Reply, id, unmapped}
use Rattle.hierarchy.specs.Walks.{Translation}
use Rattle.credentials.specs.Calls.{turned, translated, translate_reply}
use Rattle.credentials.specs.declared.translate.Way.{Way}
use Rattle.credentials.specs.declared.translate.Way.TheVariants.{Out, Back}
use Rattle.calls.specs.declared.Call.{Call}
use Rattle.calls.specs.declared.Call.TheVariants.{Fork, Clone, Unshare, Setns, WriteMap, WriteSetgroups, ReadMap, ReadSetgroups, SetIds, SetGroups, Capable, Drop, OwnIdsOf, Translate}
use Rattle.calls.specs.Calls.{Request, answer_by}
use Rattle.claims.specs.Events.{Event}
use Rattle.claims.specs.Words.{place_of, parent_of, written_lines}
use Rattle.claims.specs.Translation.{Pairs, top, through, by_levels}
use Rattle.claims.specs.TopLevel.{TopLevel, IsUnder, OutOf, Stands, OnParentSide}
use Rattle.claims.specs.History.{Entry, entry_of, step_of, run_from, history_from, run, history, AllSmall, CallFits, Fits, AllFit, happened_by, events}
use Rattle.claims.specs.Holds.{Answers, TranslatesTo, TranslatesBy, Translates, Holds}
use Rattle.claims.specs.Agreement.{Agreed}
use Rattle.claims.proofs.Beside.{Beside}
use Rattle.claims.proofs.Allowed.{Valid, SoundAt, sound}
use Rattle.claims.proofs.HistoryLevels.{stands_is, is_stands, returns_is, is_returns, out_once, back_once, one_to_one, out_back, back_out, passes}
use Rattle.claims.proofs.Stays.{stays, still_top}
use Rattle.claims.proofs.Carried.{carried}
use Rattle.claims.proofs.Stores.{space_named}
use Rattle.claims.proofs.Translating.{by_history, levels_history}
use Rattle.claims.proofs.Steps.{Next, nothing_happened, fork_next, clone_next, unshare_next, setns_next}
use Rattle.claims.proofs.Cases.{found_case}
use Rattle.claims.proofs.FileSteps.{write_map_next, write_setgroups_next}
use Rattle.claims.proofs.IdSteps.{set_ids_next, set_groups_next, drop_next}
use Rattle.claims.proofs.Start.{start_agrees, start_beside}

-- ---- one call
module _ (by : Translation) (s : State) (h : List Event) (a : Agreed s h) (b : Beside s h) (d : SoundAt h) (u : by ≡ by_history h) (text list buffer : List ℕ) where
  -- its tables agree with the history that it lengthens, and it was allowed
  call_next : (c : Call) → CallFits c → AllSmall list → Next h (happened_by c text list (answer_by by s c text list buffer).reply) (answer_by by s c text list buffer).tables
  unfolding answer_by
  call_next (Fork c) f l = fork_next by s h a b d text list c
  call_next (Clone c) f l = clone_next by s h a b d text list c
  call_next (Unshare c) f l = unshare_next by s h a b d text list c
  call_next (Setns c n) f l = setns_next by s h a b d text list c n
  call_next (WriteMap k c p) f l = write_map_next by s h a b d u text list k c p
  call_next (WriteSetgroups c p) f l = write_setgroups_next by s h a b d u text list c p
  call_next (ReadMap k c p) f l = nothing_happened s h a b
  call_next (ReadSetgroups c p) f l = nothing_happened s h a b
  call_next (SetIds k c i) f l = set_ids_next by s h a b u text list k c i f.0 f.1 f.2
  call_next (SetGroups c) f l = set_groups_next by s h a b u text list c l
  call_next (Capable c n number) f l = nothing_happened s h a b
  call_next (Drop c p e) f l = drop_next by s h a b u text list c p e
  call_next (OwnIdsOf c) f l = nothing_happened s h a b
  call_next (Translate k w c n x) f l = nothing_happened s h a b

-- ---- translate
no_reply : {x : ℕ} → id x ≡ unmapped → ⊥
no_reply e = let z : ◌≡◌ {A = ℕ} 0 1 = cc in omega arith

-- an answer says what the translation has
answers : (t : Option ℕ) (R : ℕ → Type 0) → ((y : ℕ) → (t ≡ Some y) ↔ R y) → Answers (translated t) R
answers (Some x) R f r = (
  (λ y. ((λ e. let g : x ≡ y = cc in (f y).0 (ap Some g)), (λ q. let g : Some x ≡ Some y = (f y).1 q in let i : x ≡ y = cc in ap id i))),
  ((λ e. absurd (no_reply e)), (λ g. absurd (g x ((f x).0 refl)))),
)
answers None R f r =
    ((λ y. ((λ e. absurd (no_reply (sym e))), (λ q. absurd (two_answers ((f y).1 q))))), ((λ e y q. two_answers ((f y).1 q)), (λ g. refl)))

module _ (by : Translation) (s : State) (h : List Event) (d : SoundAt h) (u : by ≡ by_history h) where
  -- what the tables translate to is what the history does
  pub by_history_lem : (k : Kind) (w : Way) (n x : ℕ) → x < 2 ^ 32 → (y : ℕ) → (turned by k w n x ≡ Some y) ↔ TranslatesTo h k w n x y
  by_history_lem k Out n x small y = (
    (λ e. stands_is h d k n x y small (sym ((λ i. (u i).out k n x)) ∙ e)),
    (λ o. (λ i. (u i).out k n x) ∙ is_stands h d k n x y o),
  )
  by_history_lem k Back n x small y = (
    (λ e. returns_is h d k n x y small (sym ((λ i. (u i).back k n x)) ∙ e)),
    (λ o. (λ i. (u i).back k n x) ∙ is_returns h d k n x y o),
  )

  translate_answers : (k : Kind) (w : Way) (c name x : ℕ) → x < 2 ^ 32 → Answers (translate_reply by s k w c name x) (TranslatesTo h k w name x)
  unfolding translate_reply
  translate_answers k w c name x small =
      found_case (λ (r : Reply). Answers r (TranslatesTo h k w name x)) (caller_named s c) (λ t. absurd (true≢false t)) (λ i e.
      found_case (λ (r : Reply). Answers r (TranslatesTo h k w name x)) (namespace_named s i name) (λ t. absurd (true≢false t)) (λ n f.
      subst (λ (m : ℕ). Answers (translated (turned by k w n x)) (TranslatesTo h k w m x)) (sym (space_named s i name n f).0)
      (answers (turned by k w n x) (TranslatesTo h k w n x) (by_history_lem k w n x small))))

  call_translates : (c : Call) (text list buffer : List ℕ) → CallFits c → TranslatesBy h c (answer_by by s c text list buffer).reply
  unfolding answer_by
  call_translates (Fork c) text list buffer f = tt
  call_translates (Clone c) text list buffer f = tt
  call_translates (Unshare c) text list buffer f = tt
  call_translates (Setns c n) text list buffer f = tt
  call_translates (WriteMap k c p) text list buffer f = tt
  call_translates (WriteSetgroups c p) text list buffer f = tt
  call_translates (ReadMap k c p) text list buffer f = tt
  call_translates (ReadSetgroups c p) text list buffer f = tt
  call_translates (SetIds k c i) text list buffer f = tt
  call_translates (SetGroups c) text list buffer f = tt
  call_translates (Capable c n number) text list buffer f = tt
  call_translates (Drop c p e) text list buffer f = tt
  call_translates (OwnIdsOf c) text list buffer f = tt
  call_translates (Translate k w c n x) text list buffer f = translate_answers k w c n x f

-- ---- lists of calls
AllTranslate : List Entry → Type 0
AllTranslate [] = Unit {0}
AllTranslate (e ∷ h) = Translates (events h) e × AllTranslate h

-- tables that a list of calls leaves, with its history
pub record Reached (s : State) (h : List Entry) : Type 0 where
  pub agree : Agreed s (events h)
  pub beside : Beside s (events h)
  pub valid : Valid (events h)
  all_translate : AllTranslate h

pub start : Reached initial_tables []
unfolding Valid AllTranslate
start = record { agree = start_agrees; beside = start_beside; valid = tt; all_translate = tt }

pub step : (s : State) (h : List Entry) (r : Request) → Fits r → Reached s h → Reached (step_of by_levels s r).tables (entry_of r (step_of by_levels s r) ∷ h)
unfolding Valid AllTranslate
step s h r f a =
    let d = sound (events h) a.valid in
    let u = levels_history s (events h) a.agree d in
    let n = call_next (by_levels s) s (events h) a.agree a.beside d u r.text r.list r.buffer r.call f.0 f.1 in
    record {
      agree = n.agree;
      beside = n.beside;
      valid = (n.allowed, a.valid);
      all_translate = (call_translates (by_levels s) s (events h) d u r.call r.text r.list r.buffer f.0, a.all_translate);
    }

steps : (s : State) (h : List Entry) (rs : List Request) → AllFit rs → Reached s h → Reached (run_from by_levels s rs) (history_from by_levels s h rs)
unfolding AllFit run_from history_from
steps s h [] f a = a
steps s h (r ∷ rs) f a = steps (step_of by_levels s r).tables (entry_of r (step_of by_levels s r) ∷ h) rs f.1 (step s h r f.0 a)

pub reached : (rs : List Request) → AllFit rs → Reached (run rs) (history rs)
reached rs f = steps initial_tables [] rs f start

-- ---- the fields
some_translate : (new old : List Entry) (e : Entry) → AllTranslate (new ++ (e ∷ old)) → Translates (events old) e
unfolding AllTranslate
some_translate [] old e a = a.0
some_translate (x ∷ new) old e a = some_translate new old e a.1

-- what is mapped in a top-level namespace is on the parent side of its map
on_parent_side : (k : Kind) (h : List Event) (b : ℕ) → TopLevel h b → (y : ℕ) → Stands k h b y → OnParentSide (written_lines k h b) y
on_parent_side k h b (t, f, r) y (x, top e g i) = absurd (f e)
on_parent_side k h b (t, f, r) y (x, through e z p o) = (x, subst (λ (m : ℕ). Pairs (written_lines k h b) x m) (at_root (parent_of h b) z y r o) p)
  where
    at_root : (n z y : ℕ) → n ≡ 0 → OutOf k h n z y → z ≡ y
    at_root n z y q (top e g i) = g
    at_root n z y q (through e w p o) = absurd (e q)

apart : (k : Kind) (h : List Event) → SoundAt h → (a b : ℕ) → TopLevel h a → TopLevel h b
    → ((y : ℕ) → OnParentSide (written_lines k h a) y → OnParentSide (written_lines k h b) y → ⊥)
    → (m n y : ℕ) → IsUnder h a m → IsUnder h b n → Stands k h m y → Stands k h n y → ⊥
apart k h d a b t t' f m n y u v (x, o) (x', o') =
    f y
    (on_parent_side k h a t y (passes h d k a m x y u o))
    (on_parent_side k h b t' y (passes h d k b n x' y v o'))

-- demand 3. The IDs of the calls are 32-bit, as the interface's types have it; nothing else is asked of the list
pub theorem : (rs : List Request) → AllFit rs → Holds rs
theorem rs f =
    let h = events (history rs) in
    let r = reached rs f in
    let d = sound h r.valid in
    record {
      tables_agree = r.agree;
      numbered = d.no_zero;
      translates = λ new old e q. some_translate new old e (subst AllTranslate q r.all_translate);
      looked_up = λ k n x y small. (stands_is h d k n x y small, is_stands h d k n x y);
      one_to_one = one_to_one h d;
      out_once = out_once h d;
      back_once = back_once h d;
      out_back = out_back h d;
      back_out = back_out h d;
      disjoint = λ k a b e t u g. apart k h d a b t u g;
      stays = λ new old q p b t l u.
          let v = subst Valid q r.valid in
          subst (λ (g : List Event). TopLevel g b × IsUnder g b (place_of g p)) (sym q) (still_top new old v b l, stays new old v p b t u);
      carried = λ k. carried k h r.valid;
    }
