-- ID changes, setgroups and drop: what each leaves agrees with its history, and it was allowed. Assumes nothing.
use Rattle.std.specs.Prelude.{Option, Some, None}
use Prim.Native.Nat.{ℕ, suc, ◌-◌, ◌≤◌, ◌<◌, ◌^◌}
use mathlib.Core.Path.{◌≡◌, refl, sym, ap, ◌∙◌, subst}
use mathlib.Core.Bool.{Bool, true, false, cond, ◌&&◌}
use mathlib.Core.List.{List, [], ◌∷◌, map}
use lib.Dec.{eqb}
use lib.ListN.{length, take, replicate}
use lib.Seq.{take-append_seam}
use borrow.Author.Tests.{eqb-true, ltb-false}
use Rattle.prelude.specs.Lists.{all_of}
use Rattle.prelude.proofs.Made.{cons_some, some_none}
use Rattle.idmap.specs.Lookup.{or_no_id}
use Rattle.records.specs.declared.Kind.{Kind}
use Rattle.records.specs.declared.Kind.TheVariants.{User, Group}
use Rattle.records.specs.declared.Ids.{Ids}
use Rattle.records.specs.declared.GroupList.{GroupList}
use Rattle.records.specs.declared.Process.{Process}
use Rattle.records.specs.Records.{ids_in, max_groups}
use Rattle.tables.specs.Tables.{State, process_at, put_process}
use Rattle.tables.specs.Find.{caller_named}
use Rattle.hierarchy.specs.Walks.{Translation}
use Rattle.credentials.specs.Calls.{chosen, with_users, with_groups, with_ids, set_ids_of, group_list, with_list, kernel_groups, set_groups_of, with_sets, drop_of}
use Rattle.calls.specs.declared.Call.TheVariants.{SetIds, SetGroups, Drop}
use Rattle.claims.specs.Events.{Event, changed, grouped}
use Rattle.claims.specs.Words.{Held, is_process, is_namespace, place_of, parent_of, level_of, written_of, held_of, stands_for, chosen_of, changed_ids, same_kind}
use Rattle.claims.specs.History.{AllSmall}
use Rattle.claims.specs.Agreement.{supplementary_in, held_in, Agreed}
use Rattle.claims.proofs.Beside.{Beside, keeps_beside}
use Rattle.claims.proofs.Allowed.{AllStand}
use Rattle.claims.proofs.Stores.{cond_ap, named, process_in_range, same_number}
use Rattle.claims.proofs.Agree.{picked_same, stores_process, keeps_process, caller_is, caller_live, caller_place, caller_ids}
use Rattle.claims.proofs.Translating.{by_history}
use Rattle.claims.proofs.Sound.{same_kind_lem}
use Rattle.prelude.proofs.Tests.{by_test, and_right}
use Rattle.claims.proofs.Steps.{Next, nothing_happened, After}
use Rattle.claims.proofs.Cases.{set_ids_case, set_groups_case, drop_case}

-- ---- a process with other IDs is as before otherwise
ids_live : (by : Translation) (k : Kind) (p : Process) (new : Ids) → (with_ids by k p new).live ≡ p.live
unfolding with_users with_groups
ids_live by User p new = refl
ids_live by Group p new = refl

ids_place : (by : Translation) (k : Kind) (p : Process) (new : Ids) → (with_ids by k p new).namespace ≡ p.namespace
unfolding with_users with_groups
ids_place by User p new = refl
ids_place by Group p new = refl

ids_groups : (by : Translation) (k : Kind) (p : Process) (new : Ids) → (with_ids by k p new).supplementary ≡ p.supplementary
unfolding with_users with_groups
ids_groups by User p new = refl
ids_groups by Group p new = refl

-- as many groups, whatever a test picks
same_supplementary : (t : Bool) (three : Ids) (ids : List ℕ) (m : Held) → (t ≡ true → ids ≡ m.supplementary) → length (cond t (record { three = three; supplementary = ids }) m).supplementary ≡ length m.supplementary
same_supplementary true three ids m e = ap length (e refl)
same_supplementary false three ids m e = refl

-- what it carries: the new IDs of that kind
ids_held : (j k : Kind) (by : Translation) (p : Process) (new : Ids) → held_in j (with_ids by k p new) ≡ cond (same_kind j k) (record { three = new; supplementary = supplementary_in j p }) (held_in j p)
unfolding with_users with_groups
ids_held User User by p new = refl
ids_held User Group by p new = refl
ids_held Group User by p new = refl
ids_held Group Group by p new = refl

sets_ids : (k : Kind) (p : Process) (permitted effective : ℕ) → held_in k (with_sets p permitted effective) ≡ held_in k p
unfolding with_sets
sets_ids User p permitted effective = refl
sets_ids Group p permitted effective = refl

-- ---- the groups of a list, each mapped
groups_are : (g : ℕ → Option ℕ) (list l : List ℕ) → all_of g list ≡ Some l → l ≡ map (λ (x : ℕ). or_no_id (g x)) list
unfolding all_of
groups_are g [] l e = cc
groups_are g (x ∷ list) l e =
    let r = cons_some (g x) (all_of g list) l e in
    r.4
    ∙ ap (λ (y : ℕ). y ∷ r.1) (sym (ap or_no_id r.2))
    ∙ ap (λ (ys : List ℕ). or_no_id (g x) ∷ ys) (groups_are g list r.1 r.3)

groups_stand : (h : List Event) (n : ℕ) (list l : List ℕ) → AllSmall list → all_of (stands_for Group h n) list ≡ Some l → AllStand h n list
unfolding all_of AllSmall AllStand
groups_stand h n [] l b e = tt
groups_stand h n (x ∷ list) l b e =
    let r = cons_some (stands_for Group h n x) (all_of (stands_for Group h n) list) l e in
    (b.0, (r.0, r.2), groups_stand h n list r.1 b.1 r.3)

module _ (by : Translation) (s : State) (h : List Event) (a : Agreed s h) (b : Beside s h) (o : by ≡ by_history h) (text list : List ℕ) where
  outs : (k : Kind) (n x : ℕ) → by.out k n x ≡ stands_for k h n x
  outs k n x = λ j. (o j).out k n x

  module _ (c i : ℕ) (e : caller_named s c ≡ Some i) where
    -- one of the three: the tables choose as the history does
    chosen_agrees : (k : Kind) (x old old' : ℕ) → old ≡ old' → chosen by k (process_at s i).namespace x old ≡ chosen_of k h (place_of h c) x old'
    chosen_agrees k x old old' f = rw (f, outs k (process_at s i).namespace x, caller_place s h a c i e)

    real_is : (k : Kind) → (ids_in k (process_at s i)).real ≡ (held_of k h c).three.real
    real_is k = ap (λ (m : Held). m.three.real) (caller_ids s h a c i e k)

    effective_is : (k : Kind) → (ids_in k (process_at s i)).effective ≡ (held_of k h c).three.effective
    effective_is k = ap (λ (m : Held). m.three.effective) (caller_ids s h a c i e k)

    saved_is : (k : Kind) → (ids_in k (process_at s i)).saved ≡ (held_of k h c).three.saved
    saved_is k = ap (λ (m : Held). m.three.saved) (caller_ids s h a c i e k)

    module _ (k : Kind) (new : Ids) (x y z : ℕ)
        (fx : chosen by k (process_at s i).namespace new.real (ids_in k (process_at s i)).real ≡ Some x)
        (fy : chosen by k (process_at s i).namespace new.effective (ids_in k (process_at s i)).effective ≡ Some y)
        (fz : chosen by k (process_at s i).namespace new.saved (ids_in k (process_at s i)).saved ≡ Some z) where
      abbrev after : Ids
      after = record { real = x; effective = y; saved = z }

      stands_x : chosen_of k h (place_of h c) new.real (held_of k h c).three.real ≡ Some x
      stands_x = sym (chosen_agrees k new.real _ _ (real_is k)) ∙ fx

      stands_y : chosen_of k h (place_of h c) new.effective (held_of k h c).three.effective ≡ Some y
      stands_y = sym (chosen_agrees k new.effective _ _ (effective_is k)) ∙ fy

      stands_z : chosen_of k h (place_of h c) new.saved (held_of k h c).three.saved ≡ Some z
      stands_z = sym (chosen_agrees k new.saved _ _ (saved_is k)) ∙ fz

      changed_is : changed_ids k h (place_of h c) new (held_of k h c).three ≡ after
      changed_is = rw (stands_x, stands_y, stands_z)

      supplementary_is : supplementary_in k (process_at s i) ≡ (held_of k h c).supplementary
      supplementary_is = ap (λ (m : Held). m.supplementary) (caller_ids s h a c i e k)

      held_is : ◌≡◌ {A = Held} (record { three = after; supplementary = supplementary_in k (process_at s i) }) (record { three = changed_ids k h (place_of h c) new (held_of k h c).three; supplementary = (held_of k h c).supplementary })
      held_is = rw (changed_is, supplementary_is)

      held_after : (j : Kind) (m : ℕ) → cond (eqb m i) (held_in j (with_ids by k (process_at s i) after)) (held_of j h (suc m))
          ≡ cond (same_kind j k && eqb (suc m) c) (record { three = changed_ids j h (place_of h c) new (held_of j h c).three; supplementary = (held_of j h c).supplementary }) (held_of j h (suc m))
      held_after j m =
          by_test (same_kind j k)
          (λ t.
          let f = subst (λ (r : Kind). ◌≡◌ {A = Held} (record { three = after; supplementary = supplementary_in r (process_at s i) }) (record { three = changed_ids r h (place_of h c) new (held_of r h c).three; supplementary = (held_of r h c).supplementary })) (sym (same_kind_lem j k t)) held_is in
          rw (ids_held j k by (process_at s i) after, t, same_number m c i (caller_is s h a c i e), f))
          (λ t. rw (ids_held j k by (process_at s i) after, t) (picked_same (λ (r : ℕ). held_of j h (suc r)) m i (held_in j (process_at s i)) (a.process_ids j i)))

      -- the groups are as they were
      count_after : (m : ℕ) → cond (eqb m i) (with_ids by k (process_at s i) after).supplementary.count (length (held_of Group h (suc m)).supplementary)
          ≡ length (cond (same_kind Group k && eqb (suc m) c) (record { three = changed_ids Group h (place_of h c) new (held_of Group h c).three; supplementary = (held_of Group h c).supplementary }) (held_of Group h (suc m))).supplementary
      count_after m =
          picked_same (λ (r : ℕ). length (held_of Group h (suc r)).supplementary) m i _ (ap (λ (g : GroupList). g.count) (ids_groups by k (process_at s i) after) ∙ a.process_count i)
          ∙ sym (same_supplementary (same_kind Group k && eqb (suc m) c) _ _ _ (λ t. ap (λ (r : ℕ). (held_of Group h r).supplementary) (sym (eqb-true (suc m) c (and_right (same_kind Group k) (eqb (suc m) c) t)))))

      changed_next : new.real < 2 ^ 32 → new.effective < 2 ^ 32 → new.saved < 2 ^ 32 → Next h (changed k c new) (put_process s i (with_ids by k (process_at s i) after))
      unfolding is_process is_namespace place_of parent_of level_of written_of held_of
      changed_next u v w = record {
        agree = stores_process s _ _ _ _ _ _ _ a i (with_ids by k (process_at s i) after) (process_in_range s i (named s c i e).1) _ _ _
            (λ m. picked_same (λ (r : ℕ). is_process h (suc r)) m i _ (ids_live by k (process_at s i) after ∙ a.process_live i))
            (λ m. picked_same (λ (r : ℕ). place_of h (suc r)) m i _ (ids_place by k (process_at s i) after ∙ a.process_place i))
            held_after
            count_after;
        beside = keeps_beside s h b _ _;
        allowed = record {
          caller = caller_live s h a c i e;
          real = record { small = u; given = x; stands = stands_x };
          effective = record { small = v; given = y; stands = stands_y };
          saved = record { small = w; given = z; stands = stands_z };
        };
      }

  pub set_ids_next : (k : Kind) (c : ℕ) (new : Ids) → new.real < 2 ^ 32 → new.effective < 2 ^ 32 → new.saved < 2 ^ 32 → After h (SetIds k c new) text list (set_ids_of by s k c new.real new.effective new.saved)
  set_ids_next k c new u v w =
      set_ids_case by s (After h (SetIds k c new) text list) (λ e i. nothing_happened s h a b) k c new
      (λ i x y z e fx fy fz. changed_next c i e k new x y z fx fy fz u v w)

  -- ---- drop
  pub drop_next : (c permitted effective : ℕ) → After h (Drop c permitted effective) text list (drop_of s c permitted effective)
  unfolding with_sets
  drop_next c permitted effective =
      drop_case by s (After h (Drop c permitted effective) text list) (λ e i. nothing_happened s h a b) c permitted effective (λ i e.
      nothing_happened _ h
      (keeps_process s _ _ _ _ _ _ _ a i (with_sets (process_at s i) permitted effective) (process_in_range s i (named s c i e).1) refl refl
      (λ k. sets_ids k (process_at s i) permitted effective) refl)
      (keeps_beside s h b _ _))

  -- ---- setgroups
  module _ (c i : ℕ) (e : caller_named s c ≡ Some i) (l : List ℕ) (f : kernel_groups by (process_at s i).namespace list ≡ Some l) where
    all_stand : all_of (stands_for Group h (place_of h c)) list ≡ Some l
    unfolding kernel_groups
    all_stand =
        ap (λ (g : ℕ → Option ℕ). all_of g list) (λ j x. (sym (ap (λ (n : ℕ). stands_for Group h n x) (caller_place s h a c i e)) ∙ sym (outs Group (process_at s i).namespace x)) j)
        ∙ f

    listed : take (group_list l).count (group_list l).ids ≡ map (λ (x : ℕ). or_no_id (stands_for Group h (place_of h c) x)) list
    unfolding group_list
    listed = take-append_seam l (replicate (max_groups - length l) 0) ∙ groups_are (stands_for Group h (place_of h c)) list l all_stand

    groups_after : (k : Kind) (m : ℕ) → cond (eqb m i) (held_in k (with_list (process_at s i) (group_list l))) (held_of k h (suc m))
        ≡ cond (same_kind k Group && eqb (suc m) c) (record { three = (held_of k h c).three; supplementary = map (λ (x : ℕ). or_no_id (stands_for Group h (place_of h c) x)) list }) (held_of k h (suc m))
    unfolding with_list
    groups_after User m = picked_same (λ (r : ℕ). held_of User h (suc r)) m i (held_in User (process_at s i)) (a.process_ids User i)
    groups_after Group m =
        let g : ids_in Group (process_at s i) ≡ (held_of Group h c).three = ap (λ (r : Held). r.three) (caller_ids s h a c i e Group) in
        rw (same_number m c i (caller_is s h a c i e), listed, g)

    group_count : (m : ℕ) → cond (eqb m i) (group_list l).count (length (held_of Group h (suc m)).supplementary)
        ≡ length (cond (eqb (suc m) c) (record { three = (held_of Group h c).three; supplementary = map (λ (x : ℕ). or_no_id (stands_for Group h (place_of h c) x)) list }) (held_of Group h (suc m))).supplementary
    unfolding group_list
    group_count m =
        rw (same_number m c i (caller_is s h a c i e), groups_are (stands_for Group h (place_of h c)) list l all_stand)
        (sym (cond_ap (λ (r : Held). length r.supplementary) (eqb m i) _ (held_of Group h (suc m))))

    grouped_next : AllSmall list → length list ≤ max_groups → Next h (grouped c list) (put_process s i (with_list (process_at s i) (group_list l)))
    unfolding is_process is_namespace place_of parent_of level_of written_of held_of with_list
    grouped_next f few = record {
      agree = stores_process s _ _ _ _ _ _ _ a i (with_list (process_at s i) (group_list l)) (process_in_range s i (named s c i e).1) _ _ _
          (λ m. picked_same (λ (r : ℕ). is_process h (suc r)) m i _ (a.process_live i))
          (λ m. picked_same (λ (r : ℕ). place_of h (suc r)) m i _ (a.process_place i))
          groups_after
          group_count;
      beside = keeps_beside s h b _ _;
      allowed = record { caller = caller_live s h a c i e; few = few; each = groups_stand h (place_of h c) list l f all_stand };
    }

  pub set_groups_next : (c : ℕ) → AllSmall list → After h (SetGroups c) text list (set_groups_of by s c list)
  set_groups_next c f =
      set_groups_case by s (After h (SetGroups c) text list) (λ e i. nothing_happened s h a b) c list (λ i l e w g. grouped_next c i e l g f (ltb-false max_groups (length list) w))
