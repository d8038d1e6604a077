-- The writes of the map files and of the setgroups file: what each leaves agrees with its history, and it was allowed.
-- Assumes nothing.
use Rattle.std.specs.Prelude.{Some, None, Option}
use Prim.Native.Nat.{ℕ, ◌-◌, ◌<◌}
use mathlib.Core.Path.{◌≡◌, refl, sym, ap, ◌∙◌, subst}
use mathlib.Core.Bool.{Bool, true, false, cond, ◌&&◌, true≢false}
use mathlib.Core.List.{List, [], ◌∷◌, ◌++◌, map}
use native.Mathlib.Omega.{arith}
use lib.Dec.{eqb}
use lib.ListN.{length, replicate}
use lib.Seq.{take-append_seam}
use borrow.Author.Tests.{eqb-true}
use Rattle.idmap.specs.declared.Line.{Line}
use Rattle.idmap.specs.Line.{no_line}
use Rattle.idmap.specs.Good.{max_lines, good_of}
use Rattle.idmap.specs.Lookup.{or_no_id}
use Rattle.idmap.specs.Ranges.{lies_whole}
use Rattle.idmap.specs.Text.{map_lines, padded}
use Rattle.records.specs.declared.MapState.{MapState}
use Rattle.records.specs.declared.MapState.TheVariants.{Unwritten, Written}
use Rattle.records.specs.declared.Kind.{Kind}
use Rattle.records.specs.declared.Kind.TheVariants.{User, Group}
use Rattle.records.specs.declared.Namespace.{Namespace}
use Rattle.records.specs.declared.IdMap.{IdMap}
use Rattle.records.specs.Records.{map_in, is_written, with_map, with_deny}
use Rattle.tables.specs.Tables.{State, process_at, namespace_at, starts_at, put_namespace, put_map}
use Rattle.tables.specs.Find.{caller_named}
use Rattle.hierarchy.specs.Walks.{Translation}
use Rattle.hierarchy.specs.KernelStarts.{kernel_starts}
use Rattle.idmap.proofs.Goodness.{good_first, good_others}
use Rattle.mapping.specs.Calls.{all_whole, written_map, mapped_tables, write_map_of, write_setgroups_of}
use Rattle.calls.specs.declared.Call.TheVariants.{WriteMap, WriteSetgroups}
use Rattle.claims.specs.Events.{Event, other, mapped}
use Rattle.claims.specs.Words.{is_process, is_namespace, place_of, parent_of, level_of, written_of, written_lines, stands_for, held_of, same_kind}
use Rattle.claims.specs.Agreement.{if_written, written_in, state_for, Agreed}
use Rattle.claims.specs.TopLevel.{OutOf}
use Rattle.claims.proofs.Allowed.{Maps, SoundAt}
use Rattle.claims.proofs.HistoryLevels.{is_stands}
use Rattle.claims.proofs.Kept.{out_kept}
use Rattle.claims.proofs.KernelStarts.{Started, started_kept, goes_out}
use Rattle.claims.proofs.Beside.{StartedAt, Beside, starts_kept, keeps_beside, stores_beside}
use Rattle.claims.proofs.Stores.{cond_ap, namespace_in_range}
use Rattle.claims.proofs.Agree.{picked_same, stores_namespace, keeps_tables, caller_live, caller_place}
use Rattle.claims.proofs.Sound.{Counted, map_lines_good, map_lines_counted, none_whole, same_kind_lem, deep}
use Rattle.prelude.proofs.Tests.{by_test, and_left, and_right}
use Rattle.claims.proofs.Steps.{Next, nothing_happened, After}
use Rattle.claims.proofs.Translating.{by_history}
use Rattle.claims.proofs.Cases.{write_map_case, write_setgroups_case}

-- ---- the parent starts of lines that lie whole in lines of namespace n stand for IDs, which the code keeps
starts_stand : (h : List Event) → SoundAt h → (k : Kind) (n : ℕ) (ls : List Line) (rest : List ℕ) → all_whole (lies_whole (written_lines k h n)) ls ≡ true → good_of ls ≡ true
    → Started (OutOf k h n) ls (map (λ (l : Line). or_no_id (stands_for k h n l.parent)) ls ++ rest)
unfolding Started all_whole
starts_stand h d k n [] rest w g = tt
starts_stand h d k n (l ∷ ls) rest w g =
    let first = lies_whole (written_lines k h n) l.parent l.count in
    let others = all_whole (lies_whole (written_lines k h n)) ls in
    let r = goes_out (parent_of h) (written_lines k h) (d.good k) (d.whole k) (level_of h) (deep _ _ _ _ _ _ d k) (level_of h n) n l.parent l.count (omega arith) (good_first l ls g).some (and_left first others w) in
    (rw (is_stands h d k n l.parent r.0 r.1) r.1, starts_stand h d k n ls rest (and_right first others w) (good_others l ls g))

-- ---- a namespace with a map, and with a setting
map_live : (k : Kind) (n : Namespace) (m : IdMap) → (with_map k n m).live ≡ n.live
unfolding with_map
map_live User n m = refl
map_live Group n m = refl

map_parent : (k : Kind) (n : Namespace) (m : IdMap) → (with_map k n m).parent ≡ n.parent
unfolding with_map
map_parent User n m = refl
map_parent Group n m = refl

map_level : (k : Kind) (n : Namespace) (m : IdMap) → (with_map k n m).level ≡ n.level
unfolding with_map
map_level User n m = refl
map_level Group n m = refl

deny_map : (k : Kind) (n : Namespace) (b : Bool) → map_in k (with_deny n b) ≡ map_in k n
unfolding with_deny
deny_map User n b = refl
deny_map Group n b = refl

-- a map that is written with lines has them
written_lines_lem : (ls : List Line) → written_in (written_map ls) ≡ Some ls
unfolding padded
written_lines_lem ls = ap Some (take-append_seam ls (replicate (max_lines - length ls) no_line))

-- the lines of a text are some
some_lines : (text : List ℕ) (ls : List Line) → map_lines text ≡ Some ls → 0 < length ls
some_lines text ls e = (subst Counted e (map_lines_counted text)).0

unwritten_is : (m : IdMap) → is_written m.state ≡ false → written_in m ≡ None
unwritten_is m e = by_state m.state e
  where
    by_state : (t : MapState) → is_written t ≡ false → if_written t m.lines ≡ None
    by_state Unwritten e = refl
    by_state (Written n) e = absurd (true≢false e)

module _ (by : Translation) (s : State) (h : List Event) (a : Agreed s h) (b : Beside s h) (d : SoundAt h) (o : by ≡ by_history h) (text list : List ℕ) where
  -- the namespace of a process that is named
  module _ (name p : ℕ) (e : caller_named s name ≡ Some p) where
    target : ℕ
    target = (process_at s p).namespace

    target_live : (namespace_at s (process_at s p).namespace).live ≡ true
    target_live = a.namespace_live (process_at s p).namespace ∙ rw (caller_place s h a name p e) (d.placed name (caller_live s h a name p e))

    -- the maps after a write: those of the other kind and of other namespaces are as they were
    maps_after : (j k : Kind) (ls : List Line) → map_lines text ≡ Some ls → (i : ℕ)
        → cond (eqb i (process_at s p).namespace) (written_in (map_in k (with_map j (namespace_at s (process_at s p).namespace) (written_map ls)))) (written_of k h i) ≡ cond (same_kind k j && eqb i (place_of h name)) (map_lines text) (written_of k h i)
    unfolding with_map
    maps_after User User ls m i = rw (caller_place s h a name p e, m, written_lines_lem ls)
    maps_after Group Group ls m i = rw (caller_place s h a name p e, m, written_lines_lem ls)
    maps_after User Group ls m i = picked_same (written_of Group h) i (process_at s p).namespace _ (a.namespace_map Group (process_at s p).namespace)
    maps_after Group User ls m i = picked_same (written_of User h) i (process_at s p).namespace _ (a.namespace_map User (process_at s p).namespace)

    states_after : (j k : Kind) (ls : List Line) → map_lines text ≡ Some ls → (i : ℕ)
        → cond (eqb i (process_at s p).namespace) (map_in k (with_map j (namespace_at s (process_at s p).namespace) (written_map ls))).state (state_for (written_of k h i)) ≡ state_for (cond (same_kind k j && eqb i (place_of h name)) (map_lines text) (written_of k h i))
    unfolding with_map
    states_after User User ls m i = rw (caller_place s h a name p e, m) (sym (cond_ap state_for (eqb i (place_of h name)) (Some ls) (written_of User h i)))
    states_after Group Group ls m i = rw (caller_place s h a name p e, m) (sym (cond_ap state_for (eqb i (place_of h name)) (Some ls) (written_of Group h i)))
    states_after User Group ls m i = picked_same (λ (n : ℕ). state_for (written_of Group h n)) i (process_at s p).namespace _ (a.namespace_state Group (process_at s p).namespace)
    states_after Group User ls m i = picked_same (λ (n : ℕ). state_for (written_of User h n)) i (process_at s p).namespace _ (a.namespace_state User (process_at s p).namespace)

    -- the namespace above is that of the history, and so are its lines and what its IDs stand for
    up_is : (namespace_at s (process_at s p).namespace).parent ≡ parent_of h (place_of h name)
    up_is = a.namespace_parent (process_at s p).namespace ∙ ap (parent_of h) (caller_place s h a name p e)

    above_is : (k : Kind) → by.whole k (namespace_at s (process_at s p).namespace).parent ≡ lies_whole (written_lines k h (parent_of h (place_of h name)))
    above_is k =
        (λ i. (o i).whole k (namespace_at s (process_at s p).namespace).parent) ∙ ap (λ (m : ℕ). lies_whole (written_lines k h m)) up_is

    out_is : (k : Kind) → by.out k (namespace_at s (process_at s p).namespace).parent ≡ stands_for k h (parent_of h (place_of h name))
    out_is k = (λ i. (o i).out k (namespace_at s (process_at s p).namespace).parent) ∙ ap (λ (m : ℕ). stands_for k h m) up_is

    module _ (k : Kind) (ls : List Line) (m : map_lines text ≡ Some ls) (w : is_written (map_in k (namespace_at s (process_at s p).namespace)).state ≡ false)
        (c : all_whole (by.whole k (namespace_at s (process_at s p).namespace).parent) ls ≡ true) where
      all_whole_lem : all_whole (lies_whole (written_lines k h (parent_of h (place_of h name)))) ls ≡ true
      all_whole_lem = rw (above_is k) at c

      allowed : Maps h k name text
      allowed = record {
        process = caller_live s h a name p e;
        unwritten = rw (← caller_place s h a name p e) (sym (a.namespace_map k (process_at s p).namespace) ∙ unwritten_is (map_in k (namespace_at s (process_at s p).namespace)) w);
        parent_written = λ q. let z = some_lines text ls m in let n : length ls ≡ 0 = ap length (none_whole ls (rw q at all_whole_lem)) in omega arith;
        whole = rw m all_whole_lem;
      }

      abbrev starts : List ℕ
      starts = kernel_starts (by.out k (namespace_at s (process_at s p).namespace).parent) ls

      -- the new lines' parent starts stand for IDs
      new_starts : Started (OutOf k (mapped k name text ∷ h) (parent_of (mapped k name text ∷ h) (place_of h name))) ls starts
      unfolding kernel_starts parent_of
      new_starts =
          let up = parent_of h (place_of h name) in
          started_kept (OutOf k h up) _ (λ x y r. out_kept (mapped k name text) h allowed d k up x y r) ls _
          (rw (out_is k) (starts_stand h d k up ls (replicate (max_lines - length ls) 0) all_whole_lem (rw m at (map_lines_good text))))

      -- those of the other kind and of other namespaces are kept
      starts_after : (j : Kind) (i : ℕ) → StartedAt (mapped k name text ∷ h) j i (cond (same_kind j k && eqb i (place_of h name)) starts (starts_at s j i))
      unfolding written_of
      starts_after j i =
          by_test (same_kind j k && eqb i (place_of h name))
          (λ t.
          let r = same_kind_lem j k (and_left (same_kind j k) (eqb i (place_of h name)) t) in
          let u = eqb-true i (place_of h name) (and_right (same_kind j k) (eqb i (place_of h name)) t) in
          rw (t, m) (subst (λ (v : Kind × ℕ). Started (OutOf v.0 (mapped k name text ∷ h) (parent_of (mapped k name text ∷ h) v.1)) ls starts) (λ z. (sym r z, sym u z)) new_starts))
          (λ t. rw t (starts_kept (mapped k name text) h allowed d j i (starts_at s j i) (b.started j i)))

      mapped_next : Next h (mapped k name text) (mapped_tables by s k (process_at s p).namespace ls)
      unfolding mapped_tables put_map starts_at is_process is_namespace place_of parent_of level_of written_of held_of
      mapped_next =
          let n = (process_at s p).namespace in
          let new = with_map k (namespace_at s n) (written_map ls) in
          let there = namespace_in_range s n target_live in
          record {
            agree = keeps_tables (put_namespace s n new) _ _ _ _ _ _ _
                (stores_namespace s _ _ _ _ _ _ _ a n new there _ _ _ _
                (λ i. picked_same (is_namespace h) i n _ (map_live k (namespace_at s n) (written_map ls) ∙ a.namespace_live n))
                (λ i. picked_same (parent_of h) i n _ (map_parent k (namespace_at s n) (written_map ls) ∙ a.namespace_parent n))
                (λ i. picked_same (level_of h) i n _ (map_level k (namespace_at s n) (written_map ls) ∙ a.namespace_level n))
                (λ j i. maps_after k j ls m i)
                (λ j i. states_after k j ls m i))
                _ _;
            beside = stores_beside (put_namespace s n new) k n starts b.places (let q = a.namespaces_length in omega arith) (mapped k name text ∷ h)
                (λ j i. subst (λ (v : ℕ). StartedAt (mapped k name text ∷ h) j i (cond (same_kind j k && eqb i v) starts (starts_at s j i))) (sym (caller_place s h a name p e)) (starts_after j i));
            allowed = allowed;
          }

    -- a setting changes nothing that a history tells
    set_next : (t : Bool) → Next h other (put_namespace s (process_at s p).namespace (with_deny (namespace_at s (process_at s p).namespace) t))
    unfolding with_deny
    set_next t =
        let n = (process_at s p).namespace in
        nothing_happened _ h
        (stores_namespace s _ _ _ _ _ _ _ a n (with_deny (namespace_at s n) t) (namespace_in_range s n target_live) _ _ _ _
        (λ i. picked_same (is_namespace h) i n _ (a.namespace_live n))
        (λ i. picked_same (parent_of h) i n _ (a.namespace_parent n))
        (λ i. picked_same (level_of h) i n _ (a.namespace_level n))
        (λ k i. picked_same (written_of k h) i n _ (ap written_in (deny_map k (namespace_at s n) t) ∙ a.namespace_map k n))
        (λ k i. picked_same (λ (i : ℕ). state_for (written_of k h i)) i n _ (ap (λ (m : IdMap). m.state) (deny_map k (namespace_at s n) t) ∙ a.namespace_state k n)))
        (keeps_beside s h b _ _)

  pub write_map_next : (k : Kind) (c name : ℕ) → After h (WriteMap k c name) text list (write_map_of by s k c name text)
  write_map_next k c name =
      write_map_case by s (After h (WriteMap k c name) text list) (λ e i. nothing_happened s h a b) k c name text (λ p ls e w m g. mapped_next name p e k ls m w g)

  pub write_setgroups_next : (c name : ℕ) → After h (WriteSetgroups c name) text list (write_setgroups_of s c name text)
  write_setgroups_next c name =
      write_setgroups_case by s (After h (WriteSetgroups c name) text list) (λ e i. nothing_happened s h a b) c name text (λ p t e. set_next name p e t)
