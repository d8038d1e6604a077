-- Fork, clone, unshare and setns, and the reads and questions: what each leaves agrees with its history, and it was
-- allowed. Assumes nothing.
use Rattle.std.specs.Prelude.{Option, Some, None}
use Prim.Native.Nat.{ℕ, zero, suc}
use mathlib.Core.Path.{◌≡◌, refl, sym, ap, ◌∙◌}
use mathlib.Core.Bool.{Bool, true, false, cond, true≢false}
use mathlib.Core.List.{List, ◌∷◌}
use native.Mathlib.Numerals.{add-one}
use native.Mathlib.Omega.{arith}
use lib.Dec.{eqb, leb}
use lib.ListN.{length}
use borrow.Author.Tests.{eqb-true, eqb-false, leb-false}
use Rattle.capability.specs.Sets.{cap_sys_admin}
use Rattle.idmap.specs.declared.Line.{Line}
use Rattle.records.specs.declared.MapState.TheVariants.{Unwritten}
use Rattle.records.specs.declared.Kind.{Kind}
use Rattle.records.specs.declared.Kind.TheVariants.{User, Group}
use Rattle.records.specs.declared.Process.{Process}
use Rattle.records.specs.declared.Namespace.{Namespace}
use Rattle.records.specs.Records.{map_in}
use Rattle.tables.specs.Tables.{State, process_at, namespace_at, put_process, put_namespace, max_level}
use Rattle.tables.specs.Find.{namespace_named, free_process_place, free_namespace_place, caller_named, process_number}
use Rattle.tables.specs.Reply.{Outcome}
use Rattle.hierarchy.specs.Walks.{Translation, height_of, owned_by, holds_in, capable_in}
use Rattle.process.specs.Calls.{fork_of, below, entered, with_child, clone_of, unshare_of, setns_of}
use Rattle.calls.specs.declared.Call.{Call}
use Rattle.calls.specs.declared.Call.TheVariants.{Fork, Clone, Unshare, Setns}
use Rattle.prelude.proofs.Tests.{by_test, and_left}
use Rattle.claims.specs.Events.{Event, other, forked, cloned, unshared, joined}
use Rattle.claims.specs.Words.{Held, is_process, is_namespace, place_of, parent_of, level_of, written_of, or_none, held_of}
use Rattle.claims.specs.Translation.{here, deeper}
use Rattle.claims.specs.TopLevel.{IsUnder}
use Rattle.claims.specs.History.{happened_by}
use Rattle.claims.specs.Agreement.{held_in, written_in, state_for, Agrees, Agreed}
use Rattle.claims.proofs.Allowed.{Allowed, SoundAt, NewProcess, NewNamespace}
use Rattle.claims.proofs.Beside.{Beside, event_kept, keeps_beside, clears_beside}
use Rattle.claims.proofs.Stores.{cond_ap, named, space_named, free_process_lem, free_namespace_lem, process_in_range, next_number, same_number}
use Rattle.claims.proofs.Cases.{fork_case, clone_case, unshare_case, setns_case}
use Rattle.claims.proofs.Agree.{picked_same, stores_process, stores_namespace, keeps_tables, caller_is, caller_live, caller_place, caller_ids, caller_count}

-- the tables after an event agree with the history that it lengthens, and it was allowed
pub record Next (h : List Event) (e : Event) (t : State) : Type 0 where
  pub agree : Agreed t (e ∷ h)
  pub beside : Beside t (e ∷ h)
  pub allowed : Allowed h e

-- nothing happened
pub nothing_happened : (s : State) (h : List Event) → Agreed s h → Beside s h → Next h other s
unfolding is_process is_namespace place_of parent_of level_of written_of held_of
nothing_happened s h a b = record { agree = a; beside = b; allowed = tt }

abbrev pub After : List Event → Call → List ℕ → List ℕ → Outcome → Type 0
After h c text list o = Next h (happened_by c text list o.reply) o.tables

module _ (by : Translation) (s : State) (h : List Event) (a : Agreed s h) (b : Beside s h) (d : SoundAt h) (text list : List ℕ) where
  -- a child has as many groups as the caller
  count_after : (j q c i : ℕ) → caller_named s c ≡ Some i
      → cond (eqb j q) (process_at s i).supplementary.count (length (held_of Group h (suc j)).supplementary) ≡ length (cond (eqb (suc j) (process_number q)) (held_of Group h c) (held_of Group h (suc j))).supplementary
  count_after j q c i e = rw (next_number j q, caller_count s h a c i e) (sym (cond_ap (λ (m : Held). length m.supplementary) (eqb j q) (held_of Group h c) (held_of Group h (suc j))))

  -- ---- fork
  forked_next : (c i q : ℕ) → caller_named s c ≡ Some i → free_process_place s ≡ Some q → Next h (forked c (process_number q)) (put_process s q (process_at s i))
  unfolding is_process is_namespace place_of parent_of level_of written_of held_of
  forked_next c i q e f = record {
    agree = stores_process s _ _ _ _ _ _ _ a q (process_at s i) (free_process_lem s q f).0 _ _ _
        (λ j. rw (next_number j q, (named s c i e).1))
        (λ j. rw (next_number j q, caller_place s h a c i e))
        (λ k j. rw (next_number j q, caller_ids s h a c i e k))
        (λ j. count_after j q c i e);
    beside = keeps_beside s h b _ _;
    allowed = record {
      caller = caller_live s h a c i e;
      unused = sym (a.process_live q) ∙ (free_process_lem s q f).1;
      named = λ z. omega arith;
    };
  }

  pub fork_next : (c : ℕ) → After h (Fork c) text list (fork_of s c)
  fork_next c = fork_case by s (After h (Fork c) text list) (λ e i. nothing_happened s h a b) c (λ i q e f. forked_next c i q e f)

  -- ---- a new namespace
  fresh_map : (k : Kind) (p : Process) (n : Namespace) → written_in (map_in k (below p n)) ≡ None
  unfolding below
  fresh_map User p n = refl
  fresh_map Group p n = refl

  fresh_state : (k : Kind) (p : Process) (n : Namespace) → (map_in k (below p n)).state ≡ Unwritten
  unfolding below
  fresh_state User p n = refl
  fresh_state Group p n = refl

  entered_ids : (k : Kind) (p : Process) (n : ℕ) → held_in k (entered p n) ≡ held_in k p
  unfolding entered
  entered_ids User p n = refl
  entered_ids Group p n = refl

  module _ (c p n : ℕ) (e : caller_named s c ≡ Some p) (g : free_namespace_place s ≡ Some n) (r : leb max_level (namespace_at s (process_at s p).namespace).level ≡ false) where
    abbrev own : Namespace
    own = namespace_at s (process_at s p).namespace

    abbrev child : Namespace
    child = below (process_at s p) own

    unused : is_namespace h n ≡ false
    unused = sym (a.namespace_live n) ∙ (free_namespace_lem s n g).1

    level_above : (namespace_at s (process_at s p).namespace).level ≡ level_of h (place_of h c)
    level_above = a.namespace_level (process_at s p).namespace ∙ ap (level_of h) (caller_place s h a c p e)

    new_namespace_lem : NewNamespace h c n
    new_namespace_lem = record {
      caller = caller_live s h a c p e;
      unused = unused;
      room = let l = leb-false max_level (namespace_at s (process_at s p).namespace).level r in let f = level_above in omega arith;
    }

    -- the namespace is stored, and every process is as it was
    with_child_lem : Agrees (with_child s p n) (is_process h) (λ (i : ℕ). cond (eqb i n) true (is_namespace h i)) (place_of h)
        (λ (i : ℕ). cond (eqb i n) (place_of h c) (parent_of h i)) (λ (i : ℕ). cond (eqb i n) (suc (level_of h (place_of h c))) (level_of h i))
        (λ (k : Kind). written_of k h) (λ (k : Kind). held_of k h)
    unfolding below
    with_child_lem =
        keeps_tables (put_namespace s n child) _ _ _ _ _ _ _
        (stores_namespace s _ _ _ _ _ _ _ a n child (free_namespace_lem s n g).0 _ _ _ _
        (λ i. refl)
        (λ i. rw (caller_place s h a c p e))
        (λ i. rw (level_above, add-one))
        (λ k i. picked_same (written_of k h) i n (written_in (map_in k child)) (fresh_map k (process_at s p) own ∙ sym (d.made k n unused)))
        (λ k i. picked_same (λ (m : ℕ). state_for (written_of k h m)) i n (map_in k child).state (fresh_state k (process_at s p) own ∙ ap state_for (sym (d.made k n unused)))))
        _ _

    -- it has no lines, and the kernel starts of every other one are kept
    child_beside : (new : Event) → Allowed h new → ((k : Kind) → written_of k (new ∷ h) ≡ written_of k h) → Beside (with_child s p n) (new ∷ h)
    child_beside new allowed same =
        clears_beside (put_namespace s n child) (new ∷ h) n
        (let r = (free_namespace_lem s n g).0 in let q = a.namespaces_length in omega arith)
        (λ k. ap (λ (w : ℕ → Option (List Line)). or_none (w n)) (same k) ∙ ap or_none (d.made k n unused))
        (keeps_beside s (new ∷ h) (event_kept new h allowed d s same b) _ _)

    new_child : (q : ℕ) → free_process_place s ≡ Some q → NewProcess h c (process_number q) × NewNamespace h c n
    new_child q f = (
      record {
        caller = caller_live s h a c p e;
        unused = sym (a.process_live q) ∙ (free_process_lem s q f).1;
        named = λ z. omega arith;
      },
      new_namespace_lem,
    )

    cloned_next : (q : ℕ) → free_process_place s ≡ Some q → Next h (cloned c (process_number q) n) (put_process (with_child s p n) q (entered (process_at s p) n))
    unfolding is_process is_namespace place_of parent_of level_of written_of held_of entered
    cloned_next q f = record {
      agree = stores_process (with_child s p n) _ _ _ _ _ _ _ with_child_lem q (entered (process_at s p) n) (free_process_lem s q f).0 _ _ _
          (λ j. rw (next_number j q, (named s c p e).1))
          (λ j. rw (next_number j q))
          (λ k j. rw (next_number j q, entered_ids k (process_at s p) n, caller_ids s h a c p e k))
          (λ j. count_after j q c p e);
      beside = keeps_beside (with_child s p n) (cloned c (process_number q) n ∷ h) (child_beside (cloned c (process_number q) n) (new_child q f) (λ k. refl)) _ _;
      allowed = new_child q f;
    }

    unshared_next : Next h (unshared c n) (put_process (with_child s p n) p (entered (process_at s p) n))
    unfolding is_process is_namespace place_of parent_of level_of written_of held_of entered
    unshared_next = record {
      agree = stores_process (with_child s p n) _ _ _ _ _ _ _ with_child_lem p (entered (process_at s p) n) (process_in_range s p (named s c p e).1) _ _ _
          (λ j. picked_same (λ (i : ℕ). is_process h (suc i)) j p (process_at s p).live (a.process_live p))
          (λ j. rw (same_number j c p (caller_is s h a c p e)))
          (λ k j. picked_same (λ (i : ℕ). held_of k h (suc i)) j p (held_in k (entered (process_at s p) n)) (entered_ids k (process_at s p) n ∙ a.process_ids k p))
          (λ j. picked_same (λ (i : ℕ). length (held_of Group h (suc i)).supplementary) j p (process_at s p).supplementary.count (a.process_count p));
      beside = keeps_beside (with_child s p n) (unshared c n ∷ h) (child_beside (unshared c n) new_namespace_lem (λ k. refl)) _ _;
      allowed = new_namespace_lem;
    }

  pub clone_next : (c : ℕ) → After h (Clone c) text list (clone_of by s c)
  clone_next c =
      clone_case by s (After h (Clone c) text list) (λ e i. nothing_happened s h a b) c (λ p n q (e, g, r) f. cloned_next c p n e g r q f)

  pub unshare_next : (c : ℕ) → After h (Unshare c) text list (unshare_of by s c)
  unshare_next c =
      unshare_case by s (After h (Unshare c) text list) (λ e i. nothing_happened s h a b) c (λ p n (e, g, r). unshared_next c p n e g r)

  -- ---- setns: who holds a capability in a namespace is above it
  reaches : (own euid : ℕ) (mine : Bool) (k n : ℕ) → holds_in s own euid mine k n ≡ true → IsUnder h own n
  unfolding holds_in owned_by
  reaches own euid mine zero n e =
      by_test (eqb n own) (λ t. here (eqb-true n own t)) (λ t.
      by_test (eqb n 0) (λ z. absurd (true≢false (sym e ∙ rw (t, z)))) (λ z.
      deeper (eqb-false n 0 z)
      (here (sym (a.namespace_parent n) ∙ eqb-true (namespace_at s n).parent own (and_left _ (eqb (namespace_at s n).owner euid) (sym (rw (t, z)) ∙ e))))))
  reaches own euid mine (suc k) n e =
      by_test (eqb n own) (λ t. here (eqb-true n own t)) (λ t.
      by_test (eqb n 0) (λ z. absurd (true≢false (sym e ∙ rw (t, z)))) (λ z.
      by_test (owned_by own euid (namespace_at s n))
      (λ o.
      deeper (eqb-false n 0 z)
      (here (sym (a.namespace_parent n) ∙ eqb-true (namespace_at s n).parent own (and_left _ (eqb (namespace_at s n).owner euid) o))))
      (λ o. deeper (eqb-false n 0 z) (rw (a.namespace_parent n) at (reaches own euid mine k (namespace_at s n).parent (sym (rw (t, z, o)) ∙ e))))))

  joined_next : (c name p n : ℕ) → caller_named s c ≡ Some p → namespace_named s p name ≡ Some n → capable_in s (process_at s p) n cap_sys_admin ≡ true → Next h (joined c name) (put_process s p (entered (process_at s p) n))
  unfolding is_process is_namespace place_of parent_of level_of written_of held_of entered capable_in
  joined_next c name p n e f t = record {
    agree = stores_process s _ _ _ _ _ _ _ a p (entered (process_at s p) n) (process_in_range s p (named s c p e).1) _ _ _
        (λ j. picked_same (λ (i : ℕ). is_process h (suc i)) j p (process_at s p).live (a.process_live p))
        (λ j. rw (same_number j c p (caller_is s h a c p e), (space_named s p name n f).0))
        (λ k j. picked_same (λ (i : ℕ). held_of k h (suc i)) j p (held_in k (entered (process_at s p) n)) (entered_ids k (process_at s p) n ∙ a.process_ids k p))
        (λ j. picked_same (λ (i : ℕ). length (held_of Group h (suc i)).supplementary) j p (process_at s p).supplementary.count (a.process_count p));
    beside = keeps_beside s h b _ _;
    allowed = record {
      caller = caller_live s h a c p e;
      target = rw (space_named s p name n f).0 (sym (a.namespace_live n) ∙ (space_named s p name n f).1);
      inward = rw ((space_named s p name n f).0, ← caller_place s h a c p e) (reaches _ _ _ (height_of s n) n t);
    };
  }

  pub setns_next : (c name : ℕ) → After h (Setns c name) text list (setns_of s c name)
  setns_next c name =
      setns_case by s (After h (Setns c name) text list) (λ e i. nothing_happened s h a b) c name (λ p n e f t. joined_next c name p n e f t)
