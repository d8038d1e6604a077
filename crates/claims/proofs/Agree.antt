-- How a store keeps the tables in agreement with what a history gives. Assumes nothing.
use Rattle.std.specs.Prelude.{Option, Some, None}
use Prim.Native.Nat.{ℕ, suc, ◌<◌}
use mathlib.Core.Path.{◌≡◌, refl, sym, ap, ◌∙◌}
use mathlib.Core.Bool.{Bool, true, cond}
use mathlib.Core.List.{List}
use lib.Dec.{eqb}
use lib.ListN.{length, length-set}
use borrow.Author.Tests.{eqb-true}
use Rattle.idmap.specs.declared.Line.{Line}
use Rattle.records.specs.declared.MapState.{MapState}
use Rattle.records.specs.declared.MapState.TheVariants.{Unwritten, Written}
use Rattle.records.specs.declared.Kind.{Kind}
use Rattle.records.specs.declared.Kind.TheVariants.{Group}
use Rattle.records.specs.declared.Process.{Process}
use Rattle.records.specs.declared.Namespace.{Namespace}
use Rattle.records.specs.declared.IdMap.{IdMap}
use Rattle.records.specs.Records.{map_in, lines_if, lines_of}
use Rattle.tables.specs.Tables.{State, process_at, namespace_at, put_process, put_namespace}
use Rattle.tables.specs.Find.{caller_named}
use Rattle.prelude.proofs.Tests.{by_test}
use Rattle.claims.specs.Events.{Event}
use Rattle.claims.specs.Words.{Held, is_process, place_of, or_none, written_lines, held_of}
use Rattle.claims.specs.Agreement.{if_written, held_in, written_in, state_for, Agrees, Agreed}
use Rattle.claims.proofs.Stores.{cond_ap, read_process, read_namespace, named}

-- where a test picks between what is equal, it does not matter
pub picked_same : {A : Type 0} (f : ℕ → A) (i q : ℕ) (x : A) → x ≡ f q → cond (eqb i q) x (f i) ≡ f i
picked_same f i q x e = by_test (eqb i q) (λ t. rw t (e ∙ ap f (sym (eqb-true i q t)))) (λ t. rw t)

module _ (s : State) (isP isN : ℕ → Bool) (place up level : ℕ → ℕ) (maps : Kind → ℕ → Option (List Line)) (carries : Kind → ℕ → Held) (a : Agrees s isP isN place up level maps carries) where
  -- process p is stored at place q
  module _ (q : ℕ) (p : Process) (h : q < length s.processes) where
    after_process : {A : Type 0} (f : Process → A) (g : ℕ → A) (i : ℕ) → f (process_at s i) ≡ g (suc i) → f (process_at (put_process s q p) i) ≡ cond (eqb i q) (f p) (g (suc i))
    after_process f g i e = ap f (read_process s q p i h) ∙ cond_ap f (eqb i q) p (process_at s i) ∙ rw e

    pub stores_process : (isP' : ℕ → Bool) (place' : ℕ → ℕ) (carries' : Kind → ℕ → Held)
        → ((i : ℕ) → cond (eqb i q) p.live (isP (suc i)) ≡ isP' (suc i))
        → ((i : ℕ) → cond (eqb i q) p.namespace (place (suc i)) ≡ place' (suc i))
        → ((k : Kind) (i : ℕ) → cond (eqb i q) (held_in k p) (carries k (suc i)) ≡ carries' k (suc i))
        → ((i : ℕ) → cond (eqb i q) p.supplementary.count (length (carries Group (suc i)).supplementary) ≡ length (carries' Group (suc i)).supplementary)
        → Agrees (put_process s q p) isP' isN place' up level maps carries'
    unfolding namespace_at
    stores_process isP' place' carries' e f g o = record {
      processes_length = simp length-set a.processes_length;
      namespaces_length = a.namespaces_length;
      process_live = λ i. after_process (λ (r : Process). r.live) isP i (a.process_live i) ∙ e i;
      process_place = λ i. after_process (λ (r : Process). r.namespace) place i (a.process_place i) ∙ f i;
      process_ids = λ k i. after_process (held_in k) (carries k) i (a.process_ids k i) ∙ g k i;
      process_count = λ i. after_process (λ (r : Process). r.supplementary.count) (λ (j : ℕ). length (carries Group j).supplementary) i (a.process_count i) ∙ o i;
      namespace_live = a.namespace_live;
      namespace_parent = a.namespace_parent;
      namespace_level = a.namespace_level;
      namespace_map = a.namespace_map;
      namespace_state = a.namespace_state;
    }

    -- one that is as before in what a history tells
    pub keeps_process : p.live ≡ (process_at s q).live → p.namespace ≡ (process_at s q).namespace → ((k : Kind) → held_in k p ≡ held_in k (process_at s q)) → p.supplementary.count ≡ (process_at s q).supplementary.count
        → Agrees (put_process s q p) isP isN place up level maps carries
    keeps_process e f g o =
        stores_process isP place carries
        (λ i. picked_same (λ (j : ℕ). isP (suc j)) i q p.live (e ∙ a.process_live q))
        (λ i. picked_same (λ (j : ℕ). place (suc j)) i q p.namespace (f ∙ a.process_place q))
        (λ k i. picked_same (λ (j : ℕ). carries k (suc j)) i q (held_in k p) (g k ∙ a.process_ids k q))
        (λ i. picked_same (λ (j : ℕ). length (carries Group (suc j)).supplementary) i q p.supplementary.count (o ∙ a.process_count q))

  -- namespace n is stored at place q
  module _ (q : ℕ) (n : Namespace) (h : q < length s.namespaces) where
    after_namespace : {A : Type 0} (f : Namespace → A) (g : ℕ → A) (i : ℕ) → f (namespace_at s i) ≡ g i → f (namespace_at (put_namespace s q n) i) ≡ cond (eqb i q) (f n) (g i)
    after_namespace f g i e = ap f (read_namespace s q n i h) ∙ cond_ap f (eqb i q) n (namespace_at s i) ∙ rw e

    pub stores_namespace : (is_n' : ℕ → Bool) (up' level' : ℕ → ℕ) (maps' : Kind → ℕ → Option (List Line))
        → ((i : ℕ) → cond (eqb i q) n.live (isN i) ≡ is_n' i)
        → ((i : ℕ) → cond (eqb i q) n.parent (up i) ≡ up' i)
        → ((i : ℕ) → cond (eqb i q) n.level (level i) ≡ level' i)
        → ((k : Kind) (i : ℕ) → cond (eqb i q) (written_in (map_in k n)) (maps k i) ≡ maps' k i)
        → ((k : Kind) (i : ℕ) → cond (eqb i q) (map_in k n).state (state_for (maps k i)) ≡ state_for (maps' k i))
        → Agrees (put_namespace s q n) isP is_n' place up' level' maps' carries
    unfolding process_at
    stores_namespace is_n' up' level' maps' e f g m o = record {
      processes_length = a.processes_length;
      namespaces_length = simp length-set a.namespaces_length;
      process_live = a.process_live;
      process_place = a.process_place;
      process_ids = a.process_ids;
      process_count = a.process_count;
      namespace_live = λ i. after_namespace (λ (r : Namespace). r.live) isN i (a.namespace_live i) ∙ e i;
      namespace_parent = λ i. after_namespace (λ (r : Namespace). r.parent) up i (a.namespace_parent i) ∙ f i;
      namespace_level = λ i. after_namespace (λ (r : Namespace). r.level) level i (a.namespace_level i) ∙ g i;
      namespace_map = λ k i. after_namespace (λ (r : Namespace). written_in (map_in k r)) (maps k) i (a.namespace_map k i) ∙ m k i;
      namespace_state = λ k i. after_namespace (λ (r : Namespace). (map_in k r).state) (λ (j : ℕ). state_for (maps k j)) i (a.namespace_state k i) ∙ o k i;
    }

  -- what the code keeps beside the maps does not matter
  pub keeps_tables : (us gs : List (List ℕ)) → Agrees (record { processes = s.processes; namespaces = s.namespaces; user_starts = us; group_starts = gs }) isP isN place up level maps carries
  unfolding process_at namespace_at
  keeps_tables us gs = record {
    processes_length = a.processes_length;
    namespaces_length = a.namespaces_length;
    process_live = a.process_live;
    process_place = a.process_place;
    process_ids = a.process_ids;
    process_count = a.process_count;
    namespace_live = a.namespace_live;
    namespace_parent = a.namespace_parent;
    namespace_level = a.namespace_level;
    namespace_map = a.namespace_map;
    namespace_state = a.namespace_state;
  }

-- ---- a map's record has the lines of its history
lines_of_lem : (m : IdMap) → or_none (written_in m) ≡ lines_of m
lines_of_lem m = by_state m.state m.lines
  where
    by_state : (t : MapState) (ls : List Line) → or_none (if_written t ls) ≡ lines_if t ls
    by_state Unwritten ls = refl
    by_state (Written n) ls = refl

pub lines_agree : (s : State) (h : List Event) → Agreed s h → (k : Kind) (n : ℕ) → lines_of (map_in k (namespace_at s n)) ≡ written_lines k h n
lines_agree s h a k n = sym (lines_of_lem (map_in k (namespace_at s n))) ∙ ap or_none (a.namespace_map k n)

-- ---- the caller of a call
module _ (s : State) (h : List Event) (a : Agreed s h) (c i : ℕ) (e : caller_named s c ≡ Some i) where
  pub caller_is : c ≡ suc i
  caller_is = (named s c i e).0

  pub caller_live : is_process h c ≡ true
  caller_live = rw caller_is (sym (a.process_live i) ∙ (named s c i e).1)

  pub caller_place : (process_at s i).namespace ≡ place_of h c
  caller_place = rw caller_is (a.process_place i)

  pub caller_ids : (k : Kind) → held_in k (process_at s i) ≡ held_of k h c
  caller_ids k = rw caller_is (a.process_ids k i)

  pub caller_count : (process_at s i).supplementary.count ≡ length (held_of Group h c).supplementary
  caller_count = rw caller_is (a.process_count i)
