-- The initial tables agree with the history in which nothing has happened. Assumes nothing.
use Rattle.std.specs.Prelude.{None}
use Prim.Native.Nat.{ℕ, zero, suc}
use mathlib.Core.Path.{◌≡◌, refl, sym, ap, ◌∙◌, subst}
use mathlib.Core.Bool.{Bool, true, false, cond}
use mathlib.Core.List.{[]}
use native.Mathlib.Omega.{arith}
use lib.Dec.{eqb}
use lib.ListN.{length, get_or, replicate, length-replicate}
use borrow.Author.Tests.{eqb-true}
use Rattle.records.specs.declared.MapState.TheVariants.{Unwritten}
use Rattle.records.specs.declared.Kind.{Kind}
use Rattle.records.specs.declared.Kind.TheVariants.{User, Group}
use Rattle.records.specs.declared.Process.{Process}
use Rattle.records.specs.declared.Namespace.{Namespace}
use Rattle.records.specs.Records.{free_process, free_namespace, map_in, zero_ids, no_starts}
use Rattle.tables.specs.Tables.{State, process_at, namespace_at, starts_by, starts_at, put_process, first_process, root_namespace, initial_tables, process_places, namespace_places}
use Rattle.prelude.proofs.Tests.{by_test}
use Rattle.claims.specs.Words.{is_process, is_namespace, place_of, parent_of, level_of, written_of, or_none, written_lines, held_of}
use Rattle.claims.specs.Agreement.{held_in, written_in, state_for, Agrees, Agreed}
use Rattle.claims.specs.Translation.{top}
use Rattle.claims.proofs.KernelStarts.{Started}
use Rattle.claims.proofs.Beside.{StartedAt, Beside, no_lines}
use Rattle.claims.proofs.Stores.{next_number}
use Rattle.claims.proofs.Agree.{stores_process, stores_namespace}

all_same : {A : Type 0} (x : A) (n i : ℕ) → get_or (replicate n x) i x ≡ x
all_same x zero i = refl
all_same x (suc n) zero = refl
all_same x (suc n) (suc i) = all_same x n i

abbrev empty : State
empty = record { processes = replicate process_places free_process; namespaces = replicate namespace_places free_namespace; user_starts = replicate namespace_places no_starts; group_starts = replicate namespace_places no_starts }

free_ids : (k : Kind) → held_in k free_process ≡ record { three = zero_ids; supplementary = [] }
free_ids User = refl
free_ids Group = refl

free_map_lem : (k : Kind) → written_in (map_in k free_namespace) ≡ None
free_map_lem User = refl
free_map_lem Group = refl

free_state : (k : Kind) → (map_in k free_namespace).state ≡ Unwritten
free_state User = refl
free_state Group = refl

-- tables with no process and no namespace
empty_agrees : Agrees empty (λ (i : ℕ). false) (λ (i : ℕ). false) (λ (i : ℕ). 0) (λ (i : ℕ). 0) (λ (i : ℕ). 0) (λ (k : Kind) (i : ℕ). None) (λ (k : Kind) (i : ℕ). record { three = zero_ids; supplementary = [] })
unfolding process_at namespace_at
empty_agrees = record {
  processes_length = length-replicate process_places free_process;
  namespaces_length = length-replicate namespace_places free_namespace;
  process_live = λ i. ap (λ (p : Process). p.live) (all_same free_process process_places i);
  process_place = λ i. ap (λ (p : Process). p.namespace) (all_same free_process process_places i);
  process_ids = λ k i. ap (held_in k) (all_same free_process process_places i) ∙ free_ids k;
  process_count = λ i. ap (λ (p : Process). p.supplementary.count) (all_same free_process process_places i);
  namespace_live = λ i. ap (λ (n : Namespace). n.live) (all_same free_namespace namespace_places i);
  namespace_parent = λ i. ap (λ (n : Namespace). n.parent) (all_same free_namespace namespace_places i);
  namespace_level = λ i. ap (λ (n : Namespace). n.level) (all_same free_namespace namespace_places i);
  namespace_map = λ k i. ap (λ (n : Namespace). written_in (map_in k n)) (all_same free_namespace namespace_places i) ∙ free_map_lem k;
  namespace_state = λ k i. ap (λ (n : Namespace). (map_in k n).state) (all_same free_namespace namespace_places i) ∙ free_state k;
}

first_ids : (k : Kind) → held_in k first_process ≡ record { three = zero_ids; supplementary = [] }
first_ids User = refl
first_ids Group = refl

root_map : (k : Kind) (i : ℕ) → cond (eqb i 0) (written_in (map_in k root_namespace)) None ≡ written_of k [] i
unfolding written_of
root_map User i = refl
root_map Group i = refl

root_state : (k : Kind) (i : ℕ) → cond (eqb i 0) (map_in k root_namespace).state Unwritten ≡ state_for (written_of k [] i)
unfolding written_of
root_state User i = by_test (eqb i 0) (λ t. rw t) (λ t. rw t)
root_state Group i = by_test (eqb i 0) (λ t. rw t) (λ t. rw t)

is_it : (t : Bool) → cond t true false ≡ t
is_it true = refl
is_it false = refl

pub start_agrees : Agreed initial_tables []
unfolding initial_tables is_process is_namespace place_of parent_of level_of held_of
start_agrees =
    stores_namespace (put_process empty 0 first_process) _ _ _ _ _ _ _
    (stores_process empty _ _ _ _ _ _ _ empty_agrees 0 first_process (rw (length-replicate) (omega arith)) (is_process []) (place_of []) (λ (k : Kind). held_of k [])
    (λ i. is_it (eqb i 0) ∙ sym (next_number i 0))
    (λ i. by_test (eqb i 0) (λ t. rw t) (λ t. rw t))
    (λ k i. by_test (eqb i 0) (λ t. rw t (first_ids k)) (λ t. rw t))
    (λ i. by_test (eqb i 0) (λ t. rw t) (λ t. rw t)))
    0 root_namespace (rw (length-replicate) (omega arith)) _ _ _ _
    (λ i. is_it (eqb i 0))
    (λ i. by_test (eqb i 0) (λ t. rw t) (λ t. rw t))
    (λ i. by_test (eqb i 0) (λ t. rw t) (λ t. rw t))
    root_map
    root_state

-- ---- the kernel starts: the fixed line stands for itself
first_starts : (k : Kind) (n : ℕ) → starts_at initial_tables k n ≡ no_starts
unfolding initial_tables starts_at
first_starts User n = all_same no_starts namespace_places n
first_starts Group n = all_same no_starts namespace_places n

first_places : (k : Kind) → length (starts_by k initial_tables) ≡ namespace_places
unfolding initial_tables
first_places User = length-replicate namespace_places no_starts
first_places Group = length-replicate namespace_places no_starts

root_started : (k : Kind) → StartedAt [] k 0 no_starts
unfolding Started written_of parent_of
root_started k = (top {x = 0} {y = 0} refl refl (omega arith), tt)

none_written : (k : Kind) (n : ℕ) → eqb n 0 ≡ false → written_of k [] n ≡ None
unfolding written_of
none_written k n t = rw t

pub start_beside : Beside initial_tables []
start_beside = record {
  places = first_places;
  started = λ k n.
      rw (first_starts k n)
      (by_test (eqb n 0)
      (λ t. subst (λ (m : ℕ). StartedAt [] k m no_starts) (sym (eqb-true n 0 t)) (root_started k))
      (λ t. no_lines _ (written_lines k [] n) _ (ap or_none (none_written k n t))));
}
