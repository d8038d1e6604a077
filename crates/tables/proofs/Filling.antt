-- The initial tables, filled place by place. Assumes nothing.
use Prim.Native.Nat.{ℕ, ◌+◌, ◌≤◌, ◌<◌}
use mathlib.Core.Path.{◌≡◌, refl, sym, ap, ◌∙◌}
use mathlib.Core.List.{List, append-nil}
use mathlib.Core.Bool.{false}
use native.Mathlib.Nat.{zero-add}
use native.Mathlib.Numerals.{add-one}
use native.Mathlib.Omega.{arith}
use lib.ListN.{length, get_or, set, replicate, drop_of_length-le}
use lib.Seq.{paste, paste-zero, paste-suc, take_all}
use lib.ListN.{get_or-replicate}
use borrow.Author.Rules.{rules}
use Rattle.records.specs.declared.Process.{Process}
use Rattle.records.specs.declared.Kind.TheVariants.{User, Group}
use Rattle.records.specs.declared.IdMap.{IdMap}
use Rattle.records.specs.Records.{free_process, free_namespace, with_map, unmapped, no_starts}
use Rattle.tables.specs.Tables.{State, process_places, namespace_places, tables_of, namespace_at, put_process, put_namespace, put_map, clear_starts, with_processes, first_process, fixed_map, without_namespaces, initial_tables}
use Rattle.tables.proofs.Tables.{length_processes, length_namespaces, length_starts}

module _ {A : Type 0} (qs ps : List A) where
  fill_more : (i : ℕ) (d : A) → i < length qs → i < length ps → set (paste qs 0 ps i) i (get_or ps i d) ≡ paste qs 0 ps (i + 1)
  fill_more i d hq hp =
      let z : 0 + i ≡ i = zero-add i in
      rw (add-one) (ap (λ (k : ℕ). set (paste qs 0 ps i) k (get_or ps i d)) (sym z) ∙ paste-suc qs 0 ps i d (omega arith) hp)

  fill_all : (i : ℕ) → length qs ≤ i → length ps ≤ i → paste qs 0 ps i ≡ ps
  fill_all i hq hp = rw (zero-add i, drop_of_length-le qs {i = i} hq, take_all i ps hp) (append-nil ps)

-- ---- processes
pub places_are : (free first : Process) → free ≡ free_process → first ≡ first_process → set (replicate process_places free) 0 first ≡ initial_tables.processes
unfolding initial_tables
places_are free first e q = rw (e, q)

length_places : length initial_tables.processes ≡ process_places
unfolding initial_tables
length_places = refl

-- the first i places are in the tables
pub processes_in : State → ℕ → State
processes_in s i = with_processes s (paste s.processes 0 initial_tables.processes i)

module _ (l : List ℕ) where
  pub processes_none : tables_of l ≡ processes_in (tables_of l) 0
  unfolding processes_in
  processes_none = ap (with_processes (tables_of l)) (paste-zero (tables_of l).processes 0 initial_tables.processes)

  module _ (l' : List ℕ) (i : ℕ) (inv : tables_of l' ≡ processes_in (tables_of l) i) where
    pub processes_more : (places : List Process) (s : State) (d : Process) → i < process_places → places ≡ initial_tables.processes → s ≡ put_process (tables_of l') i (get_or places i d) → s ≡ processes_in (tables_of l) (i + 1)
    unfolding processes_in
    processes_more places s d h q e =
        let k = length_processes l in
        let j = length_places in
        e ∙ rw (q, inv, fill_more (tables_of l).processes initial_tables.processes i d (omega arith) (omega arith))

    pub processes_all : process_places ≤ i → tables_of l' ≡ with_processes (tables_of l) initial_tables.processes
    unfolding processes_in
    processes_all h =
        let k = length_processes l in
        let j = length_places in
        inv ∙ ap (with_processes (tables_of l)) (fill_all (tables_of l).processes initial_tables.processes i (omega arith) (omega arith))

-- ---- namespaces: the first i places are cleared
pub cleared_to : State → ℕ → State
cleared_to s i = record {
  processes = s.processes;
  namespaces = paste s.namespaces 0 (replicate namespace_places free_namespace) i;
  user_starts = paste s.user_starts 0 (replicate namespace_places no_starts) i;
  group_starts = paste s.group_starts 0 (replicate namespace_places no_starts) i;
}

-- one place more of a list that is made the same everywhere
same_more : {A : Type 0} (qs : List A) (d : A) (i : ℕ) → length qs ≡ namespace_places → i < namespace_places → set (paste qs 0 (replicate namespace_places d) i) i d ≡ paste qs 0 (replicate namespace_places d) (i + 1)
same_more {A} qs d i k h =
    let e : get_or (replicate namespace_places d) i d ≡ d = get_or-replicate namespace_places i d d h in
    ap (λ (x : A). set (paste qs 0 (replicate namespace_places d) i) i x) (sym e) ∙ fill_more qs (replicate namespace_places d) i d (omega arith) h

module _ (l : List ℕ) where
  pub cleared_none : tables_of l ≡ cleared_to (tables_of l) 0
  unfolding cleared_to
  cleared_none = λ i. record {
    processes = (tables_of l).processes;
    namespaces = paste-zero (tables_of l).namespaces 0 (replicate namespace_places free_namespace) i;
    user_starts = paste-zero (tables_of l).user_starts 0 (replicate namespace_places no_starts) i;
    group_starts = paste-zero (tables_of l).group_starts 0 (replicate namespace_places no_starts) i;
  }

  module _ (l' : List ℕ) (i : ℕ) (inv : tables_of l' ≡ cleared_to (tables_of l) i) where
    pub cleared_more : (s : State) → i < namespace_places → s ≡ clear_starts (put_namespace (tables_of l') i free_namespace) i → s ≡ cleared_to (tables_of l) (i + 1)
    unfolding cleared_to
    cleared_more s h e =
        e ∙ rw inv (λ j. record {
          processes = (tables_of l).processes;
          namespaces = same_more (tables_of l).namespaces free_namespace i (length_namespaces l) h j;
          user_starts = same_more (tables_of l).user_starts no_starts i (length_starts User l) h j;
          group_starts = same_more (tables_of l).group_starts no_starts i (length_starts Group l) h j;
        })

    pub cleared_all : namespace_places ≤ i → tables_of l' ≡ without_namespaces (tables_of l)
    unfolding cleared_to without_namespaces
    cleared_all h =
        let n = length_namespaces l in
        let u = length_starts User l in
        let g = length_starts Group l in
        inv ∙ (λ j. record {
          processes = (tables_of l).processes;
          namespaces = fill_all (tables_of l).namespaces (replicate namespace_places free_namespace) i (omega arith) h j;
          user_starts = fill_all (tables_of l).user_starts (replicate namespace_places no_starts) i (omega arith) h j;
          group_starts = fill_all (tables_of l).group_starts (replicate namespace_places no_starts) i (omega arith) h j;
        })

-- ---- the root, and all
pub root_made : (s₀ s₁ s₂ s₃ s₄ : State) (u g : IdMap) → s₁ ≡ without_namespaces s₀ → s₂ ≡ clear_starts (put_namespace s₁ 0 (unmapped 0 0 0 false)) 0
    → u ≡ fixed_map → s₃ ≡ put_map s₂ User 0 u no_starts → g ≡ fixed_map → s₄ ≡ put_map s₃ Group 0 g no_starts → s₄ ≡ with_processes initial_tables s₀.processes
unfolding without_namespaces put_map namespace_at with_map initial_tables
root_made s₀ s₁ s₂ s₃ s₄ u g e f p q r t = rw (t, q, f, e, r, p)

pub all_filled : (s₀ s₁ s₂ : State) → s₁ ≡ with_processes s₀ initial_tables.processes → s₂ ≡ with_processes initial_tables s₁.processes → s₂ ≡ initial_tables
all_filled s₀ s₁ s₂ e q = q ∙ rw e

pub ruleset filling = (
  places_are,
  processes_none,
  processes_more,
  processes_all,
  cleared_none,
  cleared_more,
  cleared_all,
  root_made,
  all_filled,
  rules,
)
