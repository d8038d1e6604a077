-- What the load and the store of a row, or of a part of one, mean for the tables. Assumes nothing.
use Prim.Native.Nat.{ℕ, ◌+◌, ◌*◌, ◌≤◌, ◌<◌, ◌%◌, ◌^◌}
use mathlib.Core.Path.{◌≡◌, refl, sym, ap, ◌∙◌}
use mathlib.Core.Bool.{Bool}
use mathlib.Core.List.{List, [], ◌∷◌}
use mathlib.Core.Logic.{⊎_elim, ◌⊎◌, inl, inr}
use native.Mathlib.Omega.{arith}
use lib.Dec.{eqb}
use lib.ListN.{length, get_or, take, drop, set, replicate}
use lib.Seq.{get_or-take, get_or-drop}
use mir.Val.{Fits, bool_byte}
use mir.Syntax.{w64}
use borrow.Author.Rules.{rules}
use Rattle.prelude.specs.Parts.{part, put_at}
use Rattle.prelude.proofs.Parts.{length_part, part_part, part_put_same, part_put_apart, put_elsewhere, put_word}
use Rattle.rows.specs.Rows.{rows}
use Rattle.rows.proofs.Rows.{row_put, row_get, row_none, row_out, rows_apart, rows_within, rows_still, get_d_rows, length_rows}
use Rattle.records.specs.declared.Kind.{Kind}
use Rattle.records.specs.declared.Kind.TheVariants.{User, Group}
use Rattle.records.specs.declared.Process.{Process}
use Rattle.records.specs.declared.IdMap.{IdMap}
use Rattle.records.specs.declared.Namespace.{Namespace}
use Rattle.records.specs.Records.{process_width, process_of, process_from, free_process, map_width, map_at, map_of, deny_at, namespace_width, namespace_of, namespace_from, free_namespace, with_map, with_deny, starts_in, starts_of, no_starts, Cleared}
use Rattle.records.proofs.Records.{flag_round, process_whole, namespace_whole}
use Rattle.tables.specs.Tables.{State, process_places, namespace_places, processes_at, namespaces_at, tables_width, tables_of, process_at, namespace_at, starts_by, put_process, put_namespace, put_map, clear_starts}

pub length_processes : (l : List ℕ) → length (tables_of l).processes ≡ process_places
unfolding tables_of
length_processes l = length_rows process_of process_width process_places processes_at l

pub length_namespaces : (l : List ℕ) → length (tables_of l).namespaces ≡ namespace_places
unfolding tables_of
length_namespaces l = length_rows namespace_of namespace_width namespace_places namespaces_at l

-- the kernel starts of a kind are read from the namespaces' rows
pub starts_rows : (k : Kind) (l : List ℕ) → starts_by k (tables_of l) ≡ rows (starts_of k) namespace_width namespace_places namespaces_at l
unfolding tables_of
starts_rows User l = refl
starts_rows Group l = refl

pub length_starts : (k : Kind) (l : List ℕ) → length (starts_by k (tables_of l)) ≡ namespace_places
length_starts k l = rw (starts_rows k l) (length_rows (starts_of k) namespace_width namespace_places namespaces_at l)

state : {ps ps' : List Process} {ns ns' : List Namespace} {us us' gs gs' : List (List ℕ)} → ps ≡ ps' → ns ≡ ns' → us ≡ us' → gs ≡ gs'
    → ◌≡◌ {A = State} (record { processes = ps; namespaces = ns; user_starts = us; group_starts = gs }) (record { processes = ps'; namespaces = ns'; user_starts = us'; group_starts = gs' })
state p n u g i = record { processes = p i; namespaces = n i; user_starts = u i; group_starts = g i }

-- ---- loads
module _ (l row : List ℕ) (i k : ℕ) (long : length l ≡ tables_width) where
  pub process_get : (p : Process) → row ≡ part process_width k l → k ≡ processes_at + i * process_width → i < process_places → p ≡ process_from row → p ≡ process_at (tables_of l) i
  unfolding tables_of process_at
  process_get p read at h e =
      e
      ∙ process_whole row (rw read (length_part process_width k l (omega arith)))
      ∙ ap process_of read
      ∙ sym (row_get process_of process_width process_places processes_at l i free_process k at h)

  pub namespace_get : (n : Namespace) → row ≡ part namespace_width k l → k ≡ namespaces_at + i * namespace_width → i < namespace_places → n ≡ namespace_from row → n ≡ namespace_at (tables_of l) i
  unfolding tables_of namespace_at
  namespace_get n read at h e =
      e
      ∙ namespace_whole row (rw read (length_part namespace_width k l (omega arith)))
      ∙ ap namespace_of read
      ∙ sym (row_get namespace_of namespace_width namespace_places namespaces_at l i free_namespace k at h)

module _ (l : List ℕ) (i : ℕ) where
  pub process_none : (p : Process) → process_places ≤ i → p ≡ free_process → p ≡ process_at (tables_of l) i
  unfolding tables_of process_at
  process_none p h e = e ∙ sym (row_none process_of process_width process_places processes_at l i free_process h)

  pub namespace_none : (n : Namespace) → namespace_places ≤ i → n ≡ free_namespace → n ≡ namespace_at (tables_of l) i
  unfolding tables_of namespace_at
  namespace_none n h e = e ∙ sym (row_none namespace_of namespace_width namespace_places namespaces_at l i free_namespace h)

  -- ---- stores
  pub process_out : (p : Process) → process_places ≤ i → tables_of l ≡ put_process (tables_of l) i p
  unfolding tables_of
  process_out p h = sym (state (row_out process_of process_width process_places processes_at l i p h) refl refl refl)

  module _ (h : namespace_places ≤ i) where
    no_namespace : (n : Namespace) → set (rows namespace_of namespace_width namespace_places namespaces_at l) i n ≡ rows namespace_of namespace_width namespace_places namespaces_at l
    no_namespace n = row_out namespace_of namespace_width namespace_places namespaces_at l i n h

    no_start : (k : Kind) (ys : List ℕ) → set (rows (starts_of k) namespace_width namespace_places namespaces_at l) i ys ≡ rows (starts_of k) namespace_width namespace_places namespaces_at l
    no_start k ys = row_out (starts_of k) namespace_width namespace_places namespaces_at l i ys h

    pub namespace_out : (n : Namespace) → tables_of l ≡ clear_starts (put_namespace (tables_of l) i n) i
    unfolding tables_of
    namespace_out n = sym (state refl (no_namespace n) (no_start User no_starts) (no_start Group no_starts))

    pub map_out : (k : Kind) (m : IdMap) (ys : List ℕ) → tables_of l ≡ put_map (tables_of l) k i m ys
    unfolding tables_of put_map
    map_out User m ys = sym (state refl (no_namespace _) (no_start User ys) refl)
    map_out Group m ys = sym (state refl (no_namespace _) refl (no_start Group ys))

    pub deny_out : (d : Bool) → tables_of l ≡ put_namespace (tables_of l) i (with_deny (namespace_at (tables_of l) i) d)
    unfolding tables_of
    deny_out d = sym (state refl (no_namespace _) refl refl)

module _ (l l' ws : List ℕ) (i k : ℕ) (long : length l ≡ tables_width) (q : l' ≡ put_at l k ws) where
  pub process_put : (p : Process) → length ws ≡ process_width → i < process_places → process_of ws ≡ p → k ≡ processes_at + i * process_width → tables_of l' ≡ put_process (tables_of l) i p
  unfolding tables_of
  process_put p w h e at =
      rw q
      (state (row_put process_of process_width process_places processes_at l i ws k at h w (omega arith) ∙ ap (set (rows process_of process_width process_places processes_at l) i) e)
      (rows_apart namespace_of namespace_width namespace_places namespaces_at l k ws (inl (omega arith)))
      (rows_apart (starts_of User) namespace_width namespace_places namespaces_at l k ws (inl (omega arith)))
      (rows_apart (starts_of Group) namespace_width namespace_places namespaces_at l k ws (inl (omega arith))))

  -- a whole row of a namespace
  pub namespace_put : (n : Namespace) → length ws ≡ namespace_width → i < namespace_places → namespace_of ws ≡ n → Cleared ws → k ≡ namespaces_at + i * namespace_width
      → tables_of l' ≡ clear_starts (put_namespace (tables_of l) i n) i
  unfolding tables_of
  namespace_put n w h e c at =
      rw q
      (state (rows_apart process_of process_width process_places processes_at l k ws (inr (omega arith)))
      (row_put namespace_of namespace_width namespace_places namespaces_at l i ws k at h w (omega arith) ∙ ap (set (rows namespace_of namespace_width namespace_places namespaces_at l) i) e)
      (starts User) (starts Group))
    where
      starts : (j : Kind) → rows (starts_of j) namespace_width namespace_places namespaces_at (put_at l k ws) ≡ set (rows (starts_of j) namespace_width namespace_places namespaces_at l) i no_starts
      starts j = row_put (starts_of j) namespace_width namespace_places namespaces_at l i ws k at h w (omega arith) ∙ ap (set (rows (starts_of j) namespace_width namespace_places namespaces_at l) i) (c j)

-- a row of zeros is that of no namespace
pub zeros_free : namespace_of (replicate namespace_width 0) ≡ free_namespace
zeros_free = refl

pub zeros_cleared : Cleared (replicate namespace_width 0)
zeros_cleared User = refl
zeros_cleared Group = refl

-- ---- words put within the row of a namespace, which starts at a
pub map_within : (k : Kind) → map_at k + map_width ≤ namespace_width
map_within User = omega arith
map_within Group = omega arith

-- a row is read part by part
namespace_by : (r r' : List ℕ) {u g : IdMap} {d : Bool} → ((j : ℕ) → j < map_at User → get_or r j 0 ≡ get_or r' j 0) → map_of (take map_width (drop (map_at User) r)) ≡ u
    → map_of (take map_width (drop (map_at Group) r)) ≡ g → eqb (get_or r deny_at 0) 1 ≡ d
    → namespace_of r ≡ record { live = eqb (get_or r' 0 0) 1; parent = get_or r' 1 0; level = get_or r' 2 0; owner = get_or r' 3 0 % 2 ^ 32; users = u; groups = g; deny = d }
namespace_by r r' head eu eg ed = λ i. record {
  live = eqb (head 0 (omega arith) i) 1;
  parent = head 1 (omega arith) i;
  level = head 2 (omega arith) i;
  owner = head 3 (omega arith) i % 2 ^ 32;
  users = eu i;
  groups = eg i;
  deny = ed i;
}

module _ (l : List ℕ) (a : ℕ) (fits : a + namespace_width ≤ length l) where
  word_at : (l : List ℕ) (j : ℕ) → j < namespace_width → get_or (part namespace_width a l) j 0 ≡ get_or l (a + j) 0
  unfolding part
  word_at l j h = get_or-take namespace_width (drop a l) j 0 h ∙ get_or-drop a l j 0

  map_at_lem : (l : List ℕ) (k : Kind) → take map_width (drop (map_at k) (part namespace_width a l)) ≡ part map_width (a + map_at k) l
  map_at_lem l k = part_part map_width (map_at k) namespace_width a l (map_within k)

  module _ (at : ℕ) (ws : List ℕ) where
    abbrev after : List ℕ
    after = put_at l (a + at) ws

    -- what is read elsewhere
    word_kept : (j : ℕ) → j < namespace_width → (at + length ws ≤ j) ⊎ (j < at) → get_or (part namespace_width a after) j 0 ≡ get_or (part namespace_width a l) j 0
    word_kept j h o =
        word_at after j h ∙ put_elsewhere l (a + at) ws (a + j) (⊎_elim (λ x. inl (omega arith)) (λ x. inr (omega arith)) o) ∙ sym (word_at l j h)

    -- the words before the maps
    head_kept : map_at User ≤ at → (j : ℕ) → j < map_at User → get_or (part namespace_width a after) j 0 ≡ get_or (part namespace_width a l) j 0
    head_kept u j h = word_kept j (omega arith) (inr (omega arith))

    map_kept : (k : Kind) → (at + length ws ≤ map_at k) ⊎ (map_at k + map_width ≤ at) → take map_width (drop (map_at k) (part namespace_width a after)) ≡ take map_width (drop (map_at k) (part namespace_width a l))
    map_kept k o =
        map_at_lem after k ∙ part_put_apart l (a + at) ws map_width (a + map_at k) (⊎_elim (λ x. inl (omega arith)) (λ x. inr (omega arith)) o) ∙ sym (map_at_lem l k)

  -- the words of a map
  module _ (ws : List ℕ) (w : length ws ≡ map_width) where
    map_there : (k : Kind) → take map_width (drop (map_at k) (part namespace_width a (put_at l (a + map_at k) ws))) ≡ ws
    map_there k =
        map_at_lem (put_at l (a + map_at k) ws) k
        ∙ ap (λ (n : ℕ). part n (a + map_at k) (put_at l (a + map_at k) ws)) (sym w)
        ∙ part_put_same l (a + map_at k) ws (omega (arith, map_within k))

    with_map_lem : (k : Kind) → namespace_of (part namespace_width a (put_at l (a + map_at k) ws)) ≡ with_map k (namespace_of (part namespace_width a l)) (map_of ws)
    unfolding with_map
    with_map_lem User =
        namespace_by (part namespace_width a (put_at l (a + map_at User) ws)) (part namespace_width a l)
        (head_kept (map_at User) ws (omega arith)) (ap map_of (map_there User)) (ap map_of (map_kept (map_at User) ws Group (inl (omega arith))))
        (ap (λ (v : ℕ). eqb v 1) (word_kept (map_at User) ws deny_at (omega arith) (inl (omega arith))))
    with_map_lem Group =
        namespace_by (part namespace_width a (put_at l (a + map_at Group) ws)) (part namespace_width a l)
        (head_kept (map_at Group) ws (omega arith)) (ap map_of (map_kept (map_at Group) ws User (inr (omega arith)))) (ap map_of (map_there Group))
        (ap (λ (v : ℕ). eqb v 1) (word_kept (map_at Group) ws deny_at (omega arith) (inl (omega arith))))

  -- the word of the setting
  with_deny_lem : (v : ℕ) → namespace_of (part namespace_width a (put_at l (a + deny_at) (v ∷ []))) ≡ with_deny (namespace_of (part namespace_width a l)) (eqb v 1)
  unfolding with_deny
  with_deny_lem v =
      let ws = v ∷ [] in
      let z : a + deny_at + 0 ≡ a + deny_at = omega arith in
      let there : get_or (part namespace_width a (put_at l (a + deny_at) ws)) deny_at 0 ≡ v = word_at (put_at l (a + deny_at) ws) deny_at (omega arith) ∙ rw z at (put_word l (a + deny_at) ws (omega arith) 0 (omega arith)) in
      namespace_by (part namespace_width a (put_at l (a + deny_at) ws)) (part namespace_width a l)
      (head_kept deny_at ws (omega arith)) (ap map_of (map_kept deny_at ws User (inr (omega arith)))) (ap map_of (map_kept deny_at ws Group (inr (omega arith)))) (ap (λ (v : ℕ). eqb v 1) there)

module _ (l l' ws : List ℕ) (i k : ℕ) (long : length l ≡ tables_width) (h : i < namespace_places) (q : l' ≡ put_at l k ws) (row : ℕ) (start : row ≡ namespaces_at + i * namespace_width) where
  abbrev namespaces : List Namespace
  namespaces = rows namespace_of namespace_width namespace_places namespaces_at l

  fits : namespaces_at + i * namespace_width + namespace_width ≤ length l
  fits = omega arith

  here : namespace_of (part namespace_width (namespaces_at + i * namespace_width) l) ≡ namespace_at (tables_of l) i
  unfolding tables_of namespace_at
  here = sym (get_d_rows namespace_of namespace_width namespace_places namespaces_at l i free_namespace h)

  module _ (kind : Kind) (a : ℕ) (part : a ≡ map_at kind) (at : k ≡ row + a) (w : length ws ≡ map_width) (m : IdMap) (ys : List ℕ) (read : map_of ws ≡ m) (kept : starts_in ws ≡ ys) where
    put_there : l' ≡ put_at l (namespaces_at + i * namespace_width + map_at kind) ws
    put_there = q ∙ rw (at, part, start)

    stored_maps : rows namespace_of namespace_width namespace_places namespaces_at (put_at l (namespaces_at + i * namespace_width + map_at kind) ws) ≡ set namespaces i (with_map kind (namespace_at (tables_of l) i) m)
    stored_maps =
        rows_within namespace_of namespace_width namespace_places namespaces_at l i (map_at kind) ws h (omega (arith, map_within kind))
        ∙ ap (set namespaces i) (with_map_lem l (namespaces_at + i * namespace_width) fits ws w kind ∙ (λ z. with_map kind (here z) (read z)))

    stored_starts : rows (starts_of kind) namespace_width namespace_places namespaces_at (put_at l (namespaces_at + i * namespace_width + map_at kind) ws) ≡ set (rows (starts_of kind) namespace_width namespace_places namespaces_at l) i ys
    stored_starts =
        rows_within (starts_of kind) namespace_width namespace_places namespaces_at l i (map_at kind) ws h (omega (arith, map_within kind))
        ∙ ap (set (rows (starts_of kind) namespace_width namespace_places namespaces_at l) i) (ap starts_in (map_there l (namespaces_at + i * namespace_width) fits ws w kind) ∙ kept)

    other_starts : (j : Kind) → (map_at kind + length ws ≤ map_at j) ⊎ (map_at j + map_width ≤ map_at kind)
        → rows (starts_of j) namespace_width namespace_places namespaces_at (put_at l (namespaces_at + i * namespace_width + map_at kind) ws) ≡ rows (starts_of j) namespace_width namespace_places namespaces_at l
    other_starts j o =
        rows_still (starts_of j) namespace_width namespace_places namespaces_at l i (map_at kind) ws no_starts h (omega (arith, map_within kind))
        (ap starts_in (map_kept l (namespaces_at + i * namespace_width) fits (map_at kind) ws j o))

    processes_kept : rows process_of process_width process_places processes_at (put_at l (namespaces_at + i * namespace_width + map_at kind) ws) ≡ rows process_of process_width process_places processes_at l
    processes_kept = rows_apart process_of process_width process_places processes_at l (namespaces_at + i * namespace_width + map_at kind) ws (inr (omega arith))

  -- the map of a kind
  pub map_put : (kind : Kind) (a : ℕ) → a ≡ map_at kind → k ≡ row + a → length ws ≡ map_width → (m : IdMap) (ys : List ℕ) → map_of ws ≡ m → starts_in ws ≡ ys → tables_of l' ≡ put_map (tables_of l) kind i m ys
  unfolding tables_of put_map
  map_put User a p at w m ys r c =
      rw (put_there User a p at w m ys r c)
      (state (processes_kept User a p at w m ys r c) (stored_maps User a p at w m ys r c) (stored_starts User a p at w m ys r c) (other_starts User a p at w m ys r c Group (inl (omega arith))))
  map_put Group a p at w m ys r c =
      rw (put_there Group a p at w m ys r c)
      (state (processes_kept Group a p at w m ys r c) (stored_maps Group a p at w m ys r c) (other_starts Group a p at w m ys r c User (inr (omega arith))) (stored_starts Group a p at w m ys r c))

  -- the setting
  pub deny_put : (v : ℕ) (d : Bool) → ws ≡ v ∷ [] → v ≡ bool_byte d → k ≡ row + deny_at → tables_of l' ≡ put_namespace (tables_of l) i (with_deny (namespace_at (tables_of l) i) d)
  unfolding tables_of
  deny_put v d one flag at =
      let word : eqb v 1 ≡ d = ap (λ (x : ℕ). eqb x 1) flag ∙ flag_round d in
      let a = namespaces_at + i * namespace_width in
      rw (q, one, at, start)
      (state (rows_apart process_of process_width process_places processes_at l (a + deny_at) (v ∷ []) (inr (omega arith)))
      (rows_within namespace_of namespace_width namespace_places namespaces_at l i deny_at (v ∷ []) h (omega arith) ∙ ap (set namespaces i) (with_deny_lem l a fits v ∙ (λ z. with_deny (here z) (word z))))
      (starts User (inr (omega arith))) (starts Group (inr (omega arith))))
    where
      starts : (j : Kind) → (deny_at + 1 ≤ map_at j) ⊎ (map_at j + map_width ≤ deny_at)
          → rows (starts_of j) namespace_width namespace_places namespaces_at (put_at l (namespaces_at + i * namespace_width + deny_at) (v ∷ [])) ≡ rows (starts_of j) namespace_width namespace_places namespaces_at l
      starts j o =
          rows_still (starts_of j) namespace_width namespace_places namespaces_at l i deny_at (v ∷ []) no_starts h (omega arith)
          (ap starts_in (map_kept l (namespaces_at + i * namespace_width) fits deny_at (v ∷ []) j o))

-- where a part of a namespace's row starts is a number of 64 bits
pub map_fits : (k : Kind) (i row a : ℕ) → a ≡ map_at k → row ≡ namespaces_at + i * namespace_width → i < namespace_places → Fits w64 (row + a)
map_fits k i row a e s h = omega (arith, map_within k)

pub ruleset loads = (process_get, namespace_get, process_none, namespace_none, rules)

pub ruleset stores = (process_out, namespace_out, map_out, deny_out, process_put, namespace_put, zeros_free, zeros_cleared, map_put, deny_put, map_fits, rules)
