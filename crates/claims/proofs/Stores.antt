-- Reads after stores, at every place, and what the finds find. Assumes nothing.
use Rattle.std.specs.Prelude.{Some, None}
use Prim.Native.Nat.{ℕ, suc, ◌-◌, ◌≤◌, ◌<◌}
use mathlib.Core.Path.{◌≡◌, refl, sym, ap, ◌∙◌}
use mathlib.Core.Bool.{Bool, true, false, cond, ◌&&◌, true≢false}
use mathlib.Core.List.{List, [], ◌∷◌}
use native.Mathlib.Omega.{arith}
use lib.Dec.{eqb, ltb}
use lib.ListN.{length, get_or, set, get_or-eq_default}
use lib.Seq.{get_or-set_same, get_or-set_other}
use borrow.Author.Tests.{eq-eqb, eqb-true, eqb-false, ltb-true, ltb-false}
use Rattle.records.specs.declared.Process.{Process}
use Rattle.records.specs.declared.Namespace.{Namespace}
use Rattle.records.specs.declared.Kind.{Kind}
use Rattle.records.specs.declared.Kind.TheVariants.{User, Group}
use Rattle.records.specs.Records.{free_process, free_namespace, no_starts}
use Rattle.tables.specs.Tables.{State, process_at, namespace_at, starts_by, starts_at, put_process, put_namespace, put_starts}
use Rattle.tables.specs.Find.{caller_named, process_named, namespace_named, free_from, free_process_place, free_namespace_place, process_number}
use Rattle.prelude.proofs.Tests.{by_test, test_same}
use Rattle.claims.specs.Words.{same_kind}

-- a function of what a test picks
pub cond_ap : {A B : Type 0} (f : A → B) (t : Bool) (x y : A) → f (cond t x y) ≡ cond t (f x) (f y)
cond_ap f true x y = refl
cond_ap f false x y = refl

-- what stands at each place after a store
pub stored_or_kept : {A : Type 0} (l : List A) (q : ℕ) (x d : A) (i : ℕ) → q < length l → get_or (set l q x) i d ≡ cond (eqb i q) x (get_or l i d)
stored_or_kept l q x d i h =
    by_test (eqb i q)
    (λ t. let e : i ≡ q = eqb-true i q t in rw t (ap (λ (j : ℕ). get_or (set l q x) j d) e ∙ get_or-set_same l q x d h))
    (λ t. rw t (get_or-set_other l q i x d (eqb-false i q t)))

pub read_process : (s : State) (q : ℕ) (p : Process) (i : ℕ) → q < length s.processes → process_at (put_process s q p) i ≡ cond (eqb i q) p (process_at s i)
unfolding process_at
read_process s q p i h = stored_or_kept s.processes q p free_process i h

pub read_namespace : (s : State) (q : ℕ) (n : Namespace) (i : ℕ) → q < length s.namespaces → namespace_at (put_namespace s q n) i ≡ cond (eqb i q) n (namespace_at s i)
unfolding namespace_at
read_namespace s q n i h = stored_or_kept s.namespaces q n free_namespace i h

pub read_starts : (s : State) (j : Kind) (q : ℕ) (ys : List ℕ) (k : Kind) (i : ℕ) → q < length (starts_by j s) → starts_at (put_starts s j q ys) k i ≡ cond (same_kind k j && eqb i q) ys (starts_at s k i)
unfolding starts_at
read_starts s User q ys User i h = stored_or_kept s.user_starts q ys no_starts i h
read_starts s User q ys Group i h = refl
read_starts s Group q ys User i h = refl
read_starts s Group q ys Group i h = stored_or_kept s.group_starts q ys no_starts i h

-- ---- what is live is in range, since a place past the end is free
live_in_range : {A : Type 0} (live : A → Bool) (l : List A) (free : A) → live free ≡ false → (i : ℕ) → live (get_or l i free) ≡ true → i < length l
live_in_range live l free f i t =
    by_test (ltb i (length l))
    (λ r. ltb-true i (length l) r)
    (λ r. absurd (true≢false (sym t ∙ ap live (get_or-eq_default l free (ltb-false i (length l) r)) ∙ f)))

pub process_in_range : (s : State) (i : ℕ) → (process_at s i).live ≡ true → i < length s.processes
unfolding process_at
process_in_range s = live_in_range (λ (p : Process). p.live) s.processes free_process refl

pub namespace_in_range : (s : State) (i : ℕ) → (namespace_at s i).live ≡ true → i < length s.namespaces
unfolding namespace_at
namespace_in_range s = live_in_range (λ (n : Namespace). n.live) s.namespaces free_namespace refl

-- ---- what the finds find

two_finds : {i : ℕ} → None ≡ Some i → ⊥
two_finds e = let z : ◌≡◌ {A = ℕ} 0 1 = cc in omega arith

-- a process that is named: its number is one more than its place, where it is live
pub named : (s : State) (c i : ℕ) → caller_named s c ≡ Some i → (c ≡ process_number i) × ((process_at s i).live ≡ true)
unfolding caller_named
named s c i e =
    by_test (eqb c 0)
    (λ t. absurd (two_finds (sym (rw t) ∙ e)))
    (λ t.
    by_test (process_at s (c - 1)).live
    (λ r.
    let f : Some (c - 1) ≡ Some i = sym (rw (t, r)) ∙ e in
    let g : c - 1 ≡ i = cc in
    let n = eqb-false c 0 t in
    (omega arith, rw g at r))
    (λ r. absurd (two_finds (sym (rw (t, r)) ∙ e))))

pub space_named : (s : State) (p c i : ℕ) → namespace_named s p c ≡ Some i → (c ≡ i) × ((namespace_at s i).live ≡ true)
unfolding namespace_named
space_named s p c i e =
    by_test (namespace_at s c).live
    (λ r. let f : Some c ≡ Some i = sym (rw r) ∙ e in let g : c ≡ i = cc in (g, rw g at r))
    (λ r. absurd (two_finds (sym (rw r) ∙ e)))

-- a process that another one names is found as a caller is
pub process_named_lem : (s : State) (p name i : ℕ) → process_named s p name ≡ Some i → caller_named s name ≡ Some i
unfolding process_named
process_named_lem s p name i e = e

-- a place that is free is in range and not live
free_at : {A : Type 0} (live : A → Bool) (d : A) (k : ℕ) (xs : List A) (i : ℕ) → free_from live k xs ≡ Some i → (k ≤ i) × (i - k < length xs) × (live (get_or xs (i - k) d) ≡ false)
unfolding free_from
free_at live d k [] i e = absurd (two_finds e)
free_at live d k (x ∷ xs) i e =
    by_test (live x)
    (λ t.
    let r = free_at live d (suc k) xs i (sym (rw t) ∙ e) in
    let f : i - k ≡ suc (i - suc k) = omega (arith, r.0) in
    (omega (arith, r.0), omega (arith, r.0, r.1), rw f r.2))
    (λ t.
    let f : Some k ≡ Some i = sym (rw t) ∙ e in
    let g : k ≡ i = cc in
    let z : i - k ≡ 0 = omega arith in
    (omega arith, omega arith, rw z t))

pub free_process_lem : (s : State) (i : ℕ) → free_process_place s ≡ Some i → (i < length s.processes) × ((process_at s i).live ≡ false)
unfolding free_process_place process_at
free_process_lem s i e = let r = free_at (λ (p : Process). p.live) free_process 0 s.processes i e in let z : i - 0 ≡ i = omega arith in (rw z at r.1, rw z at r.2)

pub free_namespace_lem : (s : State) (i : ℕ) → free_namespace_place s ≡ Some i → (i < length s.namespaces) × ((namespace_at s i).live ≡ false)
unfolding free_namespace_place namespace_at
free_namespace_lem s i e = let r = free_at (λ (n : Namespace). n.live) free_namespace 0 s.namespaces i e in let z : i - 0 ≡ i = omega arith in (rw z at r.1, rw z at r.2)

-- ---- numbers of processes and their places
pub next_number : (i q : ℕ) → eqb (process_number i) (process_number q) ≡ eqb i q
next_number i q =
    test_same (eqb (process_number i) (process_number q)) (eqb i q)
    (λ t. let e = eqb-true (process_number i) (process_number q) t in eq-eqb i q (omega arith))
    (λ t. let e = eqb-true i q t in eq-eqb (process_number i) (process_number q) (omega arith))

pub same_number : (i c q : ℕ) → c ≡ process_number q → eqb (process_number i) c ≡ eqb i q
same_number i c q e = rw e (next_number i q)
