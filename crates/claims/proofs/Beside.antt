-- The kernel starts that the tables keep beside the lines are what the lines' parent starts stand for by the history, and
-- how an event and a store keep it so. No claim speaks of them. Assumes nothing.
use Rattle.std.specs.Prelude.{Option}
use Prim.Native.Nat.{ℕ, ◌<◌}
use mathlib.Core.Path.{◌≡◌, refl, sym, ap, ◌∙◌, subst}
use mathlib.Core.Bool.{cond, ◌&&◌}
use mathlib.Core.List.{List, [], ◌∷◌}
use lib.Dec.{eqb}
use lib.ListN.{length, length-set}
use borrow.Author.Tests.{eqb-true}
use Rattle.idmap.specs.declared.Line.{Line}
use Rattle.records.specs.declared.Kind.{Kind}
use Rattle.records.specs.declared.Kind.TheVariants.{User, Group}
use Rattle.records.specs.declared.Process.{Process}
use Rattle.records.specs.declared.Namespace.{Namespace}
use Rattle.records.specs.Records.{no_starts}
use Rattle.tables.specs.Tables.{State, namespace_places, starts_by, starts_at, put_starts, clear_starts}
use Rattle.prelude.proofs.Tests.{by_test, and_right}
use Rattle.claims.specs.Events.{Event}
use Rattle.claims.specs.Words.{is_namespace, parent_of, same_kind, written_of, or_none, written_lines}
use Rattle.claims.specs.TopLevel.{OutOf}
use Rattle.claims.proofs.Stores.{read_starts}
use Rattle.claims.proofs.Allowed.{Allowed, SoundAt}
use Rattle.claims.proofs.Kept.{parent_kept, out_kept}
use Rattle.claims.proofs.KernelStarts.{Started, started_kept}

-- ys are the kernel starts of the map of kind k of namespace n
abbrev pub StartedAt : List Event → Kind → ℕ → List ℕ → Type 0
StartedAt h k n ys = Started (OutOf k h (parent_of h n)) (written_lines k h n) ys

-- each namespace has the starts of both kinds that P asks for
pub record Keeps (s : State) (P : Kind → ℕ → List ℕ → Type 0) : Type 0 where
  pub places : (k : Kind) → length (starts_by k s) ≡ namespace_places
  pub started : (k : Kind) (n : ℕ) → P k n (starts_at s k n)

abbrev pub Beside : State → List Event → Type 0
Beside s h = Keeps s (λ (k : Kind) (n : ℕ) (ys : List ℕ). StartedAt h k n ys)

-- a map without lines has any
pub no_lines : (R : ℕ → ℕ → Type 0) (ls : List Line) (ys : List ℕ) → ls ≡ [] → Started R ls ys
unfolding Started
no_lines R ls ys e = rw e tt

-- ---- an allowed event keeps them, where it leaves the lines
module _ (e : Event) (h : List Event) (a : Allowed h e) (d : SoundAt h) where
  pub starts_kept : (k : Kind) (n : ℕ) (ys : List ℕ) → StartedAt h k n ys → Started (OutOf k (e ∷ h) (parent_of (e ∷ h) n)) (written_lines k h n) ys
  starts_kept k n ys r =
      by_test (is_namespace h n)
      (λ t. started_kept _ _ (λ x y o. rw (parent_kept e h a n t) (out_kept e h a d k (parent_of h n) x y o)) (written_lines k h n) ys r)
      (λ t. no_lines _ (written_lines k h n) ys (ap or_none (d.made k n t)))

  pub event_kept : (s : State) → ((k : Kind) → written_of k (e ∷ h) ≡ written_of k h) → Beside s h → Beside s (e ∷ h)
  event_kept s same b = record {
    places = b.places;
    started = λ k n.
        subst (λ (w : ℕ → Option (List Line)). Started (OutOf k (e ∷ h) (parent_of (e ∷ h) n)) (or_none (w n)) (starts_at s k n)) (sym (same k)) (starts_kept k n (starts_at s k n) (b.started k n));
  }

-- ---- stores
module _ (s : State) (h : List Event) (b : Beside s h) where
  -- processes and namespaces do not matter
  pub keeps_beside : (ps : List Process) (ns : List Namespace) → Beside (record { processes = ps; namespaces = ns; user_starts = s.user_starts; group_starts = s.group_starts }) h
  unfolding starts_at
  keeps_beside ps ns = record { places = b.places; started = b.started }

-- starts ys of kind j are stored at place q
module _ (s : State) (j : Kind) (q : ℕ) (ys : List ℕ) (long : (k : Kind) → length (starts_by k s) ≡ namespace_places) (i : q < namespace_places) where
  length_after : (k j : Kind) → length (starts_by k (put_starts s j q ys)) ≡ length (starts_by k s)
  length_after User User = length-set s.user_starts q ys
  length_after User Group = refl
  length_after Group User = refl
  length_after Group Group = length-set s.group_starts q ys

  pub stores_beside : (h : List Event) → ((k : Kind) (n : ℕ) → StartedAt h k n (cond (same_kind k j && eqb n q) ys (starts_at s k n))) → Beside (put_starts s j q ys) h
  stores_beside h f = record {
    places = λ k. length_after k j ∙ long k;
    started = λ k n. subst (StartedAt h k n) (sym (read_starts s j q ys k n (rw (long j) i))) (f k n);
  }

-- a place of a namespace without lines is cleared
pub clears_beside : (s : State) (h : List Event) (q : ℕ) → q < namespace_places → ((k : Kind) → written_lines k h q ≡ []) → Beside s h → Beside (clear_starts s q) h
clears_beside s h q i none b = cleared (put_starts s User q no_starts) Group (cleared s User b)
  where
    cleared : (s : State) (j : Kind) → Beside s h → Beside (put_starts s j q no_starts) h
    cleared s j b =
        stores_beside s j q no_starts b.places i h (λ k n.
        by_test (same_kind k j && eqb n q)
        (λ t. no_lines _ (written_lines k h n) _ (ap (written_lines k h) (eqb-true n q (and_right (same_kind k j) (eqb n q) t)) ∙ none k))
        (λ t. rw t (b.started k n)))
