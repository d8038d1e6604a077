-- Translation by the tables is translation by the history, level by level. Assumes nothing.
use Rattle.std.specs.Prelude.{None}
use Prim.Native.Nat.{ℕ, zero, suc, ◌<◌, ◌%◌, ◌^◌}
use mathlib.Core.Path.{◌≡◌, sym, ap, ◌∙◌}
use mathlib.Core.Bool.{true}
use mathlib.Core.List.{List, [], map}
use native.Mathlib.Omega.{arith}
use lib.Dec.{eqb}
use borrow.Author.Tests.{eq-eqb, ne_eqb, eqb-true, eqb-false}
use Rattle.idmap.specs.declared.Line.{Line}
use Rattle.idmap.specs.Lookup.{out, then_id, flip, back}
use Rattle.idmap.specs.Ranges.{lies_whole}
use Rattle.idmap.specs.Good.{no_id, good_of}
use Rattle.idmap.proofs.Translation.{two_answers, out_low, out_back}
use Rattle.idmap.proofs.Ranges.{whole_by_reach_lem}
use Rattle.records.specs.declared.Kind.{Kind}
use Rattle.records.specs.Records.{on_kernels}
use Rattle.tables.specs.Tables.{State, starts_at}
use Rattle.hierarchy.specs.Walks.{Translation, height_of, itself}
use Rattle.hierarchy.specs.KernelStarts.{kernel_lines_at, to_kernel, from_kernel, whole_in, by_kernel_starts}
use Rattle.prelude.proofs.Tests.{by_test}
use Rattle.claims.specs.Translation.{by_levels, out_by, back_by}
use Rattle.claims.specs.Events.{Event}
use Rattle.claims.specs.Words.{is_namespace, parent_of, level_of, or_none, written_lines, stands_for}
use Rattle.claims.specs.Agreement.{Agreed}
use Rattle.claims.proofs.Pairs.{pairs_out, back_pairs, inside_small, parent_small}
use Rattle.claims.proofs.Sound.{deep}
use Rattle.claims.proofs.Agree.{lines_agree}
use Rattle.claims.proofs.Levels.{by_translated, nothing_out}
use Rattle.claims.proofs.Allowed.{SoundAt}
use Rattle.claims.proofs.HistoryLevels as History
use Rattle.claims.proofs.KernelStarts.{kernel_lookup, kernel_good}
use Rattle.claims.proofs.Beside.{StartedAt, Beside}

-- ---- lookups count the low 32 bits of an ID
low_out : (up : ℕ → ℕ) (lines : ℕ → List Line) (k n x : ℕ) → (n ≡ 0 → ⊥) → out_by up lines k n (x % 2 ^ 32) ≡ out_by up lines k n x
unfolding out_by
low_out up lines zero n x z = rw (ne_eqb n 0 z)
low_out up lines (suc k) n x z = rw (ne_eqb n 0 z, out_low (lines n) x)

-- the ID 'no ID' is in no line
no_back : (ls : List Line) → good_of ls ≡ true → back ls no_id ≡ None
no_back ls g =
    by_translated (back ls no_id)
    (λ x e. let p = parent_small ls x no_id g (back_pairs ls x no_id (omega arith) g e) in absurd (omega arith))
    (λ e. e)

-- so that a kernel ID comes back through the first map as its low 32 bits do
first_back : (ls : List Line) (y : ℕ) → good_of ls ≡ true → then_id (itself (y % 2 ^ 32)) (λ z. back ls z) ≡ then_id (itself y) (λ z. back ls z)
first_back ls y g =
    by_test (eqb (y % 2 ^ 32) no_id)
    (λ t.
    let same : back ls y ≡ None = sym (out_low (map flip ls) y) ∙ ap (back ls) (eqb-true (y % 2 ^ 32) no_id t) ∙ no_back ls g in
    by_test (eqb y no_id) (λ u. rw (t, u)) (λ u. rw (t, u) (sym same)))
    (λ t.
    let f = eqb-false (y % 2 ^ 32) no_id t in
    rw (t, ne_eqb y no_id (λ e. f (rw e))) (out_low (map flip ls) y))

root_back : (up : ℕ → ℕ) (lines : ℕ → List Line) (k n y : ℕ) → n ≡ 0 → back_by up lines k n y ≡ itself y
unfolding back_by
root_back up lines zero n y z = rw (eq-eqb n 0 z)
root_back up lines (suc k) n y z = rw (eq-eqb n 0 z)

low_back : (up : ℕ → ℕ) (lines : ℕ → List Line) → ((n : ℕ) → good_of (lines n) ≡ true) → (k n y : ℕ) → (n ≡ 0 → ⊥) → back_by up lines k n (y % 2 ^ 32) ≡ back_by up lines k n y
unfolding back_by
low_back up lines good zero n y z = rw (ne_eqb n 0 z)
low_back up lines good (suc k) n y z =
    by_test (eqb (up n) 0)
    (λ t.
    let u = eqb-true (up n) 0 t in
    rw (ne_eqb n 0 z, root_back up lines k (up n) y u, root_back up lines k (up n) (y % 2 ^ 32) u) (first_back (lines n) y (good n)))
    (λ t. rw (ne_eqb n 0 z, low_back up lines good k (up n) y (eqb-false (up n) 0 t)))

-- an ID of the initial namespace stands for itself
root_out : (up : ℕ → ℕ) (lines : ℕ → List Line) (k n x : ℕ) → n ≡ 0 → out_by up lines k n x ≡ itself x
unfolding out_by
root_out up lines zero n x z = rw (eq-eqb n 0 z)
root_out up lines (suc k) n x z = rw (eq-eqb n 0 z)

-- an ID of another namespace goes through its map, and then out from its parent
module _ (h : List Event) (d : SoundAt h) (k : Kind) where
  stands_step : (n x : ℕ) → (n ≡ 0 → ⊥) → stands_for k h n x ≡ then_id (out (written_lines k h n) x) (stands_for k h (parent_of h n))
  unfolding out_by out
  stands_step n x z =
      by_test (is_namespace h n)
      (λ t. rw (d.levelled n t z, ne_eqb n 0 z))
      (λ t.
      let e : written_lines k h n ≡ [] = ap or_none (d.made k n t) in
      nothing_out (parent_of h) (written_lines k h) (level_of h n) n x z e ∙ sym (rw e))

  -- ---- by the kernel starts of the lines
  module _ (n : ℕ) (z : n ≡ 0 → ⊥) (ys : List ℕ) (r : StartedAt h k n ys) where
    abbrev kernel_lines : List Line
    kernel_lines = on_kernels (written_lines k h n) ys

    lookup_stands : (x : ℕ) → x < 2 ^ 32 → out kernel_lines x ≡ stands_for k h n x
    lookup_stands x small =
        kernel_lookup (parent_of h) (written_lines k h) (d.good k) (d.whole k) (level_of h) (deep _ _ _ _ _ _ d k) (parent_of h n) (stands_for k h (parent_of h n)) (History.is_stands h d k (parent_of h n))
        (written_lines k h n) ys (d.good k n) (d.whole k n) r x small
        ∙ sym (stands_step n x z)

    lines_good : good_of kernel_lines ≡ true
    lines_good = kernel_good (parent_of h) (written_lines k h) (d.good k) (d.whole k) (level_of h) (deep _ _ _ _ _ _ d k) (parent_of h n) (written_lines k h n) ys (d.good k n) (d.whole k n) r

    lookup_returns : (y : ℕ) → y < 2 ^ 32 → back kernel_lines y ≡ back_by (parent_of h) (written_lines k h) (level_of h n) n y
    lookup_returns y small =
        by_translated (back kernel_lines y)
        (λ x e.
        let p = back_pairs kernel_lines x y small lines_good e in
        let s = inside_small kernel_lines x y lines_good p in
        let o = sym (lookup_stands x (omega arith)) ∙ pairs_out kernel_lines x y lines_good p in
        e ∙ sym (History.is_returns h d k n y x (History.out_back h d k n x y (History.stands_is h d k n x y (omega arith) o))))
        (λ e.
        by_translated (back_by (parent_of h) (written_lines k h) (level_of h n) n y)
        (λ x f.
        let b = History.returns_is h d k n y x small f in
        let s = History.back_small h d k n y x b in
        let o = lookup_stands x (omega arith) ∙ History.is_stands h d k n x y (History.back_out h d k n x y b) in
        absurd (two_answers (sym e ∙ out_back kernel_lines x y (omega arith) lines_good o)))
        (λ f. e ∙ sym f))

-- ---- so translation by the tables is that by the history
module _ (s : State) (h : List Event) (a : Agreed s h) (d : SoundAt h) (b : Beside s h) (k : Kind) where
  kernel_lines_lem : (n : ℕ) → kernel_lines_at s k n ≡ on_kernels (written_lines k h n) (starts_at s k n)
  kernel_lines_lem n = ap (λ (ls : List Line). on_kernels ls (starts_at s k n)) (lines_agree s h a k n)

  pub stands_agrees : (n x : ℕ) → to_kernel s k n x ≡ stands_for k h n x
  unfolding to_kernel
  stands_agrees n x =
      by_test (eqb n 0)
      (λ t. rw t (sym (root_out (parent_of h) (written_lines k h) (level_of h n) n x (eqb-true n 0 t))))
      (λ t.
      let z = eqb-false n 0 t in
      rw (t, kernel_lines_lem n)
      (sym (out_low (on_kernels (written_lines k h n) (starts_at s k n)) x)
      ∙ lookup_stands h d k n z (starts_at s k n) (b.started k n) (x % 2 ^ 32) (omega arith)
      ∙ low_out (parent_of h) (written_lines k h) (level_of h n) n x z))

  pub returns_agrees : (n y : ℕ) → from_kernel s k n y ≡ back_by (parent_of h) (written_lines k h) (level_of h n) n y
  unfolding from_kernel
  returns_agrees n y =
      by_test (eqb n 0)
      (λ t. rw t (sym (root_back (parent_of h) (written_lines k h) (level_of h n) n y (eqb-true n 0 t))))
      (λ t.
      let z = eqb-false n 0 t in
      rw (t, kernel_lines_lem n)
      (sym (out_low (map flip (on_kernels (written_lines k h n) (starts_at s k n))) y)
      ∙ lookup_returns h d k n z (starts_at s k n) (b.started k n) (y % 2 ^ 32) (omega arith)
      ∙ low_back (parent_of h) (written_lines k h) (d.good k) (level_of h n) n y z))

-- ---- the translation of a history, which is the level by level one of the tables
abbrev pub by_history : List Event → Translation
by_history h = record {
  out = λ (k : Kind) (n x : ℕ). stands_for k h n x;
  back = λ (k : Kind) (n y : ℕ). back_by (parent_of h) (written_lines k h) (level_of h n) n y;
  whole = λ (k : Kind) (n : ℕ). lies_whole (written_lines k h n);
}

module _ (s : State) (h : List Event) (a : Agreed s h) (d : SoundAt h) where
  height_agrees : (n : ℕ) → height_of s n ≡ level_of h n
  unfolding height_of
  height_agrees n = let b = d.shallow n in let e = a.namespace_level n in omega arith

  pub levels_history : by_levels s ≡ by_history h
  unfolding by_levels
  levels_history = λ i. record {
    out = λ (k : Kind) (n x : ℕ). out_by (λ (m : ℕ). a.namespace_parent m i) (λ (m : ℕ). lines_agree s h a k m i) (height_agrees n i) n x;
    back = λ (k : Kind) (n y : ℕ). back_by (λ (m : ℕ). a.namespace_parent m i) (λ (m : ℕ). lines_agree s h a k m i) (height_agrees n i) n y;
    whole = λ (k : Kind) (n : ℕ). lies_whole (lines_agree s h a k n i);
  }

  -- the maps are good, so a lookup's count decides whether a range lies whole in one line
  whole_agrees : (k : Kind) (n start count : ℕ) → whole_in s k n start count ≡ lies_whole (written_lines k h n) start count
  unfolding whole_in
  whole_agrees k n start count = rw (lines_agree s h a k n) (whole_by_reach_lem (written_lines k h n) start count (d.good k n))

  -- what the code does is what the papers say: out, back and ranges, for every kind, namespace and number
  pub same_translation : Beside s h → by_kernel_starts s ≡ by_levels s
  unfolding by_kernel_starts
  same_translation b =
      (λ i. record {
        out = λ (k : Kind) (n x : ℕ). stands_agrees s h a d b k n x i;
        back = λ (k : Kind) (n y : ℕ). returns_agrees s h a d b k n y i;
        whole = λ (k : Kind) (n start count : ℕ). whole_agrees k n start count i;
      })
      ∙ sym levels_history
