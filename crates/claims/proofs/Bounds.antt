-- On tables that a list of calls leaves, the bounds of the definitions are never met. Assumes nothing.
use Rattle.std.specs.Prelude.{Option, Some, None}
use Prim.Native.Nat.{ℕ, zero, suc, ◌≤◌, ◌<◌}
use mathlib.Core.Path.{◌≡◌, refl, sym, ap, ◌∙◌, subst}
use mathlib.Core.Bool.{Bool, true, false, true≢false}
use mathlib.Core.List.{List}
use mathlib.Core.Logic.{◌↔◌}
use native.Mathlib.Omega.{arith}
use lib.Dec.{eqb}
use lib.ListN.{length, get_or}
use borrow.Author.Tests.{eq-eqb, ne_eqb, eqb-true, eqb-false}
use Rattle.capability.specs.Sets.{holds}
use Rattle.idmap.specs.declared.Line.{Line}
use Rattle.idmap.specs.Line.{no_line}
use Rattle.idmap.specs.Good.{max_lines}
use Rattle.idmap.specs.Ranges.{lies_whole, HasLine}
use Rattle.idmap.proofs.Goodness.{good_means}
use Rattle.idmap.proofs.Ranges.{whole_has_line}
use Rattle.records.specs.declared.MapState.TheVariants.{Unwritten, Written}
use Rattle.records.specs.declared.Kind.{Kind}
use Rattle.records.specs.declared.Process.{Process}
use Rattle.records.specs.Records.{map_in}
use Rattle.tables.specs.Tables.{State, process_at, namespace_at, max_level}
use Rattle.hierarchy.specs.Walks.{height_of, owned_by, holds_in, capable_in}
use Rattle.mapping.specs.Calls.{all_whole}
use Rattle.credentials.specs.declared.translate.Way.TheVariants.{Out, Back}
use Rattle.calls.specs.Calls.{Request}
use Rattle.prelude.proofs.Tests.{by_test, and_left, and_right, and_i}
use Rattle.claims.specs.Translation.{by_levels}
use Rattle.claims.specs.Events.{Event}
use Rattle.claims.specs.Words.{Held, is_namespace, parent_of, level_of, written_of, or_none, written_lines, held}
use Rattle.claims.specs.TopLevel.{OnParentSide, Has}
use Rattle.claims.specs.History.{run, history, events, AllFit}
use Rattle.claims.specs.Bounds.{HoldsCapability, member, inherited, owner, lines_at, Bounds}
use Rattle.claims.specs.Agreement.{state_for, Agreed}
use Rattle.claims.proofs.Sound.{Counted}
use Rattle.claims.proofs.Allowed.{SoundAt, sound}
use Rattle.claims.proofs.Levels.{nothing_out, nothing_back}
use Rattle.claims.proofs.KernelStarts.{whole_each}
use Rattle.claims.proofs.Carried.{held_small, few_groups}
use Rattle.claims.proofs.Agree.{lines_agree}
use Rattle.claims.proofs.Stores.{process_in_range, namespace_in_range}
use Rattle.claims.proofs.Translating.{levels_history}
use Rattle.claims.proofs.Theorem.{reached, by_history_lem}

-- ---- an ID on the parent side of lines that lie whole in one line above has that line
parent_covered : (above ls : List Line) (z : ℕ) → all_whole (lies_whole above) ls ≡ true → OnParentSide ls z → HasLine above z
parent_covered above ls z e (x, p) =
    let q = p.parent_is in
    let b = p.below_count in
    let l = get_or ls p.which no_line in
    whole_has_line above l.parent l.count z (whole_each above ls p.which e p.which_in_range) (omega arith, omega arith)

module _ (s : State) (h : List Event) (a : Agreed s h) (d : SoundAt h) where
  -- the tables' own levels and parents
  level_of_parent : (n : ℕ) → (namespace_at s n).live ≡ true → (n ≡ 0 → ⊥) → (namespace_at s n).level ≡ suc (namespace_at s (namespace_at s n).parent).level
  level_of_parent n t f =
      a.namespace_level n ∙ d.levelled n (sym (a.namespace_live n) ∙ t) f
      ∙ ap suc (sym (a.namespace_level (namespace_at s n).parent ∙ ap (level_of h) (a.namespace_parent n)))

  parent_is_live : (n : ℕ) → (namespace_at s n).live ≡ true → (namespace_at s (namespace_at s n).parent).live ≡ true
  parent_is_live n t = a.namespace_live (namespace_at s n).parent ∙ ap (is_namespace h) (a.namespace_parent n) ∙ d.parented n (sym (a.namespace_live n) ∙ t)

  level_most : (n : ℕ) → (namespace_at s n).level ≤ max_level
  level_most n = let b = d.shallow n in let e = a.namespace_level n in omega arith

  height_is : (n : ℕ) → height_of s n ≡ (namespace_at s n).level
  unfolding height_of
  height_is n = let b = level_most n in omega arith

  module _ (p : Process) (c : ℕ) where
    abbrev own : ℕ
    own = p.namespace

    abbrev euid : ℕ
    euid = p.users.effective

    abbrev mine : Bool
    mine = holds p.effective.bits c

    -- what the walk finds follows by the rules
    owner_by : (n : ℕ) → eqb n 0 ≡ false → owned_by own euid (namespace_at s n) ≡ true → HoldsCapability s p c n
    unfolding owned_by
    owner_by n z o =
        owner (eqb-false n 0 z)
        (eqb-true (namespace_at s n).parent own (and_left (eqb (namespace_at s n).parent own) (eqb (namespace_at s n).owner euid) o))
        (eqb-true (namespace_at s n).owner euid (and_right (eqb (namespace_at s n).parent own) (eqb (namespace_at s n).owner euid) o))

    walk_rules : (k n : ℕ) → holds_in s own euid mine k n ≡ true → HoldsCapability s p c n
    unfolding holds_in
    walk_rules zero n e =
        by_test (eqb n own) (λ t. member (eqb-true n own t) (sym (rw t) ∙ e)) (λ t.
        by_test (eqb n 0) (λ z. absurd (true≢false (sym e ∙ rw (t, z)))) (λ z. owner_by n z (sym (rw (t, z)) ∙ e)))
    walk_rules (suc k) n e =
        by_test (eqb n own) (λ t. member (eqb-true n own t) (sym (rw t) ∙ e)) (λ t.
        by_test (eqb n 0) (λ z. absurd (true≢false (sym e ∙ rw (t, z)))) (λ z.
        by_test (owned_by own euid (namespace_at s n)) (λ o. owner_by n z o) (λ o.
        inherited (eqb-false n 0 z) (walk_rules k (namespace_at s n).parent (sym (rw (t, z, o)) ∙ e)))))

    -- no rule gives it above the process's own namespace
    nothing_above : (n : ℕ) → (namespace_at s n).live ≡ true → (namespace_at s n).level < (namespace_at s own).level → HoldsCapability s p c n → ⊥
    nothing_above n t l (member e f) = let g : (namespace_at s n).level ≡ (namespace_at s own).level = ap (λ (m : ℕ). (namespace_at s m).level) e in omega arith
    nothing_above n t l (inherited f r) =
        let g = level_of_parent n t f in nothing_above (namespace_at s n).parent (parent_is_live n t) (omega arith) r
    nothing_above n t l (owner f e o) =
        let g = level_of_parent n t f in
        let i : (namespace_at s (namespace_at s n).parent).level ≡ (namespace_at s own).level = ap (λ (m : ℕ). (namespace_at s m).level) e in
        omega arith

    -- what follows by the rules the walk finds, in as many steps as the level says
    owned_test : (n : ℕ) → (namespace_at s n).parent ≡ own → (namespace_at s n).owner ≡ euid → owned_by own euid (namespace_at s n) ≡ true
    unfolding owned_by
    owned_test n e f = and_i _ _ (eq-eqb (namespace_at s n).parent own e) (eq-eqb (namespace_at s n).owner euid f)

    not_own : (n : ℕ) → (namespace_at s n).live ≡ true → (n ≡ 0 → ⊥) → (namespace_at s n).parent ≡ own → eqb n own ≡ false
    not_own n t f e =
        ne_eqb n own (λ r.
        let g = level_of_parent n t f in
        let i : (namespace_at s (namespace_at s n).parent).level ≡ (namespace_at s n).level = ap (λ (m : ℕ). (namespace_at s m).level) (e ∙ sym r) in
        omega arith)

    rules_walk : (k n : ℕ) → (namespace_at s n).live ≡ true → (namespace_at s n).level ≤ k → HoldsCapability s p c n → holds_in s own euid mine k n ≡ true
    unfolding holds_in
    rules_walk zero n t l (member e f) = rw (eq-eqb n own e, f)
    rules_walk zero n t l (inherited f r) = let g = level_of_parent n t f in absurd (omega arith)
    rules_walk zero n t l (owner f e o) = let g = level_of_parent n t f in absurd (omega arith)
    rules_walk (suc k) n t l (member e f) = rw (eq-eqb n own e, f)
    rules_walk (suc k) n t l (inherited f r) =
        let g = level_of_parent n t f in
        by_test (eqb n own)
        (λ e.
        let i : (namespace_at s n).level ≡ (namespace_at s own).level = ap (λ (m : ℕ). (namespace_at s m).level) (eqb-true n own e) in
        absurd (nothing_above (namespace_at s n).parent (parent_is_live n t) (omega arith) r))
        (λ e.
        by_test (owned_by own euid (namespace_at s n))
        (λ o. rw (e, ne_eqb n 0 f, o))
        (λ o. rw (e, ne_eqb n 0 f, o) (rules_walk k (namespace_at s n).parent (parent_is_live n t) (omega arith) r)))
    rules_walk (suc k) n t l (owner f e o) = rw (not_own n t f e, ne_eqb n 0 f, owned_test n e o)

    pub capable_rules : (n : ℕ) → (namespace_at s n).live ≡ true → (capable_in s p n c ≡ true) ↔ HoldsCapability s p c n
    unfolding capable_in
    capable_rules n t =
        ((λ e. walk_rules (height_of s n) n e), (λ r. rules_walk (height_of s n) n t (let g = height_is n in omega arith) r))

  -- ---- what stands in the tables
  counts : (o : Option (List Line)) (c : ℕ) → Counted o → state_for o ≡ Written c → (1 ≤ c) × (c ≤ max_lines) × (length (or_none o) ≡ c)
  counts None c b e = absurd (let z : ◌≡◌ {A = ℕ} 0 1 = cc in omega arith)
  counts (Some ls) c b e = let f : length ls ≡ c = cc in (omega (arith, b.0), omega (arith, b.1), f)

  line_counts : (k : Kind) (n c : ℕ) → (map_in k (namespace_at s n)).state ≡ Written c → (1 ≤ c) × (c ≤ max_lines) × (length (lines_at s k n) ≡ c)
  line_counts k n c e = rw (lines_agree s h a k n) (counts (written_of k h n) c (d.counted k n) (sym (a.namespace_state k n) ∙ e))

  lines_whole : (k : Kind) (n : ℕ) → all_whole (lies_whole (lines_at s k (namespace_at s n).parent)) (lines_at s k n) ≡ true
  lines_whole k n =
      rw (lines_agree s h a k (namespace_at s n).parent ∙ ap (written_lines k h) (a.namespace_parent n), lines_agree s h a k n) (d.whole k n)

  unwritten_none : (o : Option (List Line)) → state_for o ≡ Unwritten → o ≡ None
  unwritten_none None e = refl
  unwritten_none (Some ls) e = absurd (let z : ◌≡◌ {A = ℕ} 0 1 = cc in omega arith)

  -- namespace 0's map is written, and through no lines nothing is found
  translates_nothing : (k : Kind) (n x : ℕ) → written_of k h n ≡ None → ((by_levels s).out k n x ≡ None) × ((by_levels s).back k n x ≡ None)
  translates_nothing k n x e =
      let z : n ≡ 0 → ⊥ = λ q. d.root_written k (ap (written_of k h) (sym q) ∙ e) in
      let u = levels_history s h a d in (
        (λ i. (u i).out k n x) ∙ nothing_out (parent_of h) (written_lines k h) (level_of h n) n x z (ap or_none e),
        (λ i. (u i).back k n x) ∙ nothing_back (parent_of h) (written_lines k h) (level_of h n) n x z (ap or_none e),
      )

pub bounds : (rs : List Request) → AllFit rs → Bounds rs
bounds rs f =
    let s = run rs in
    let h = events (history rs) in
    let r = reached rs f in
    let d = sound h r.valid in
    let a = r.agree in
    record {
      walk = λ i n c t u. capable_rules s h a d (process_at s i) c n u;
      out = λ k n x y small. by_history_lem (by_levels s) s h d (levels_history s h a d) k Out n x small y;
      back = λ k n y x small. by_history_lem (by_levels s) s h d (levels_history s h a d) k Back n y small x;
      process_in_range = λ i t. rw a.processes_length at (process_in_range s i t);
      namespace_in_range = λ n t. rw a.namespaces_length at (namespace_in_range s n t);
      place_live = λ i t.
          a.namespace_live (process_at s i).namespace ∙ ap (is_namespace h) (a.process_place i) ∙ d.placed (suc i) (sym (a.process_live i) ∙ t);
      parent_live = parent_is_live s h a d;
      levels = level_most s h a d;
      carried_ids = λ k i y q. held_small k h r.valid (suc i) y (subst (λ (m : Held). Has y (held m)) (a.process_ids k i) q);
      group_count = λ i. rw (a.process_count i) (few_groups h r.valid (suc i));
      line_counts = line_counts s h a d;
      lines_good = λ k n. rw (lines_agree s h a k n) ((good_means (written_lines k h n)).0 (d.good k n));
      whole = lines_whole s h a d;
      covered = λ k n z o. parent_covered (lines_at s k (namespace_at s n).parent) (lines_at s k n) z (lines_whole s h a d k n) o;
      unwritten = λ k n x e. translates_nothing s h a d k n x (unwritten_none s h a d (written_of k h n) (sym (a.namespace_state k n) ∙ e));
    }
