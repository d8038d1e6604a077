-- What is sound of processes, namespaces and maps, whatever gives them, and that each kind of event keeps it. Assumes
-- nothing.
use Rattle.std.specs.Prelude.{Option, Some, None}
use Prim.Native.Nat.{ℕ, suc, ◌≤◌, ◌<◌}
use mathlib.Core.Path.{◌≡◌, refl, sym, ap, ◌∙◌, subst}
use mathlib.Core.Bool.{Bool, true, false, cond, ◌&&◌, true≢false}
use mathlib.Core.List.{List, [], ◌∷◌}
use native.Mathlib.Nat.{not-suc-le-zero}
use native.Mathlib.Omega.{arith}
use lib.Dec.{eqb, leb, ltb}
use lib.ListN.{length}
use borrow.Author.Tests.{ne_eqb, eqb-true, leb-true}
use Rattle.tables.specs.Tables.{max_level}
use Rattle.idmap.specs.declared.Line.{Line}
use Rattle.idmap.specs.Good.{max_lines, good_of}
use Rattle.idmap.specs.Ranges.{one_has, lies_whole}
use Rattle.idmap.specs.Text.{checked, map_lines, text_lines}
use Rattle.records.specs.declared.Kind.{Kind}
use Rattle.records.specs.declared.Kind.TheVariants.{User, Group}
use Rattle.mapping.specs.Calls.{all_whole}
use Rattle.prelude.proofs.Tests.{by_test, cond_elim, and_left, and_right, both}
use Rattle.claims.specs.Words.{same_kind, or_none}
use Rattle.claims.specs.Translation.{Pairs}

-- a written map has one line at least, and no more than there is room for
abbrev pub Counted : Option (List Line) → Type 0
Counted None = Unit {0}
Counted (Some ls) = (1 ≤ length ls) × (length ls ≤ max_lines)

-- isP, isN: which numbers are processes and namespaces; place, up, level: a process's namespace, a namespace's parent
-- and level
pub record Sound (isP isN : ℕ → Bool) (place up level : ℕ → ℕ) (maps : Kind → ℕ → Option (List Line)) : Type 0 where
  pub no_zero : isP 0 ≡ false
  pub root : isN 0 ≡ true
  pub root_level : level 0 ≡ 0
  pub placed : (p : ℕ) → isP p ≡ true → isN (place p) ≡ true
  pub parented : (m : ℕ) → isN m ≡ true → isN (up m) ≡ true
  pub levelled : (m : ℕ) → isN m ≡ true → (m ≡ 0 → ⊥) → level m ≡ suc (level (up m))
  pub shallow : (m : ℕ) → level m ≤ max_level
  pub good : (k : Kind) (m : ℕ) → good_of (or_none (maps k m)) ≡ true
  pub counted : (k : Kind) (m : ℕ) → Counted (maps k m)
  pub whole : (k : Kind) (m : ℕ) → all_whole (lies_whole (or_none (maps k (up m)))) (or_none (maps k m)) ≡ true
  pub made : (k : Kind) (m : ℕ) → isN m ≡ false → maps k m ≡ None
  pub root_written : (k : Kind) → maps k 0 ≡ None → ⊥

pub same_kind_lem : (k j : Kind) → same_kind k j ≡ true → k ≡ j
same_kind_lem User User e = refl
same_kind_lem User Group e = absurd (true≢false (sym e))
same_kind_lem Group User e = absurd (true≢false (sym e))
same_kind_lem Group Group e = refl

-- a number that is one is not a number that is none
pub differ : (is : ℕ → Bool) (m n : ℕ) → is m ≡ true → is n ≡ false → m ≡ n → ⊥
differ is m n t f e = true≢false (sym t ∙ ap is e ∙ f)

-- the lines that a map's text has are some, not too many, and good
checked_lines : (ls : Option (List Line)) → (good_of (or_none (checked ls)) ≡ true) × Counted (checked ls)
unfolding checked good_of
checked_lines None = (refl, tt)
checked_lines (Some ls) =
    by_test (leb 1 (length ls) && (leb (length ls) max_lines && good_of ls))
    (λ t.
    let f = both (leb 1 (length ls)) (leb (length ls) max_lines && good_of ls) t in
    let g = both (leb (length ls) max_lines) (good_of ls) f.1 in
    rw t (g.1, (leb-true 1 (length ls) f.0, leb-true (length ls) max_lines g.0)))
    (λ t. rw t (refl, tt))

pub map_lines_good : (text : List ℕ) → good_of (or_none (map_lines text)) ≡ true
unfolding map_lines
map_lines_good text = (checked_lines (text_lines text)).0

pub map_lines_counted : (text : List ℕ) → Counted (map_lines text)
unfolding map_lines
map_lines_counted text = (checked_lines (text_lines text)).1

-- where there is no line above, no line lies whole in one
pub none_whole : (ls : List Line) → all_whole (lies_whole []) ls ≡ true → ls ≡ []
unfolding all_whole lies_whole one_has
none_whole [] e = refl
none_whole (l ∷ ls) e = absurd (true≢false (sym (and_right (ltb 0 l.count) false (and_left (ltb 0 l.count && false) (all_whole (lies_whole []) ls) e))))

-- an unwritten map has no line that does not
unwritten_whole : (whole : ℕ → ℕ → Bool) (o : Option (List Line)) → o ≡ None → all_whole whole (or_none o) ≡ true
unfolding all_whole
unwritten_whole whole o e = rw e

module _ (isP isN : ℕ → Bool) (place up level : ℕ → ℕ) (maps : Kind → ℕ → Option (List Line)) (s : Sound isP isN place up level maps) where
  -- a namespace that has a line is one, so its level is above its parent's
  no_pairs : (k : Kind) (m x z : ℕ) → isN m ≡ false → Pairs (or_none (maps k m)) x z → ⊥
  no_pairs k m x z f p = not-suc-le-zero (rw (s.made k m f) at p.which_in_range)

  pub deep : (k : Kind) (m x z : ℕ) → (m ≡ 0 → ⊥) → Pairs (or_none (maps k m)) x z → level (up m) < level m
  deep k m x z h p = by_test (isN m) (λ t. let e = s.levelled m t h in omega arith) (λ t. absurd (no_pairs k m x z t p))

  -- other processes, or the same in other places
  peopled : (isP' : ℕ → Bool) (place' : ℕ → ℕ) → isP' 0 ≡ false → ((p : ℕ) → isP' p ≡ true → isN (place' p) ≡ true) → Sound isP' isN place' up level maps
  peopled isP' place' z f = record {
    no_zero = z;
    root = s.root;
    root_level = s.root_level;
    placed = f;
    parented = s.parented;
    levelled = s.levelled;
    shallow = s.shallow;
    good = s.good;
    counted = s.counted;
    whole = s.whole;
    made = s.made;
    root_written = s.root_written;
  }

  -- process c goes to namespace n
  pub moves : (c n : ℕ) → isN n ≡ true → Sound isP isN (λ (p : ℕ). cond (eqb p c) n (place p)) up level maps
  moves c n t =
      peopled isP (λ (p : ℕ). cond (eqb p c) n (place p)) s.no_zero
      (λ p e. cond_elim (λ (m : ℕ). isN m ≡ true) (eqb p c) t (s.placed p e))

  -- process q begins in namespace n
  pub begins : (q n : ℕ) → (q ≡ 0 → ⊥) → isN n ≡ true → Sound (λ (p : ℕ). cond (eqb p q) true (isP p)) isN (λ (p : ℕ). cond (eqb p q) n (place p)) up level maps
  begins q n h t =
      peopled (λ (p : ℕ). cond (eqb p q) true (isP p)) (λ (p : ℕ). cond (eqb p q) n (place p))
      (let e : eqb 0 q ≡ false = ne_eqb 0 q (λ r. h (sym r)) in rw e s.no_zero)
      (λ p e. by_test (eqb p q) (λ r. rw r t) (λ r. rw r (s.placed p (sym (rw r) ∙ e))))

  -- namespace n is made, under namespace m
  module _ (n m : ℕ) (new : isN n ≡ false) (old : isN m ≡ true) (high : level m < max_level) where
    abbrev is_n' : ℕ → Bool
    is_n' i = cond (eqb i n) true (isN i)

    kept : (i : ℕ) → isN i ≡ true → is_n' i ≡ true
    kept i t = cond_elim (λ (b : Bool). b ≡ true) (eqb i n) refl t

    other_than : (i : ℕ) → isN i ≡ true → eqb i n ≡ false
    other_than i t = ne_eqb i n (differ isN i n t new)

    before : (i : ℕ) → eqb i n ≡ false → is_n' i ≡ true → isN i ≡ true
    before i r t = sym (rw r) ∙ t

    pub makes : Sound isP is_n' place (λ (i : ℕ). cond (eqb i n) m (up i)) (λ (i : ℕ). cond (eqb i n) (suc (level m)) (level i)) maps
    makes = record {
      no_zero = s.no_zero;
      root = kept 0 s.root;
      root_level = rw (other_than 0 s.root) s.root_level;
      placed = λ p e. kept (place p) (s.placed p e);
      parented = λ i t. by_test (eqb i n) (λ r. rw r (kept m old)) (λ r. rw r (kept (up i) (s.parented i (before i r t))));
      levelled = λ i t h.
          by_test (eqb i n)
          (λ r. rw (r, other_than m old))
          (λ r. let b = before i r t in rw (r, other_than (up i) (s.parented i b)) (s.levelled i b h));
      shallow = λ i. cond_elim (λ (l : ℕ). l ≤ max_level) (eqb i n) (omega arith) (s.shallow i);
      good = s.good;
      counted = s.counted;
      whole = λ k i.
          by_test (eqb i n)
          (λ r. unwritten_whole _ (maps k i) (s.made k i (ap isN (eqb-true i n r) ∙ new)))
          (λ r. rw r (s.whole k i));
      made = λ k i f. by_test (isN i) (λ t. absurd (true≢false (sym (kept i t) ∙ f))) (λ t. s.made k i t);
      root_written = s.root_written;
    }

  -- the map of kind j of namespace n is written, which was not, each line whole in one line above it
  module _ (j : Kind) (n : ℕ) (text : List ℕ) (t : isN n ≡ true) (u : maps j n ≡ None) (c : all_whole (lies_whole (or_none (maps j (up n)))) (or_none (map_lines text)) ≡ true) where
    abbrev maps' : Kind → ℕ → Option (List Line)
    maps' k m = cond (same_kind k j && eqb m n) (map_lines text) (maps k m)

    -- lines that lay whole in one line of a map do so still
    whole_kept : (k : Kind) (m : ℕ) (ls : List Line) → all_whole (lies_whole (or_none (maps k m))) ls ≡ true → all_whole (lies_whole (or_none (maps' k m))) ls ≡ true
    unfolding all_whole
    whole_kept k m ls l =
        by_test (same_kind k j && eqb m n)
        (λ r.
        let f = both (same_kind k j) (eqb m n) r in
        let none-there : maps k m ≡ None = (λ i. maps (same_kind_lem k j f.0 i) (eqb-true m n f.1 i)) ∙ u in
        rw (none_whole ls (rw none-there at l)))
        (λ r. rw r l)

    pub writes : Sound isP isN place up level maps'
    writes = record {
      no_zero = s.no_zero;
      root = s.root;
      root_level = s.root_level;
      placed = s.placed;
      parented = s.parented;
      levelled = s.levelled;
      shallow = s.shallow;
      good = λ k m. cond_elim (λ (r : Option (List Line)). good_of (or_none r) ≡ true) (same_kind k j && eqb m n) (map_lines_good text) (s.good k m);
      counted = λ k m. cond_elim Counted (same_kind k j && eqb m n) (map_lines_counted text) (s.counted k m);
      whole = λ k m.
          by_test (same_kind k j && eqb m n)
          (λ r.
          let f = both (same_kind k j) (eqb m n) r in
          let l = subst (λ (i : Kind × ℕ). all_whole (lies_whole (or_none (maps i.0 (up i.1)))) (or_none (map_lines text)) ≡ true) (λ i. (sym (same_kind_lem k j f.0) i, sym (eqb-true m n f.1) i)) c in
          rw r (whole_kept k (up m) (or_none (map_lines text)) l))
          (λ r. rw r (whole_kept k (up m) (or_none (maps k m)) (s.whole k m)));
      made = λ k m f.
          by_test (same_kind k j && eqb m n)
          (λ r. absurd (differ isN n m t f (sym (eqb-true m n (and_right (same_kind k j) (eqb m n) r)))))
          (λ r. rw r (s.made k m f));
      root_written = λ k e.
          by_test (same_kind k j && eqb 0 n)
          (λ r.
          let f = both (same_kind k j) (eqb 0 n) r in
          s.root_written k ((λ i. maps (same_kind_lem k j f.0 i) (eqb-true 0 n f.1 i)) ∙ u))
          (λ r. s.root_written k (rw r at e));
    }
