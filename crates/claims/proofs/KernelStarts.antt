-- A range of IDs that lies whole in one line goes out as one, so that lines with kernel starts on their parent side give
-- what the maps give level by level, whatever gives parents and maps. Assumes nothing.
use Rattle.std.specs.Prelude.{Option, Some}
use Prim.Native.Nat.{ℕ, zero, suc, ◌+◌, ◌-◌, ◌≤◌, ◌<◌, ◌^◌}
use mathlib.Core.Path.{◌≡◌, refl, sym, ap, ◌∙◌}
use mathlib.Core.Bool.{true}
use mathlib.Core.List.{List, [], ◌∷◌, zip_with}
use native.Mathlib.Omega.{arith}
use lib.Dec.{eqb}
use lib.ListN.{length, get_or}
use borrow.Author.Tests.{eqb-true, eqb-false}
use Rattle.idmap.specs.declared.Line.{Line}
use Rattle.idmap.specs.Line.{in_range, no_line}
use Rattle.idmap.specs.Lookup.{moved_by, out, then_id}
use Rattle.idmap.specs.Good.{no_id, good_of, all_apart, Within, Bounded, Apart}
use Rattle.idmap.specs.Ranges.{lies_whole}
use Rattle.idmap.proofs.Interval.{in_interval}
use Rattle.idmap.proofs.Goodness.{bounded_test, apart_test, bounded_of_lem, good_first, good_others, good_apart, apart_first_of}
use Rattle.idmap.proofs.Translation.{moved_is}
use Rattle.idmap.proofs.Ranges.{OneHas, whole_in_lem, whole_part}
use Rattle.records.specs.Records.{on_kernel}
use Rattle.mapping.specs.Calls.{all_whole}
use Rattle.prelude.proofs.Tests.{by_test, and_left, and_right, and_i}
use Rattle.claims.specs.Translation.{Pairs, GoesOut, top, through}
use Rattle.claims.proofs.Pairs.{pairs_out}
use Rattle.claims.proofs.Levels as Levels

-- ---- lines with as many kernel starts: each is what the line's parent start stands for
unfoldable pub Started : (ℕ → ℕ → Type 0) → List Line → List ℕ → Type 0
Started R [] ys = Unit {0}
Started R (l ∷ ls) [] = ⊥
Started R (l ∷ ls) (y ∷ ys) = R l.parent y × Started R ls ys

pub started_kept : (R S : ℕ → ℕ → Type 0) → ((x y : ℕ) → R x y → S x y) → (ls : List Line) (ys : List ℕ) → Started R ls ys → Started S ls ys
unfolding Started
started_kept R S f [] ys r = tt
started_kept R S f (l ∷ ls) [] r = r
started_kept R S f (l ∷ ls) (y ∷ ys) r = (f l.parent y r.0, started_kept R S f ls ys r.1)

-- ---- each line of those that all lie whole
pub whole_each : (above ls : List Line) (i : ℕ) → all_whole (lies_whole above) ls ≡ true → i < length ls → lies_whole above (get_or ls i no_line).parent (get_or ls i no_line).count ≡ true
unfolding all_whole
whole_each above [] i e h = absurd (omega arith)
whole_each above (l ∷ ls) zero e h = and_left (lies_whole above l.parent l.count) (all_whole (lies_whole above) ls) e
whole_each above (l ∷ ls) (suc i) e h = whole_each above ls i (and_right (lies_whole above l.parent l.count) (all_whole (lies_whole above) ls) e) (omega arith)

-- ---- one map: the c IDs from x on lie whole in one line
module _ (ls : List Line) (g : good_of ls ≡ true) (x c : ℕ) (w : lies_whole ls x c ≡ true) where
  there : OneHas ls x (x + c - 1)
  there = whole_in_lem ls x c w

  abbrev line : Line
  line = get_or ls there.which no_line

  abbrev first : ℕ
  first = line.parent + (x - line.inside)

  -- all of them go by the same offset
  moved : (i : ℕ) → i < c → Pairs ls (x + i) (first + i)
  moved i h = record {
    which = there.which;
    which_in_range = there.which_in_range;
    offset = x - line.inside + i;
    below_count = omega (arith, there.first, there.last);
    inside_is = omega (arith, there.first);
    parent_is = omega arith;
  }

  first_pair : 0 < c → Pairs ls x first
  first_pair h = let e : x + 0 ≡ x = omega arith in let f : first + 0 ≡ first = omega arith in rw (e, f) at (moved 0 h)

  only : (z : ℕ) → 0 < c → Pairs ls x z → first ≡ z
  only z h p = cc (pairs_out ls x first g (first_pair h), pairs_out ls x z g p)

  module _ (z : ℕ) (p : Pairs ls x z) where
    pub pairs_on : (i : ℕ) → i < c → Pairs ls (x + i) (z + i)
    pairs_on i h = rw (only z (omega arith) p) at (moved i h)

    -- to a range that lies in one line above where the line does
    pub whole_on : (above : List Line) → all_whole (lies_whole above) ls ≡ true → 0 < c → lies_whole above z c ≡ true
    whole_on above e h =
        let s = only z h p in
        whole_part above line.parent line.count z c (whole_each above ls there.which e there.which_in_range) h (omega arith) (omega (arith, there.first, there.last))

module _ (up : ℕ → ℕ) (lines : ℕ → List Line) (good : (n : ℕ) → good_of (lines n) ≡ true) (whole : (n : ℕ) → all_whole (lies_whole (lines (up n))) (lines n) ≡ true) where
  abbrev Out : ℕ → ℕ → ℕ → Type 0
  Out n x y = GoesOut up lines n x y

  out_small : (n x y : ℕ) → Out n x y → y < no_id
  out_small n x y (top e f h) = rw (← f) h
  out_small n x y (through e z p o) = out_small (up n) z y o

  -- an ID of a line is below 4,294,967,295
  whole_small : (n x c i : ℕ) → lies_whole (lines n) x c ≡ true → i < c → x + i < no_id
  whole_small n x c i w h =
      let o = whole_in_lem (lines n) x c w in
      let fits = (bounded_of_lem (lines n) (good n) o.which o.which_in_range).inside_fits in
      omega (arith, o.last)

  -- ---- all levels: where the first of a range goes, the others go by the same offset
  pub goes_on : (n x y c : ℕ) → lies_whole (lines n) x c ≡ true → Out n x y → (i : ℕ) → i < c → Out n (x + i) (y + i)
  goes_on n x y c w (top e f s) i h = top {x = x + i} {y = y + i} e (omega arith) (whole_small n x c i w h)
  goes_on n x y c w (through e z p o) i h =
      through e (z + i) (pairs_on (lines n) (good n) x c w z p i h)
      (goes_on (up n) z y c (whole_on (lines n) (good n) x c w z p (lines (up n)) (whole n) (omega arith)) o i h)

  module _ (level : ℕ → ℕ) (deep : (n x z : ℕ) → (n ≡ 0 → ⊥) → Pairs (lines n) x z → level (up n) < level n) where
    -- the first of a range that lies whole in one line goes out
    at_root : (n x c : ℕ) → 0 < c → lies_whole (lines n) x c ≡ true → n ≡ 0 → (y : ℕ) × Out n x y
    at_root n x c s w e = let z : x + 0 ≡ x = omega arith in (x, top e refl (rw z at (whole_small n x c 0 w s)))

    pub goes_out : (f n x c : ℕ) → level n ≤ f → 0 < c → lies_whole (lines n) x c ≡ true → (y : ℕ) × Out n x y
    goes_out zero n x c h s w =
        by_test (eqb n 0)
        (λ t. at_root n x c s w (eqb-true n 0 t))
        (λ t. let d = deep n x _ (eqb-false n 0 t) (first_pair (lines n) (good n) x c w s) in absurd (omega arith))
    goes_out (suc f) n x c h s w =
        by_test (eqb n 0)
        (λ t. at_root n x c s w (eqb-true n 0 t))
        (λ t.
        let z = first (lines n) (good n) x c w in
        let p = first_pair (lines n) (good n) x c w s in
        let d = deep n x z (eqb-false n 0 t) p in
        let r = goes_out f (up n) z c (omega arith) s (whole_on (lines n) (good n) x c w z p (lines (up n)) (whole n) s) in
        (r.0, through (eqb-false n 0 t) z p r.1))

    -- ---- lines ls whose parent sides lie whole in lines of namespace n, with their kernel starts ys
    module _ (n : ℕ) where
      abbrev Kernel : List Line → List ℕ → Type 0
      Kernel ls ys = Started (Out n) ls ys

      module _ (l : Line) (y : ℕ) (w : lies_whole (lines n) l.parent l.count ≡ true) (b : Bounded l) (o : Out n l.parent y) where
        fits : y + l.count ≤ no_id
        fits =
            let s = b.some in
            let q = out_small n (l.parent + (l.count - 1)) (y + (l.count - 1)) (goes_on n l.parent y l.count w o (l.count - 1) (omega arith)) in
            omega arith

        kernel_bounded : Bounded (on_kernel l y)
        kernel_bounded = record { some = b.some; inside_fits = b.inside_fits; parent_fits = fits }

        -- an ID of the line
        kernel_out : (v : ℕ) → Within v y l.count → Out n (l.parent + (v - y)) v
        kernel_out v i =
            let e : y + (v - y) ≡ v = omega (arith, i) in
            rw e at (goes_on n l.parent y l.count w o (v - y) (omega (arith, i)))

        -- what it goes to by its own start, it goes to by the parent's
        kernel_moved : (f : ℕ → Option ℕ) → ((x v : ℕ) → Out n x v → f x ≡ Some v) → (x : ℕ) → x < 2 ^ 32 → in_range x l.inside l.count ≡ true → Some (moved_by (on_kernel l y) x) ≡ f (moved_by l x)
        kernel_moved f g x small t =
            let i = in_interval x l.inside l.count small b.inside_fits t in
            let m = moved_is l b x small t in
            ap Some (moved_is (on_kernel l y) kernel_bounded x small t)
            ∙ sym (rw m (g (l.parent + (x - l.inside)) (y + (x - l.inside)) (goes_on n l.parent y l.count w o (x - l.inside) (omega (arith, i)))))

      first_whole : (l : Line) (ls : List Line) → all_whole (lies_whole (lines n)) (l ∷ ls) ≡ true → lies_whole (lines n) l.parent l.count ≡ true
      unfolding all_whole
      first_whole l ls e = and_left (lies_whole (lines n) l.parent l.count) (all_whole (lies_whole (lines n)) ls) e

      rest_whole : (l : Line) (ls : List Line) → all_whole (lies_whole (lines n)) (l ∷ ls) ≡ true → all_whole (lies_whole (lines n)) ls ≡ true
      unfolding all_whole
      rest_whole l ls e = and_right (lies_whole (lines n) l.parent l.count) (all_whole (lies_whole (lines n)) ls) e

      -- a lookup by the kernel starts is one by the lines, and then the way out from namespace n
      pub kernel_lookup : (f : ℕ → Option ℕ) → ((x v : ℕ) → Out n x v → f x ≡ Some v) → (ls : List Line) (ys : List ℕ) → good_of ls ≡ true → all_whole (lies_whole (lines n)) ls ≡ true → Kernel ls ys
          → (x : ℕ) → x < 2 ^ 32 → out (zip_with on_kernel ls ys) x ≡ then_id (out ls x) f
      unfolding zip_with out Started
      kernel_lookup f g [] ys s w r x small = refl
      kernel_lookup f g (l ∷ ls) [] s w r x small = absurd r
      kernel_lookup f g (l ∷ ls) (y ∷ ys) s w r x small =
          by_test (in_range x l.inside l.count)
          (λ t. rw t (kernel_moved l y (first_whole l ls w) (good_first l ls s) r.0 f g x small t))
          (λ t. rw t (kernel_lookup f g ls ys (good_others l ls s) (rest_whole l ls w) r.1 x small))

      -- the lines with kernel starts are a good map
      module _ (l m : Line) (y v : ℕ) (lw : lies_whole (lines n) l.parent l.count ≡ true) (mw : lies_whole (lines n) m.parent m.count ≡ true) (lb : Bounded l) (mb : Bounded m)
          (lo : Out n l.parent y) (mo : Out n m.parent v) where
        kernel_apart : Apart l m → Apart (on_kernel l y) (on_kernel m v)
        kernel_apart a = record {
          on_inside = a.on_inside;
          on_parent = λ z i j.
              let same = Levels.one_to_one up lines good level deep n (l.parent + (z - y)) (m.parent + (z - v)) z (kernel_out l y lw lb lo z i) (kernel_out m v mw mb mo z j) in
              a.on_parent (l.parent + (z - y)) (omega arith, omega (arith, i)) (omega (arith, same), omega (arith, same, j));
        }

      kernel_all_apart : (l : Line) (y : ℕ) → lies_whole (lines n) l.parent l.count ≡ true → Bounded l → Out n l.parent y
          → (ls : List Line) (ys : List ℕ) → good_of ls ≡ true → all_whole (lies_whole (lines n)) ls ≡ true → Kernel ls ys → all_apart l ls ≡ true → all_apart (on_kernel l y) (zip_with on_kernel ls ys) ≡ true
      unfolding zip_with all_apart Started
      kernel_all_apart l y lw lb lo [] ys s w r a = refl
      kernel_all_apart l y lw lb lo (m ∷ ls) [] s w r a = absurd r
      kernel_all_apart l y lw lb lo (m ∷ ls) (v ∷ ys) s w r a =
          let mw = first_whole m ls w in
          let mb = good_first m ls s in
          let q = apart_first_of l m ls a in
          and_i _ _
          (apart_test (on_kernel l y) (on_kernel m v) (kernel_bounded l y lw lb lo) (kernel_bounded m v mw mb r.0) (kernel_apart l m y v lw mw lb mb lo r.0 q.0))
          (kernel_all_apart l y lw lb lo ls ys (good_others m ls s) (rest_whole m ls w) r.1 q.1)

      pub kernel_good : (ls : List Line) (ys : List ℕ) → good_of ls ≡ true → all_whole (lies_whole (lines n)) ls ≡ true → Kernel ls ys → good_of (zip_with on_kernel ls ys) ≡ true
      unfolding zip_with good_of Started
      kernel_good [] ys s w r = refl
      kernel_good (l ∷ ls) [] s w r = absurd r
      kernel_good (l ∷ ls) (y ∷ ys) s w r =
          let lw = first_whole l ls w in
          let lb = good_first l ls s in
          let rest = rest_whole l ls w in
          let others = good_others l ls s in
          and_i _ _ (bounded_test (on_kernel l y) (kernel_bounded l y lw lb r.0))
          (and_i _ _ (kernel_all_apart l y lw lb r.0 ls ys others rest r.1 (good_apart l ls s)) (kernel_good ls ys others rest r.1))
