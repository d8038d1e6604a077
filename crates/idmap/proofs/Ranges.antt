-- A range that lies whole in one line: of a good map a lookup's count decides it, and each single ID of the range has a
-- line. Assumes nothing.
use Rattle.std.proofs.Common.{◌≡◌, ℕ, zero, suc, ◌+◌, ◌-◌, ◌%◌, ◌^◌, ◌<◌, ◌≤◌, Bool, true, false, ◌&&◌, ltb, leb, List, [], ◌∷◌, length, get_or, sym, ap, ◌∙◌, true≢false, arith, rules, ltb-true, lt-ltb, le-leb, leb-true}
use Rattle.idmap.specs.declared.Line.{Line}
use Rattle.idmap.specs.declared.LookedUp.{LookedUp}
use Rattle.idmap.specs.Line.{less, in_range, no_line}
use Rattle.idmap.specs.Lookup.{lookup_of, reach_of}
use Rattle.idmap.specs.Good.{good_of, Within}
use Rattle.idmap.specs.Ranges.{has, one_has, lies_whole, HasLine, whole_by_reach}
use Rattle.prelude.proofs.Tests.{by_test, test_same, both, and_i}
use Rattle.idmap.proofs.Goodness.{bounded_of_lem}
use Rattle.idmap.proofs.Reach.{reach_to_end, reach_has_line}

-- ---- one line has both IDs
pub record OneHas (ls : List Line) (x y : ℕ) : Type 0 where
  pub which : ℕ
  pub which_in_range : which < length ls
  pub first : Within x (get_or ls which no_line).inside (get_or ls which no_line).count
  pub last : Within y (get_or ls which no_line).inside (get_or ls which no_line).count

has_within : (l : Line) (x : ℕ) → has l x ≡ true → Within x l.inside l.count
has_within l x e =
    let h = both (leb l.inside x) (ltb x (l.inside + l.count)) e in
    (leb-true l.inside x h.0, ltb-true x (l.inside + l.count) h.1)

within_has : (l : Line) (x : ℕ) → Within x l.inside l.count → has l x ≡ true
within_has l x w = and_i _ _ (le-leb l.inside x w.0) (lt-ltb x (l.inside + l.count) w.1)

one_has_lem : (ls : List Line) (x y : ℕ) → one_has ls x y ≡ true → OneHas ls x y
unfolding one_has
one_has_lem [] x y e = absurd (true≢false (sym e))
one_has_lem (l ∷ ls) x y e =
    by_test (has l x && has l y)
    (λ t. let h = both (has l x) (has l y) t in record { which = 0; which_in_range = omega arith; first = has_within l x h.0; last = has_within l y h.1 })
    (λ t. let h = one_has_lem ls x y (sym (rw t) ∙ e) in record { which = suc h.which; which_in_range = omega (arith, h.which_in_range); first = h.first; last = h.last })

has_one : (ls : List Line) (x y i : ℕ) → i < length ls → Within x (get_or ls i no_line).inside (get_or ls i no_line).count → Within y (get_or ls i no_line).inside (get_or ls i no_line).count → one_has ls x y ≡ true
unfolding one_has
has_one [] x y i h w v = absurd (omega arith)
has_one (l ∷ ls) x y zero h w v = rw (within_has l x w, within_has l y v)
has_one (l ∷ ls) x y (suc i) h w v =
    by_test (has l x && has l y) (λ t. rw t) (λ t. rw t (has_one ls x y i (omega arith) w v))

-- ---- what a range that lies whole says of its line, of each of its IDs and of each of its parts, on any lines
pub whole_in_lem : (ls : List Line) (start count : ℕ) → lies_whole ls start count ≡ true → OneHas ls start (start + count - 1)
unfolding lies_whole
whole_in_lem ls start count e = one_has_lem ls start (start + count - 1) (both (ltb 0 count) (one_has ls start (start + count - 1)) e).1

pub whole_has_line : (ls : List Line) (start count x : ℕ) → lies_whole ls start count ≡ true → Within x start count → HasLine ls x
whole_has_line ls start count x e w =
    let h = whole_in_lem ls start count e in
    (h.which, h.which_in_range, (omega (arith, h.first), omega (arith, h.last)))

pub whole_part : (ls : List Line) (start count from some : ℕ) → lies_whole ls start count ≡ true → 0 < some → start ≤ from → from + some ≤ start + count → lies_whole ls from some ≡ true
unfolding lies_whole
whole_part ls start count from some e h a b =
    let w = whole_in_lem ls start count e in
    and_i _ _ (lt-ltb 0 some h) (has_one ls from (from + some - 1) w.which w.which_in_range (omega (arith, w.first), omega (arith, w.last)) (omega (arith, w.first), omega (arith, w.last)))

-- ---- of a good map a lookup's count decides it
module _ (ls : List Line) (start count : ℕ) (g : good_of ls ≡ true) where
  whole_reach : lies_whole ls start count ≡ true → whole_by_reach ls start count ≡ true
  unfolding lies_whole whole_by_reach
  whole_reach e =
      let b = both (ltb 0 count) (one_has ls start (start + count - 1)) e in
      let h = one_has_lem ls start (start + count - 1) b.1 in
      let fits = (bounded_of_lem ls g h.which h.which_in_range).inside_fits in
      let small : start < 2 ^ 32 = omega (arith, h.first) in
      let r = reach_to_end ls start h.which g small h.which_in_range h.first in
      and_i _ _ (lt-ltb start (2 ^ 32) small) (and_i _ _ b.0 (le-leb count (reach_of ls start) (omega (arith, h.last))))

  reach_whole : whole_by_reach ls start count ≡ true → lies_whole ls start count ≡ true
  unfolding lies_whole whole_by_reach
  reach_whole e =
      let b = both (ltb start (2 ^ 32)) (ltb 0 count && leb count (reach_of ls start)) e in
      let c = both (ltb 0 count) (leb count (reach_of ls start)) b.1 in
      let small = ltb-true start (2 ^ 32) b.0 in
      let some = ltb-true 0 count c.0 in
      let most = leb-true count (reach_of ls start) c.1 in
      let h = reach_has_line ls start g small (omega arith) in
      let r = reach_to_end ls start h.0 g small h.1 h.2 in
      and_i _ _ c.0 (has_one ls start (start + count - 1) h.0 h.1 h.2 (omega (arith, h.2), omega (arith, h.2)))

  pub whole_by_reach_lem : whole_by_reach ls start count ≡ lies_whole ls start count
  whole_by_reach_lem = test_same _ _ reach_whole whole_reach

-- ---- lies_whole
-- the last of count IDs is d past the first
last_past : (start d last : ℕ) → start < 2 ^ 32 → d < 2 ^ 32 → last ≡ (start + d) % 2 ^ 32 → less last start ≡ d
last_past start d last h k e = omega arith

-- the count that a lookup answers
reach_is : (ls : List Line) (x : ℕ) (f : LookedUp) → f ≡ lookup_of ls x → f.reach ≡ reach_of ls x
unfolding reach_of
reach_is ls x f e = ap (λ (r : LookedUp). r.reach) e

-- it is in the reach of the first one's line
pub whole_is : (ls : List Line) (start count d last : ℕ) (f : LookedUp) (r : Bool) → start < 2 ^ 32 → (d + 1) % 2 ^ 32 ≡ count → d < 2 ^ 32
    → last ≡ (start + d) % 2 ^ 32 → f ≡ lookup_of ls start → f.reach < 2 ^ 32 → r ≡ in_range last start f.reach → r ≡ whole_by_reach ls start count
unfolding whole_by_reach
whole_is ls start count d last f r small e h past read top tested =
    tested ∙ rw (last_past start d last small h past, lt-ltb start (2 ^ 32) small, ← reach_is ls start f read)
    (test_same (ltb d f.reach) (ltb 0 count && leb count f.reach)
    (λ t. let q = ltb-true d f.reach t in and_i _ _ (lt-ltb 0 count (omega arith)) (le-leb count f.reach (omega arith)))
    (λ t.
    let q = both (ltb 0 count) (leb count f.reach) t in
    let some = ltb-true 0 count q.0 in
    let most = leb-true count f.reach q.1 in
    lt-ltb d f.reach (omega arith)))

pub ruleset ranges = (whole_is, rules)
