-- How far a lookup holds: its count is 0 exactly where the ID is unmapped, and through a good map it is the number of IDs
-- from this one to the end of its line, which translate by the same offset. Coming back, it is the same law of the lines
-- with their sides exchanged. Assumes nothing.
use Rattle.std.proofs.Common.{◌≡◌, ℕ, zero, suc, ◌+◌, ◌-◌, ◌^◌, ◌<◌, true, false, ◌↔◌, List, [], ◌∷◌, map, length, get_or, sym, refl, ap, ◌∙◌, arith, ltb-true, Some, None}
use Rattle.idmap.specs.declared.Line.{Line}
use Rattle.idmap.specs.Line.{less, in_range, no_line}
use Rattle.idmap.specs.Lookup.{moved_by, left_from, out, reach_of, flip, back, Reaches}
use Rattle.idmap.specs.Good.{good_of, Within}
use Rattle.idmap.specs.Ranges.{HasLine}
use Rattle.prelude.proofs.Tests.{by_test}
use Rattle.idmap.proofs.Interval.{in_interval, interval_in}
use Rattle.idmap.proofs.Goodness.{bounded_of_lem, flip_good, good_first, good_others, apart_of_lem}
use Rattle.idmap.proofs.Translation.{two_answers, out_here, out_later, moved_is}

-- the first line holds the ID, or the others answer
module _ (l : Line) (ls : List Line) (x : ℕ) where
  pub reach_here : in_range x l.inside l.count ≡ true → reach_of (l ∷ ls) x ≡ left_from l x
  unfolding reach_of
  reach_here t = rw t

  pub reach_later : in_range x l.inside l.count ≡ false → reach_of (l ∷ ls) x ≡ reach_of ls x
  unfolding reach_of
  reach_later t = rw t

  -- a line that holds the ID has it left at least
  some_left : in_range x l.inside l.count ≡ true → 0 < left_from l x
  some_left t = let h = ltb-true (less x l.inside) l.count t in omega arith

-- ---- on any lines: 0 exactly where the ID is unmapped
none_unmapped : (ls : List Line) (x : ℕ) → reach_of ls x ≡ 0 → out ls x ≡ None
unfolding out
none_unmapped [] x e = refl
none_unmapped (l ∷ ls) x e =
    by_test (in_range x l.inside l.count)
    (λ t. let h = some_left l ls x t in let z = sym (reach_here l ls x t) ∙ e in absurd (omega arith))
    (λ t. out_later l ls x t ∙ none_unmapped ls x (sym (reach_later l ls x t) ∙ e))

unmapped_none : (ls : List Line) (x : ℕ) → out ls x ≡ None → reach_of ls x ≡ 0
unfolding reach_of
unmapped_none [] x e = refl
unmapped_none (l ∷ ls) x e =
    by_test (in_range x l.inside l.count)
    (λ t. absurd (two_answers (sym e ∙ out_here l ls x t)))
    (λ t. reach_later l ls x t ∙ unmapped_none ls x (sym (out_later l ls x t) ∙ e))

pub reach_none : (ls : List Line) (x : ℕ) → (reach_of ls x ≡ 0) ↔ (out ls x ≡ None)
reach_none ls x = (none_unmapped ls x, unmapped_none ls x)

-- ---- through a good map
-- a line has the ID where the count is not 0, and the count goes to the end of the line that has it
pub reach_has_line : (ls : List Line) (x : ℕ) → good_of ls ≡ true → x < 2 ^ 32 → 0 < reach_of ls x → HasLine ls x
unfolding reach_of
reach_has_line [] x g small h = absurd (omega arith)
reach_has_line (l ∷ ls) x g small h =
    by_test (in_range x l.inside l.count)
    (λ t. (0, omega arith, in_interval x l.inside l.count small (good_first l ls g).inside_fits t))
    (λ t.
    let m = reach_has_line ls x (good_others l ls g) small (rw (reach_later l ls x t) at h) in
    (suc m.0, omega (arith, m.1), m.2))

pub reach_to_end : (ls : List Line) (x i : ℕ) → good_of ls ≡ true → x < 2 ^ 32 → i < length ls → Within x (get_or ls i no_line).inside (get_or ls i no_line).count
    → reach_of ls x ≡ (get_or ls i no_line).inside + (get_or ls i no_line).count - x
reach_to_end [] x i g small h w = absurd (omega arith)
reach_to_end (l ∷ ls) x zero g small h w =
    reach_here l ls x (interval_in x l.inside l.count small (good_first l ls g).inside_fits w) ∙ omega arith
reach_to_end (l ∷ ls) x (suc i) g small h w =
    by_test (in_range x l.inside l.count)
    (λ t.
    let v = in_interval x l.inside l.count small (good_first l ls g).inside_fits t in
    absurd ((apart_of_lem (l ∷ ls) g 0 (suc i) (omega arith) h).on_inside x v w))
    (λ t. reach_later l ls x t ∙ reach_to_end ls x i (good_others l ls g) small (omega arith) w)

module _ (l : Line) (ls : List Line) (g : good_of (l ∷ ls) ≡ true) (x y : ℕ) (small : x < 2 ^ 32) where
  -- the first line holds the ID
  reaches_here : in_range x l.inside l.count ≡ true → moved_by l x ≡ y → Reaches (l ∷ ls) x y (left_from l x)
  reaches_here t e =
      let b = good_first l ls g in
      let fits = b.inside_fits in
      let w = in_interval x l.inside l.count small fits t in
      let left : left_from l x ≡ l.inside + l.count - x = omega arith in
      record {
        which = 0;
        which_in_range = omega arith;
        some = some_left l ls x t;
        in_line = λ i. ((λ h. (omega arith, omega arith)), λ v. omega arith);
        same_offset = λ i h.
            let here = interval_in (x + i) l.inside l.count (omega arith) fits (omega arith, omega arith) in
            let from = moved_is l b x small t in
            out_here l ls (x + i) here ∙ ap Some (moved_is l b (x + i) (omega arith) here ∙ omega arith);
      }

  -- a later one does, so the first line holds none of the IDs
  reaches_later : (n : ℕ) → Reaches ls x y n → Reaches (l ∷ ls) x y n
  reaches_later n r = record {
    which = suc r.which;
    which_in_range = omega (arith, r.which_in_range);
    some = r.some;
    in_line = r.in_line;
    same_offset = λ i h.
        let w = (r.in_line i).0 h in
        let fits = (good_first l ls g).inside_fits in
        let ends = (bounded_of_lem ls (good_others l ls g) r.which r.which_in_range).inside_fits in
        let low : x + i < 2 ^ 32 = omega arith in
        by_test (in_range (x + i) l.inside l.count)
        (λ t. absurd ((apart_of_lem (l ∷ ls) g 0 (suc r.which) (omega arith) (omega (arith, r.which_in_range))).on_inside (x + i) (in_interval (x + i) l.inside l.count low fits t) w))
        (λ t. out_later l ls (x + i) t ∙ r.same_offset i h);
  }

-- each of that many IDs from x on, and no further one of its line, translates by the same offset
pub reaches : (ls : List Line) (x y : ℕ) → good_of ls ≡ true → x < 2 ^ 32 → out ls x ≡ Some y → Reaches ls x y (reach_of ls x)
unfolding out
reaches [] x y g small e = absurd (two_answers e)
reaches (l ∷ ls) x y g small e =
    by_test (in_range x l.inside l.count)
    (λ t. let y-is : moved_by l x ≡ y = cc (out_here l ls x t) in rw (reach_here l ls x t) (reaches_here l ls g x y small t y-is))
    (λ t. rw (reach_later l ls x t) (reaches_later l ls g x y small (reach_of ls x) (reaches ls x y (good_others l ls g) small (sym (out_later l ls x t) ∙ e))))

pub reaches_back : (ls : List Line) (y x : ℕ) → good_of ls ≡ true → y < 2 ^ 32 → back ls y ≡ Some x → Reaches (map flip ls) y x (reach_of (map flip ls) y)
reaches_back ls y x g small e = reaches (map flip ls) y x (flip_good ls g) small e
