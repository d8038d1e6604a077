-- A lookup through one good map gives exactly what a line pairs. Assumes nothing.
use Rattle.std.specs.Prelude.{Some}
use Prim.Native.Nat.{ℕ, zero, suc, ◌+◌, ◌-◌, ◌<◌, ◌^◌}
use mathlib.Core.Path.{◌≡◌, sym, ap, ◌∙◌}
use mathlib.Core.Bool.{true}
use mathlib.Core.List.{List, [], ◌∷◌, map}
use native.Mathlib.Nat.{not-suc-le-zero}
use native.Mathlib.Omega.{arith}
use lib.ListN.{length, get_or}
use Rattle.idmap.specs.declared.Line.{Line}
use Rattle.idmap.specs.Line.{no_line, in_range}
use Rattle.idmap.specs.Lookup.{out, back, flip, moved_by}
use Rattle.idmap.specs.Good.{no_id, good_of, Bounded}
use Rattle.idmap.proofs.Interval.{in_interval, interval_in}
use Rattle.idmap.proofs.Goodness.{good_means, good_first, good_others, flip_good}
use Rattle.idmap.proofs.Translation.{two_answers, out_here, out_later, moved_is, out_back, back_out, out_below}
use Rattle.prelude.proofs.Tests.{by_test}
use Rattle.claims.specs.Translation.{Pairs}

-- what a lookup gives is paired
pub out_pairs : (ls : List Line) (x z : ℕ) → x < 2 ^ 32 → good_of ls ≡ true → out ls x ≡ Some z → Pairs ls x z
unfolding out
out_pairs [] x z small g e = absurd (two_answers e)
out_pairs (l ∷ ls) x z small g e =
    by_test (in_range x l.inside l.count)
    (λ p.
    let w = good_first l ls g in
    let i = in_interval x l.inside l.count small w.inside_fits p in
    let z-is : moved_by l x ≡ z = cc (out_here l ls x p) in
    let m = moved_is l w x small p in
    record { which = 0; which_in_range = omega arith; offset = x - l.inside; below_count = omega arith; inside_is = omega arith; parent_is = sym z-is ∙ m })
    (λ p.
    let r = out_pairs ls x z small (good_others l ls g) (sym (out_later l ls x p) ∙ e) in
    record { which = suc r.which; which_in_range = omega arith; offset = r.offset; below_count = r.below_count; inside_is = r.inside_is; parent_is = r.parent_is })

-- an ID that a line of a good map has is below 2 to the 32, on either side
module _ (ls : List Line) (x z : ℕ) (g : good_of ls ≡ true) (p : Pairs ls x z) where
  bound_of : Bounded (get_or ls p.which no_line)
  bound_of = ((good_means ls).0 g).bounded p.which p.which_in_range

  pub inside_small : x < no_id
  inside_small = let b = bound_of.inside_fits in let o = p.below_count in rw p.inside_is (omega arith)

  pub parent_small : z < no_id
  parent_small = let b = bound_of.parent_fits in let o = p.below_count in rw p.parent_is (omega arith)

-- what is paired is what a lookup gives: no other line has the ID
pairs_at : (ls : List Line) (x z : ℕ) → good_of ls ≡ true → (i o : ℕ) → i < length ls → o < (get_or ls i no_line).count → x ≡ (get_or ls i no_line).inside + o → z ≡ (get_or ls i no_line).parent + o → x < 2 ^ 32 → out ls x ≡ Some z
unfolding out
pairs_at [] x z g i o h b e f s = absurd (not-suc-le-zero h)
pairs_at (l ∷ ls) x z g zero o h b e f s =
    let w = good_first l ls g in
    let t = interval_in x l.inside l.count s w.inside_fits (omega arith, omega arith) in
    out_here l ls x t ∙ ap Some (moved_is l w x s t ∙ omega arith)
pairs_at (l ∷ ls) x z g (suc i) o h b e f s =
    by_test (in_range x l.inside l.count)
    (λ p.
    let w = good_first l ls g in
    let k = in_interval x l.inside l.count s w.inside_fits p in
    absurd ((((good_means (l ∷ ls)).0 g).apart 0 (suc i) (omega arith) h).on_inside x k (omega arith, omega arith)))
    (λ p. out_later l ls x p ∙ pairs_at ls x z (good_others l ls g) i o (omega arith) b e f s)

pub pairs_out : (ls : List Line) (x z : ℕ) → good_of ls ≡ true → Pairs ls x z → out ls x ≡ Some z
pairs_out ls x z g p =
    let s = inside_small ls x z g p in
    pairs_at ls x z g p.which p.offset p.which_in_range p.below_count p.inside_is p.parent_is (omega arith)

-- the way back alike
pub back_pairs : (ls : List Line) (x z : ℕ) → z < 2 ^ 32 → good_of ls ≡ true → back ls z ≡ Some x → Pairs ls x z
back_pairs ls x z small g e =
    let s = out_below (map flip ls) z x small (flip_good ls g) e in
    out_pairs ls x z (omega arith) g (back_out ls x z small g e)

pub pairs_back : (ls : List Line) (x z : ℕ) → good_of ls ≡ true → Pairs ls x z → back ls z ≡ Some x
pairs_back ls x z g p = let s = inside_small ls x z g p in out_back ls x z (omega arith) g (pairs_out ls x z g p)
