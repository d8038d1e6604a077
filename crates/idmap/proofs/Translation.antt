-- The laws of translation through one map: back undoes out, out undoes back, and both are one to one. Each is stated
-- once, over the lines; the other direction is the same law of the lines with their sides exchanged. Assumes nothing.
use Rattle.std.proofs.Common.{◌≡◌, ℕ, ◌+◌, ◌-◌, ◌%◌, ◌^◌, ◌<◌, true, false, List, [], ◌∷◌, map, sym, refl, ap, ◌∙◌, arith, Some, None}
use Rattle.idmap.specs.declared.Line.{Line}
use Rattle.idmap.specs.Line.{less, in_range}
use Rattle.idmap.specs.Lookup.{moved_by, out, flip, back}
use Rattle.idmap.specs.Good.{no_id, all_apart, good_of, Within, Bounded}
use Rattle.prelude.proofs.Tests.{by_test}
use Rattle.idmap.proofs.Interval.{in_interval, interval_in}
use Rattle.idmap.proofs.Goodness.{flip_good, good_first, good_others, good_apart, apart_first_of}

-- an answer is not both
pub two_answers : {x : ℕ} → None ≡ Some x → ⊥
two_answers e = let z : ◌≡◌ {A = ℕ} 0 1 = cc in omega arith

-- the first line holds the ID, or the others answer
module _ (l : Line) (ls : List Line) (x : ℕ) where
  pub out_here : in_range x l.inside l.count ≡ true → out (l ∷ ls) x ≡ Some (moved_by l x)
  unfolding out
  out_here t = rw t

  pub out_later : in_range x l.inside l.count ≡ false → out (l ∷ ls) x ≡ out ls x
  unfolding out
  out_later t = rw t

-- an ID that a line holds goes to one that the line holds on the parent side, and comes back
module _ (l : Line) (w : Bounded l) (x : ℕ) (small : x < 2 ^ 32) (t : in_range x l.inside l.count ≡ true) where
  pub moved_is : moved_by l x ≡ l.parent + (x - l.inside)
  moved_is = let h = in_interval x l.inside l.count small w.inside_fits t in let f = w.parent_fits in omega arith

  pub moved_within : Within (moved_by l x) l.parent l.count
  moved_within = let h = in_interval x l.inside l.count small w.inside_fits t in rw moved_is (omega arith, omega arith)

  moved_in : in_range (moved_by l x) l.parent l.count ≡ true
  moved_in =
      let h = moved_within in
      let f = w.parent_fits in
      interval_in (moved_by l x) l.parent l.count (omega arith) f h

  moved_back : moved_by (flip l) (moved_by l x) ≡ x
  moved_back =
      let h = in_interval x l.inside l.count small w.inside_fits t in
      let f = w.inside_fits in
      let g = w.parent_fits in
      rw moved_is (omega arith)

-- what lines that lie apart from l give, l does not hold on the parent side
pub away : (l : Line) (ls : List Line) (x y : ℕ) → Bounded l → x < 2 ^ 32 → all_apart l ls ≡ true → good_of ls ≡ true → out ls x ≡ Some y → in_range y l.parent l.count ≡ false
unfolding out
away l [] x y w small a s e = absurd (two_answers e)
away l (m ∷ ls) x y w small a s e =
    by_test (in_range x m.inside m.count)
    (λ p.
    let y-is : moved_by m x ≡ y = cc (out_here m ls x p) in
    let there : Within y m.parent m.count = rw y-is at (moved_within m (good_first m ls s) x small p) in
    let fits = (good_first m ls s).parent_fits in
    by_test (in_range y l.parent l.count)
    (λ q. absurd ((apart_first_of l m ls a).0.on_parent y (in_interval y l.parent l.count (omega arith) w.parent_fits q) there))
    (λ q. q))
    (λ p. away l ls x y w small (apart_first_of l m ls a).1 (good_others m ls s) (sym (out_later m ls x p) ∙ e))

-- the way back undoes the way out
pub out_back : (ls : List Line) (x y : ℕ) → x < 2 ^ 32 → good_of ls ≡ true → out ls x ≡ Some y → back ls y ≡ Some x
unfolding out
out_back [] x y small s e = absurd (two_answers e)
out_back (l ∷ ls) x y small s e =
    by_test (in_range x l.inside l.count)
    (λ p.
    let w = good_first l ls s in
    let y-is : moved_by l x ≡ y = cc (out_here l ls x p) in
    out_here (flip l) (map flip ls) y (rw y-is at (moved_in l w x small p)) ∙ ap Some (rw y-is at (moved_back l w x small p)))
    (λ p.
    let later = sym (out_later l ls x p) ∙ e in
    out_later (flip l) (map flip ls) y (away l ls x y (good_first l ls s) small (good_apart l ls s) (good_others l ls s) later)
    ∙ out_back ls x y small (good_others l ls s) later)

-- lines with their sides exchanged twice are the lines
pub flip_flip : (ls : List Line) → map flip (map flip ls) ≡ ls
flip_flip [] = refl
flip_flip (l ∷ ls) = ap (λ (r : List Line). l ∷ r) (flip_flip ls)

-- the way out undoes the way back
pub back_out : (ls : List Line) (x y : ℕ) → y < 2 ^ 32 → good_of ls ≡ true → back ls y ≡ Some x → out ls x ≡ Some y
back_out ls x y small s e = rw flip_flip at (out_back (map flip ls) y x small (flip_good ls s) e)

-- different mapped IDs give different results, out and back
pub out_one_to_one : (ls : List Line) (x x' y : ℕ) → x < 2 ^ 32 → x' < 2 ^ 32 → good_of ls ≡ true → out ls x ≡ Some y → out ls x' ≡ Some y → x ≡ x'
out_one_to_one ls x x' y small small' s e e' = cc (out_back ls x y small s e, out_back ls x' y small' s e')

pub back_one_to_one : (ls : List Line) (y y' x : ℕ) → y < 2 ^ 32 → y' < 2 ^ 32 → good_of ls ≡ true → back ls y ≡ Some x → back ls y' ≡ Some x → y ≡ y'
back_one_to_one ls y y' x small small' s e e' = out_one_to_one (map flip ls) y y' x small small' (flip_good ls s) e e'

-- what a lookup gives is an ID, below 4,294,967,295
pub out_below : (ls : List Line) (x y : ℕ) → x < 2 ^ 32 → good_of ls ≡ true → out ls x ≡ Some y → y < no_id
unfolding out
out_below [] x y small s e = absurd (two_answers e)
out_below (l ∷ ls) x y small s e =
    by_test (in_range x l.inside l.count)
    (λ p.
    let y-is : moved_by l x ≡ y = cc (out_here l ls x p) in
    let h = moved_within l (good_first l ls s) x small p in
    let f = (good_first l ls s).parent_fits in
    omega arith)
    (λ p. out_below ls x y small (good_others l ls s) (sym (out_later l ls x p) ∙ e))

-- document 01: 4,294,967,295 is never mapped, out or back
pub no_id_out : (ls : List Line) → good_of ls ≡ true → out ls no_id ≡ None
unfolding out
no_id_out [] s = refl
no_id_out (l ∷ ls) s =
    by_test (in_range no_id l.inside l.count)
    (λ p. let h = in_interval no_id l.inside l.count (omega arith) (good_first l ls s).inside_fits p in let f = (good_first l ls s).inside_fits in absurd (omega arith))
    (λ p. out_later l ls no_id p ∙ no_id_out ls (good_others l ls s))

pub no_id_back : (ls : List Line) → good_of ls ≡ true → back ls no_id ≡ None
no_id_back ls s = no_id_out (map flip ls) (flip_good ls s)

-- ---- on any lines: a lookup counts the low 32 bits of an ID
less_low : (x a : ℕ) → less (x % 2 ^ 32) a ≡ less x a
less_low x a = omega arith

pub out_low : (ls : List Line) (x : ℕ) → out ls (x % 2 ^ 32) ≡ out ls x
unfolding out
out_low [] x = refl
out_low (l ∷ ls) x = rw (less_low x l.inside, out_low ls x)
