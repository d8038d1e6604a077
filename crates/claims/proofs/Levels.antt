-- Translation level by level over any parents and lines whose maps are good and whose levels fall from a mapped
-- namespace to its parent: the lookups give what the relations say, each has one result, and the way out passes every
-- namespace above. Assumes nothing.
use Rattle.std.specs.Prelude.{Option, Some, None}
use Prim.Native.Nat.{ℕ, zero, suc, ◌≤◌, ◌<◌, ◌^◌}
use mathlib.Core.Path.{◌≡◌, refl, sym, ap, ◌∙◌, subst}
use mathlib.Core.Bool.{true}
use mathlib.Core.List.{List, []}
use native.Mathlib.Omega.{arith}
use lib.Dec.{eqb}
use borrow.Author.Tests.{eq-eqb, ne_eqb, eqb-true, eqb-false}
use Rattle.idmap.specs.declared.Line.{Line}
use Rattle.idmap.specs.Lookup.{out, then_id, back}
use Rattle.idmap.specs.Good.{no_id, good_of}
use Rattle.idmap.proofs.Translation.{two_answers}
use Rattle.hierarchy.specs.Walks.{itself}
use Rattle.prelude.proofs.Tests.{by_test}
use Rattle.claims.specs.Translation.{Pairs, GoesOut, top, through, ComesBack, bottom, down, Under, here, deeper, out_by, back_by}
use Rattle.claims.proofs.Pairs.{out_pairs, pairs_out, back_pairs, pairs_back, inside_small, parent_small}

-- a translation is an ID or not
pub by_translated : {P : Type 0} (t : Option ℕ) → ((z : ℕ) → t ≡ Some z → P) → (t ≡ None → P) → P
by_translated (Some z) f g = f z refl
by_translated None f g = g refl

-- an ID of namespace 0
itself_is : (x y : ℕ) → x < 2 ^ 32 → itself x ≡ Some y → (x ≡ y) × (x < no_id)
itself_is x y small e =
    by_test (eqb x no_id)
    (λ t. absurd (two_answers (sym (rw t) ∙ e)))
    (λ t. let n = eqb-false x no_id t in let f : Some x ≡ Some y = sym (rw t) ∙ e in let q : x ≡ y = cc in (q, omega arith))

is_itself : (x : ℕ) → x < no_id → itself x ≡ Some x
is_itself x h = by_test (eqb x no_id) (λ t. let e = eqb-true x no_id t in absurd (omega arith)) (λ t. rw t)

module _ (up : ℕ → ℕ) (lines : ℕ → List Line) (good : (n : ℕ) → good_of (lines n) ≡ true) where
  -- what the lookups give, the relations have
  pub out_is : (k n x y : ℕ) → x < 2 ^ 32 → out_by up lines k n x ≡ Some y → GoesOut up lines n x y
  unfolding out_by
  out_is zero n x y small e =
      by_test (eqb n 0)
      (λ t. let r = itself_is x y small (sym (rw t) ∙ e) in top (eqb-true n 0 t) r.0 r.1)
      (λ t. absurd (two_answers (sym (rw t) ∙ e)))
  out_is (suc k) n x y small e =
      by_test (eqb n 0)
      (λ t. let r = itself_is x y small (sym (rw t) ∙ e) in top (eqb-true n 0 t) r.0 r.1)
      (λ t.
      by_translated (out (lines n) x)
      (λ z f.
      let p = out_pairs (lines n) x z small (good n) f in
      let s = parent_small (lines n) x z (good n) p in
      through (eqb-false n 0 t) z p (out_is k (up n) z y (omega arith) (sym (rw (t, f)) ∙ e)))
      (λ f. absurd (two_answers (sym (rw (t, f)) ∙ e))))

  pub back_small : (n y x : ℕ) → ComesBack up lines n y x → x < no_id
  back_small n y x (bottom e f h) = h
  back_small n y x (down e z b p) = inside_small (lines n) x z (good n) p

  pub back_is : (k n y x : ℕ) → y < 2 ^ 32 → back_by up lines k n y ≡ Some x → ComesBack up lines n y x
  unfolding back_by
  back_is zero n y x small e =
      by_test (eqb n 0)
      (λ t. let r = itself_is y x small (sym (rw t) ∙ e) in bottom (eqb-true n 0 t) (sym r.0) (rw r.0 at r.1))
      (λ t. absurd (two_answers (sym (rw t) ∙ e)))
  back_is (suc k) n y x small e =
      by_test (eqb n 0)
      (λ t. let r = itself_is y x small (sym (rw t) ∙ e) in bottom (eqb-true n 0 t) (sym r.0) (rw r.0 at r.1))
      (λ t.
      by_translated (back_by up lines k (up n) y)
      (λ z f.
      let b = back_is k (up n) y z small f in
      let s = back_small (up n) y z b in
      down (eqb-false n 0 t) z b (back_pairs (lines n) x z (omega arith) (good n) (sym (rw (t, f)) ∙ e)))
      (λ f. absurd (two_answers (sym (rw (t, f)) ∙ e))))

  -- out and back are one relation, read from either end
  pub out_back : (n x y : ℕ) → GoesOut up lines n x y → ComesBack up lines n y x
  out_back n x y (top e f h) = bottom e f h
  out_back n x y (through e z p o) = down e z (out_back (up n) z y o) p

  pub back_out : (n x y : ℕ) → ComesBack up lines n y x → GoesOut up lines n x y
  back_out n x y (bottom e f h) = top e f h
  back_out n x y (down e z b p) = through e z p (back_out (up n) z y b)

  -- the way out from under b passes b
  pub passes : (b n x y : ℕ) → Under up b n → GoesOut up lines n x y → (w : ℕ) × GoesOut up lines b w y
  passes b n x y (here e) o = (x, subst (λ (m : ℕ). GoesOut up lines m x y) e o)
  passes b n x y (deeper e u) (top f g h) = absurd (e f)
  passes b n x y (deeper e u) (through f z p o) = passes b (up n) z y u o

  module _ (level : ℕ → ℕ) (deep : (n x z : ℕ) → (n ≡ 0 → ⊥) → Pairs (lines n) x z → level (up n) < level n) where
    -- what the relations have, the lookups give in as many steps as the level says
    pub is_out : (k n x y : ℕ) → level n ≤ k → GoesOut up lines n x y → out_by up lines k n x ≡ Some y
    unfolding out_by
    is_out zero n x y h (top e f s) = rw (eq-eqb n 0 e) (is_itself x s ∙ ap Some f)
    is_out zero n x y h (through e z p o) = let d = deep n x z e p in absurd (omega arith)
    is_out (suc k) n x y h (top e f s) = rw (eq-eqb n 0 e) (is_itself x s ∙ ap Some f)
    is_out (suc k) n x y h (through e z p o) =
        let d = deep n x z e p in
        rw (ne_eqb n 0 e, pairs_out (lines n) x z (good n) p) (is_out k (up n) z y (omega arith) o)

    pub is_back : (k n y x : ℕ) → level n ≤ k → ComesBack up lines n y x → back_by up lines k n y ≡ Some x
    unfolding back_by
    is_back zero n y x h (bottom e f s) = rw (eq-eqb n 0 e) (rw (sym f) (is_itself x s))
    is_back zero n y x h (down e z b p) = let d = deep n x z e p in absurd (omega arith)
    is_back (suc k) n y x h (bottom e f s) = rw (eq-eqb n 0 e) (rw (sym f) (is_itself x s))
    is_back (suc k) n y x h (down e z b p) =
        let d = deep n x z e p in
        rw (ne_eqb n 0 e, is_back k (up n) y z (omega arith) b) (pairs_back (lines n) x z (good n) p)

    -- each gives one result only, and different IDs have different results
    pub out_once : (n x y y' : ℕ) → GoesOut up lines n x y → GoesOut up lines n x y' → y ≡ y'
    out_once n x y y' o o' = cc (is_out (level n) n x y (omega arith) o, is_out (level n) n x y' (omega arith) o')

    pub back_once : (n y x x' : ℕ) → ComesBack up lines n y x → ComesBack up lines n y x' → x ≡ x'
    back_once n y x x' b b' = cc (is_back (level n) n y x (omega arith) b, is_back (level n) n y x' (omega arith) b')

    pub one_to_one : (n x x' y : ℕ) → GoesOut up lines n x y → GoesOut up lines n x' y → x ≡ x'
    one_to_one n x x' y o o' = back_once n y x x' (out_back n x y o) (out_back n x' y o')

-- ---- through no lines nothing is found
module _ (up : ℕ → ℕ) (lines : ℕ → List Line) where
  pub nothing_out : (f n x : ℕ) → (n ≡ 0 → ⊥) → lines n ≡ [] → out_by up lines f n x ≡ None
  unfolding out_by out
  nothing_out zero n x z e = rw (ne_eqb n 0 z)
  nothing_out (suc f) n x z e = rw (ne_eqb n 0 z, e)

  none_then : (t : Option ℕ) → then_id t (λ z. back [] z) ≡ None
  unfolding out
  none_then (Some z) = refl
  none_then None = refl

  pub nothing_back : (f n y : ℕ) → (n ≡ 0 → ⊥) → lines n ≡ [] → back_by up lines f n y ≡ None
  unfolding back_by
  nothing_back zero n y z e = rw (ne_eqb n 0 z)
  nothing_back (suc f) n y z e = rw (ne_eqb n 0 z, e) (none_then (back_by up lines f (up n) y))
