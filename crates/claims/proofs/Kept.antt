-- What an allowed event keeps: processes, namespaces, their parents, and every translation there was. Assumes nothing.
use Rattle.std.specs.Prelude.{None}
use Prim.Native.Nat.{ℕ}
use mathlib.Core.Path.{◌≡◌, refl, sym, ap, ◌∙◌, subst}
use mathlib.Core.Bool.{Bool, true, ◌&&◌}
use mathlib.Core.List.{List, ◌∷◌}
use native.Mathlib.Nat.{not-suc-le-zero}
use lib.Dec.{eqb}
use borrow.Author.Tests.{ne_eqb, eqb-true}
use Rattle.records.specs.declared.Kind.{Kind}
use Rattle.prelude.proofs.Tests.{by_test, cond_elim, and_left, and_right}
use Rattle.claims.specs.Events.{Event, other, forked, cloned, unshared, joined, mapped, changed, grouped}
use Rattle.claims.specs.Words.{is_process, is_namespace, place_of, parent_of, written_of, written_lines, same_kind}
use Rattle.claims.specs.Translation.{Pairs, top, through, Under, here, deeper}
use Rattle.claims.specs.TopLevel.{IsUnder, OutOf}
use Rattle.claims.proofs.Sound.{same_kind_lem, differ}
use Rattle.claims.proofs.Allowed.{Allowed, SoundAt}

-- ---- along parents
pub under_trans : (up : ℕ → ℕ) (a b n : ℕ) → Under up a b → Under up b n → Under up a n
under_trans up a b n u (here e) = subst (λ (m : ℕ). Under up a m) (sym e) u
under_trans up a b n u (deeper h v) = deeper h (under_trans up a b (up n) u v)

-- ---- what stays
pub process_kept : (e : Event) (h : List Event) (p : ℕ) → is_process h p ≡ true → is_process (e ∷ h) p ≡ true
unfolding is_process
process_kept other h p t = t
process_kept (forked c q) h p t = cond_elim (λ (b : Bool). b ≡ true) (eqb p q) refl t
process_kept (cloned c q n) h p t = cond_elim (λ (b : Bool). b ≡ true) (eqb p q) refl t
process_kept (unshared c n) h p t = t
process_kept (joined c n) h p t = t
process_kept (mapped k q text) h p t = t
process_kept (changed k c new) h p t = t
process_kept (grouped c list) h p t = t

pub namespace_kept : (e : Event) (h : List Event) (m : ℕ) → is_namespace h m ≡ true → is_namespace (e ∷ h) m ≡ true
unfolding is_namespace
namespace_kept other h m t = t
namespace_kept (forked c q) h m t = t
namespace_kept (cloned c q n) h m t = cond_elim (λ (b : Bool). b ≡ true) (eqb m n) refl t
namespace_kept (unshared c n) h m t = cond_elim (λ (b : Bool). b ≡ true) (eqb m n) refl t
namespace_kept (joined c n) h m t = t
namespace_kept (mapped k q text) h m t = t
namespace_kept (changed k c new) h m t = t
namespace_kept (grouped c list) h m t = t

pub parent_kept : (e : Event) (h : List Event) → Allowed h e → (m : ℕ) → is_namespace h m ≡ true → parent_of (e ∷ h) m ≡ parent_of h m
unfolding parent_of
parent_kept other h a m t = refl
parent_kept (forked c q) h a m t = refl
parent_kept (cloned c q n) h a m t = rw (ne_eqb m n (differ (is_namespace h) m n t a.1.unused))
parent_kept (unshared c n) h a m t = rw (ne_eqb m n (differ (is_namespace h) m n t a.unused))
parent_kept (joined c n) h a m t = refl
parent_kept (mapped k q text) h a m t = refl
parent_kept (changed k c new) h a m t = refl
parent_kept (grouped c list) h a m t = refl

-- lines that pair IDs are there to stay: a map is written once
nothing_paired : (k j : Kind) (h : List Event) (m n x z : ℕ) → k ≡ j → m ≡ n → written_of j h n ≡ None → Pairs (written_lines k h m) x z → ⊥
nothing_paired k j h m n x z d e f p = let g : written_of k h m ≡ None = rw (d, e) f in not-suc-le-zero (rw g at p.which_in_range)

pub pairs_kept : (k : Kind) (e : Event) (h : List Event) → Allowed h e → (m x z : ℕ) → Pairs (written_lines k h m) x z → Pairs (written_lines k (e ∷ h) m) x z
unfolding written_of
pairs_kept k other h a m x z p = p
pairs_kept k (forked c q) h a m x z p = p
pairs_kept k (cloned c q n) h a m x z p = p
pairs_kept k (unshared c n) h a m x z p = p
pairs_kept k (joined c n) h a m x z p = p
pairs_kept k (mapped j q text) h a m x z p =
    by_test (same_kind k j && eqb m (place_of h q))
    (λ t.
    absurd (nothing_paired k j h m (place_of h q) x z (same_kind_lem k j (and_left (same_kind k j) (eqb m (place_of h q)) t))
    (eqb-true m (place_of h q) (and_right (same_kind k j) (eqb m (place_of h q)) t)) a.unwritten p))
    (λ t. rw t p)
pairs_kept k (changed j c new) h a m x z p = p
pairs_kept k (grouped c list) h a m x z p = p

module _ (e : Event) (h : List Event) (a : Allowed h e) (s : SoundAt h) where
  pub under_kept : (b n : ℕ) → is_namespace h n ≡ true → IsUnder h b n → IsUnder (e ∷ h) b n
  under_kept b n t (here f) = here f
  under_kept b n t (deeper f u) = deeper f (rw (parent_kept e h a n t) (under_kept b (parent_of h n) (s.parented n t) u))

  was_under : (b m n : ℕ) → m ≡ n → is_namespace h n ≡ true → IsUnder (e ∷ h) b m → IsUnder h b n
  was_under b m n r t (here f) = here (sym r ∙ f)
  was_under b m n r t (deeper f u) =
      deeper (λ z. f (r ∙ z)) (was_under b (parent_of (e ∷ h) m) (parent_of h n) (ap (parent_of (e ∷ h)) r ∙ parent_kept e h a n t) (s.parented n t) u)

  pub under_before : (b n : ℕ) → is_namespace h n ≡ true → IsUnder (e ∷ h) b n → IsUnder h b n
  under_before b n t u = was_under b n n refl t u

  -- a namespace that has lines is one
  lined : (k : Kind) (m x z : ℕ) → Pairs (written_lines k h m) x z → is_namespace h m ≡ true
  lined k m x z p = by_test (is_namespace h m) (λ t. t) (λ t. absurd (not-suc-le-zero (rw (s.made k m t) at p.which_in_range)))

  pub out_kept : (k : Kind) (n x y : ℕ) → OutOf k h n x y → OutOf k (e ∷ h) n x y
  out_kept k n x y (top f g b) = top f g b
  out_kept k n x y (through f z p o) =
      through {y = y} f z (pairs_kept k e h a n x z p) (rw (parent_kept e h a n (lined k n x z p)) (out_kept k (parent_of h n) z y o))
