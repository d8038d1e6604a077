-- A process that is under a top-level namespace stays under it. Assumes nothing.
use Prim.Native.Nat.{ℕ}
use mathlib.Core.Path.{◌≡◌, refl, sym, ◌∙◌, subst}
use mathlib.Core.Bool.{true, false}
use mathlib.Core.List.{List, [], ◌∷◌, ◌++◌}
use lib.Dec.{eqb}
use borrow.Author.Tests.{eq-eqb, ne_eqb, eqb-true}
use Rattle.prelude.proofs.Tests.{by_test}
use Rattle.claims.specs.Events.{Event, other, forked, cloned, unshared, joined, mapped, changed, grouped}
use Rattle.claims.specs.Words.{is_process, is_namespace, place_of, parent_of}
use Rattle.claims.specs.Translation.{deeper}
use Rattle.claims.specs.TopLevel.{TopLevel, IsUnder}
use Rattle.claims.proofs.Sound.{differ}
use Rattle.claims.proofs.Allowed.{Allowed, Valid, SoundAt, sound}
use Rattle.claims.proofs.Kept.{under_trans, under_kept, process_kept, namespace_kept, parent_kept}

-- a new process is no old one
old_process : (h : List Event) (p q : ℕ) → is_process h p ≡ true → is_process h q ≡ false → eqb p q ≡ false
old_process h p q t f = ne_eqb p q (differ (is_process h) p q t f)

-- one event
stays_step : (e : Event) (h : List Event) → Allowed h e → SoundAt h → (p b : ℕ) → is_process h p ≡ true → IsUnder h b (place_of h p) → IsUnder (e ∷ h) b (place_of (e ∷ h) p)
unfolding place_of parent_of
stays_step other h a s p b t u = u
stays_step (forked c q) h a s p b t u = rw (old_process h p q t a.unused) u
stays_step (cloned c q n) h a s p b t u =
    rw (old_process h p q t a.0.unused) (under_kept (cloned c q n) h a s b (place_of h p) (s.placed p t) u)
stays_step (unshared c n) h a s p b t u =
    let v : IsUnder (unshared c n ∷ h) b (place_of h p) = under_kept (unshared c n) h a s b (place_of h p) (s.placed p t) u in
    by_test (eqb p c)
    (λ r.
    let w = subst (λ (i : ℕ). IsUnder (unshared c n ∷ h) b (place_of h i)) (eqb-true p c r) v in
    rw r (deeper (λ z. differ (is_namespace h) 0 n s.root a.unused (sym z)) (rw (eq-eqb n n refl) w)))
    (λ r. rw r v)
stays_step (joined c n) h a s p b t u =
    by_test (eqb p c)
    (λ r. rw r (under_trans (parent_of h) b (place_of h c) n (subst (λ (i : ℕ). IsUnder h b (place_of h i)) (eqb-true p c r) u) a.inward))
    (λ r. rw r u)
stays_step (mapped k q text) h a s p b t u = u
stays_step (changed k c new) h a s p b t u = u
stays_step (grouped c list) h a s p b t u = u

-- any events
pub earlier : (new old : List Event) → Valid (new ++ old) → Valid old
unfolding Valid
earlier [] old v = v
earlier (e ∷ new) old v = earlier new old v.1

still_process : (new old : List Event) (p : ℕ) → is_process old p ≡ true → is_process (new ++ old) p ≡ true
still_process [] old p t = t
still_process (e ∷ new) old p t = process_kept e (new ++ old) p (still_process new old p t)

pub still_top : (new old : List Event) → Valid (new ++ old) → (b : ℕ) → TopLevel old b → TopLevel (new ++ old) b
unfolding Valid
still_top [] old v b t = t
still_top (e ∷ new) old v b t =
    let (n, f, r) = still_top new old v.1 b t in
    (namespace_kept e (new ++ old) b n, f, parent_kept e (new ++ old) v.0 b n ∙ r)

pub stays : (new old : List Event) → Valid (new ++ old) → (p b : ℕ) → is_process old p ≡ true → IsUnder old b (place_of old p) → IsUnder (new ++ old) b (place_of (new ++ old) p)
unfolding Valid
stays [] old v p b t u = u
stays (e ∷ new) old v p b t u =
    stays_step e (new ++ old) v.0 (sound (new ++ old) v.1) p b (still_process new old p t) (stays new old v.1 p b t u)
