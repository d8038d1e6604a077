-- Every ID that a process under a top-level namespace carries is mapped there, or was carried in by it or by one that
-- it descends from. Assumes nothing.
use Rattle.std.specs.Prelude.{Some}
use Prim.Native.Nat.{ℕ, zero, suc, ◌≤◌, ◌<◌, ◌^◌}
use mathlib.Core.Path.{◌≡◌, refl, sym, ap, ◌∙◌, subst}
use mathlib.Core.Bool.{true, ◌&&◌}
use mathlib.Core.List.{List, [], ◌∷◌, map}
use mathlib.Core.Logic.{◌⊎◌, inl, inr, ⊎_elim}
use native.Mathlib.Omega.{arith}
use lib.Dec.{eqb}
use lib.ListN.{length, length-map}
use borrow.Author.Tests.{eq-eqb, eqb-true, eqb-false}
use Rattle.records.specs.Records.{max_groups}
use Rattle.idmap.specs.declared.Line.{Line}
use Rattle.idmap.specs.Good.{no_id}
use Rattle.idmap.specs.Lookup.{or_no_id}
use Rattle.records.specs.declared.Kind.{Kind}
use Rattle.records.specs.declared.Kind.TheVariants.{User, Group}
use Rattle.records.specs.declared.Ids.{Ids}
use Rattle.prelude.proofs.Tests.{by_test, cond_elim, and_left, and_right}
use Rattle.claims.specs.Events.{Event, other, forked, cloned, unshared, joined, mapped, changed, grouped}
use Rattle.claims.specs.Words.{Held, is_process, is_namespace, place_of, parent_of, level_of, written_of, written_lines, stands_for, chosen_of, changed_ids, held, held_of, same_kind}
use Rattle.claims.specs.Translation.{GoesOut, top, through, Under, here, deeper}
use Rattle.claims.specs.TopLevel.{TopLevel, IsUnder, Stands, Has, Descends, Entered}
use Rattle.claims.proofs.Allowed.{Allowed, Valid, SoundAt, sound, Chosen, AllStand, Changes, Groups}
use Rattle.claims.proofs.HistoryLevels.{stands_is, passes}
use Rattle.claims.proofs.Sound.{same_kind_lem}
use Rattle.claims.proofs.Kept.{parent_kept, under_before, out_kept}

-- kernel ID y of process p is accounted for in top-level namespace b
abbrev pub Accounted : Kind → List Event → ℕ → ℕ → ℕ → Type 0
Accounted k h p b y = Stands k h b y ⊎ ((q : ℕ) × ((q ≡ p) ⊎ Descends h p q) × Entered k h b q y)

-- ---- an event keeps what was accounted for
descends_kept : (e : Event) (h : List Event) (p q : ℕ) → Descends h p q → Descends (e ∷ h) p q
unfolding Descends
descends_kept other h p q d = d
descends_kept (forked c o) h p q d = inr d
descends_kept (cloned c o n) h p q d = inr d
descends_kept (unshared c n) h p q d = d
descends_kept (joined c n) h p q d = d
descends_kept (mapped k o text) h p q d = d
descends_kept (changed k c new) h p q d = d
descends_kept (grouped c list) h p q d = d

entered_kept : (k : Kind) (e : Event) (h : List Event) (b q y : ℕ) → Entered k h b q y → Entered k (e ∷ h) b q y
unfolding Entered
entered_kept k other h b q y d = d
entered_kept k (forked c o) h b q y d = d
entered_kept k (cloned c o n) h b q y d = inr d
entered_kept k (unshared c n) h b q y d = inr d
entered_kept k (joined c n) h b q y d = inr d
entered_kept k (mapped j o text) h b q y d = d
entered_kept k (changed j c new) h b q y d = d
entered_kept k (grouped c list) h b q y d = d

module _ (k : Kind) (e : Event) (h : List Event) (a : Allowed h e) (s : SoundAt h) where
  stands_kept : (b y : ℕ) → Stands k h b y → Stands k (e ∷ h) b y
  stands_kept b y r = (r.0, out_kept e h a s k b r.0 y r.1)

  kept : (p b y : ℕ) → Accounted k h p b y → Accounted k (e ∷ h) p b y
  kept p b y (inl r) = inl (stands_kept b y r)
  kept p b y (inr (q, d, i)) = inr (q, ⊎_elim inl (λ x. inr (descends_kept e h p q x)) d, entered_kept k e h b q y i)

  -- a child has what its maker has
  made : (c p b y : ℕ) → ((q : ℕ) → (q ≡ c) ⊎ Descends h c q → Descends (e ∷ h) p q) → Accounted k h c b y → Accounted k (e ∷ h) p b y
  made c p b y f (inl r) = inl (stands_kept b y r)
  made c p b y f (inr (q, d, i)) = inr (q, inr (f q d), entered_kept k e h b q y i)

  -- a top-level namespace that was there before was one
  was_top : (b : ℕ) → is_namespace h b ≡ true → TopLevel (e ∷ h) b → TopLevel h b
  was_top b t (u, f, r) = (t, f, sym (parent_kept e h a b t) ∙ r)

-- what stands above a namespace is one
above : (h : List Event) → SoundAt h → (b n : ℕ) → is_namespace h n ≡ true → IsUnder h b n → is_namespace h b ≡ true
above h s b n t (here f) = sym (ap (is_namespace h) f) ∙ t
above h s b n t (deeper f u) = above h s b (parent_of h n) (s.parented n t) u

-- whether a namespace is under another can be told
not_root : (up : ℕ → ℕ) (b n : ℕ) → (n ≡ b → ⊥) → n ≡ 0 → Under up b n → ⊥
not_root up b n f z (here e) = f e
not_root up b n f z (deeper e u) = e z

not_deeper : (up : ℕ → ℕ) (b n : ℕ) → (n ≡ b → ⊥) → (Under up b (up n) → ⊥) → Under up b n → ⊥
not_deeper up b n f g (here e) = f e
not_deeper up b n f g (deeper e u) = g u

tell : (h : List Event) → SoundAt h → (b l n : ℕ) → level_of h n ≤ l → is_namespace h n ≡ true → IsUnder h b n ⊎ (IsUnder h b n → ⊥)
tell h s b zero n d t =
    by_test (eqb n b)
    (λ r. inl (here (eqb-true n b r)))
    (λ r.
    by_test (eqb n 0)
    (λ z. inr (not_root (parent_of h) b n (eqb-false n b r) (eqb-true n 0 z)))
    (λ z. let e = s.levelled n t (eqb-false n 0 z) in absurd (omega arith)))
tell h s b (suc l) n d t =
    by_test (eqb n b)
    (λ r. inl (here (eqb-true n b r)))
    (λ r.
    by_test (eqb n 0)
    (λ z. inr (not_root (parent_of h) b n (eqb-false n b r) (eqb-true n 0 z)))
    (λ z.
    let e = s.levelled n t (eqb-false n 0 z) in
    ⊎_elim (λ u. inl (deeper (eqb-false n 0 z) u)) (λ u. inr (not_deeper (parent_of h) b n (eqb-false n b r) u))
    (tell h s b l (parent_of h n) (omega arith) (s.parented n t))))

-- ---- IDs taken in a namespace under b are mapped in b
module _ (k : Kind) (h : List Event) (s : SoundAt h) (b n : ℕ) (u : IsUnder h b n) where
  taken : (x y : ℕ) → x < 2 ^ 32 → stands_for k h n x ≡ Some y → Stands k h b y
  taken x y small e =
      passes h s k b n x y u (stands_is h s k n x y small e)

  -- one of the three of an ID change: the old one, or one that is mapped
  choice : (x old y : ℕ) → Chosen h k n x old → y ≡ or_no_id (chosen_of k h n x old) → (y ≡ old) ⊎ Stands k h b y
  choice x old y c e =
      by_test (eqb x no_id)
      (λ t. let f : Some old ≡ Some c.given = sym (rw t) ∙ c.stands in inl (e ∙ rw t))
      (λ t.
      let f : stands_for k h n x ≡ Some c.given = sym (rw t) ∙ c.stands in
      let g : y ≡ c.given = e ∙ rw (t, f) in
      inr (taken x y c.small (f ∙ ap Some (sym g))))

-- of a list of groups
all_taken : (h : List Event) → SoundAt h → (b n y : ℕ) → IsUnder h b n → (list : List ℕ) → AllStand h n list → Has y (map (λ (x : ℕ). or_no_id (stands_for Group h n x)) list) → Stands Group h b y
unfolding AllStand Has
all_taken h s b n y u [] a i = absurd i
all_taken h s b n y u (x ∷ list) (small, (z, e), a) (inl i) = taken Group h s b n u x y small (e ∙ ap Some (sym (i ∙ rw e)))
all_taken h s b n y u (x ∷ list) (small, m, a) (inr i) = all_taken h s b n y u list a i

-- ---- one event
abbrev CarriedAt : Kind → List Event → Type 0
CarriedAt k h =
    (p b y : ℕ) → is_process h p ≡ true → TopLevel h b → IsUnder h b (place_of h p) → Has y (held (held_of k h p)) → Accounted k h p b y

module _ (k : Kind) (e : Event) (h : List Event) (a : Allowed h e) (s : SoundAt h) (ih : CarriedAt k h) where
  -- a process that is where it was, with what it had
  unmoved : (p b y : ℕ) → is_process h p ≡ true → TopLevel (e ∷ h) b → IsUnder (e ∷ h) b (place_of h p) → Has y (held (held_of k h p)) → Accounted k (e ∷ h) p b y
  unmoved p b y t l u i =
      let v = under_before e h a s b (place_of h p) (s.placed p t) u in
      let w = above h s b (place_of h p) (s.placed p t) v in
      kept k e h a s p b y (ih p b y t (was_top k e h a s b w l) v i)

  -- a new namespace n under that of process c: b is n, or c was under b
  inside_new : (c n b : ℕ) → is_process h c ≡ true → parent_of (e ∷ h) n ≡ place_of h c → (n ≡ b → ⊥) → IsUnder (e ∷ h) b n → IsUnder h b (place_of h c)
  inside_new c n b t f g (here r) = absurd (g r)
  inside_new c n b t f g (deeper r u) = under_before e h a s b (place_of h c) (s.placed c t) (rw f at u)

-- what an ID change leaves is what was there, or mapped in b
after_change : (k : Kind) (h : List Event) → SoundAt h → (b c : ℕ) (new : Ids) → Changes h k c new → IsUnder h b (place_of h c) → (y : ℕ)
    → Has y (held (record { three = changed_ids k h (place_of h c) new (held_of k h c).three; supplementary = (held_of k h c).supplementary }))
    → Has y (held (held_of k h c)) ⊎ Stands k h b y
unfolding Has
after_change k h s b c new a u y (inl i) =
    ⊎_elim (λ f. inl (inl f)) inr (choice k h s b (place_of h c) u new.real (held_of k h c).three.real y a.real i)
after_change k h s b c new a u y (inr (inl i)) =
    ⊎_elim (λ f. inl (inr (inl f))) inr (choice k h s b (place_of h c) u new.effective (held_of k h c).three.effective y a.effective i)
after_change k h s b c new a u y (inr (inr (inl i))) =
    ⊎_elim (λ f. inl (inr (inr (inl f)))) inr (choice k h s b (place_of h c) u new.saved (held_of k h c).three.saved y a.saved i)
after_change k h s b c new a u y (inr (inr (inr i))) = inl (inr (inr (inr i)))

-- what setgroups leaves alike
after_groups : (h : List Event) → SoundAt h → (b c : ℕ) (list : List ℕ) → Groups h c list → IsUnder h b (place_of h c) → (y : ℕ)
    → Has y (held (record { three = (held_of Group h c).three; supplementary = map (λ (x : ℕ). or_no_id (stands_for Group h (place_of h c) x)) list }))
    → Has y (held (held_of Group h c)) ⊎ Stands Group h b y
unfolding Has
after_groups h s b c list a u y (inl i) = inl (inl i)
after_groups h s b c list a u y (inr (inl i)) = inl (inr (inl i))
after_groups h s b c list a u y (inr (inr (inl i))) = inl (inr (inr (inl i)))
after_groups h s b c list a u y (inr (inr (inr i))) = inr (all_taken h s b (place_of h c) y u list a.each i)

grouped_step : (k : Kind) (c : ℕ) (list : List ℕ) (h : List Event) → Groups h c list → SoundAt h → CarriedAt k h → CarriedAt k (grouped c list ∷ h)
unfolding is_process is_namespace place_of parent_of written_of held_of
grouped_step User c list h a s ih p b y t l u i = kept User (grouped c list) h a s p b y (ih p b y t l u i)
grouped_step Group c list h a s ih p b y t l u i =
    by_test (eqb p c)
    (λ r.
    let o = eqb-true p c r in
    ⊎_elim
    (λ j. kept Group (grouped c list) h a s p b y (ih p b y t l u (subst (λ (x : ℕ). Has y (held (held_of Group h x))) (sym o) j)))
    (λ j. inl (stands_kept Group (grouped c list) h a s b y j))
    (after_groups h s b c list a (subst (λ (x : ℕ). IsUnder h b (place_of h x)) o u) y (rw r at i)))
    (λ r. kept Group (grouped c list) h a s p b y (ih p b y t l u (rw r at i)))

carried_step : (k : Kind) (e : Event) (h : List Event) → Allowed h e → SoundAt h → CarriedAt k h → CarriedAt k (e ∷ h)
unfolding is_process is_namespace place_of parent_of written_of held_of Descends Entered Has
carried_step k other h a s ih p b y t l u i = ih p b y t l u i
carried_step k (forked c q) h a s ih p b y t l u i =
    by_test (eqb p q)
    (λ r. made k (forked c q) h a s c p b y (λ o d. inl (eqb-true p q r, d)) (ih c b y a.caller l (rw r at u) (rw r at i)))
    (λ r. kept k (forked c q) h a s p b y (ih p b y (sym (rw r) ∙ t) l (rw r at u) (rw r at i)))
carried_step k (cloned c q n) h a s ih p b y t l u i =
    let e = cloned c q n in
    by_test (eqb p q)
    (λ r.
    by_test (eqb n b)
    (λ z. inr (p, inl refl, inl (eqb-true p q r, sym (eqb-true n b z), rw r at i)))
    (λ z.
    let v = inside_new k e h a s ih c n b a.0.caller (rw (eq-eqb n n refl)) (eqb-false n b z) (rw r at u) in
    let w = above h s b (place_of h c) (s.placed c a.0.caller) v in
    made k e h a s c p b y (λ o d. inl (eqb-true p q r, d)) (ih c b y a.0.caller (was_top k e h a s b w l) v (rw r at i))))
    (λ r. unmoved k e h a s ih p b y (sym (rw r) ∙ t) l (rw r at u) (rw r at i))
carried_step k (unshared c n) h a s ih p b y t l u i =
    let e = unshared c n in
    by_test (eqb p c)
    (λ r.
    let o : p ≡ c = eqb-true p c r in
    by_test (eqb n b)
    (λ z. inr (p, inl refl, inl (o, sym (eqb-true n b z), subst (λ (x : ℕ). Has y (held (held_of k h x))) o i)))
    (λ z.
    let v = inside_new k e h a s ih c n b a.caller (rw (eq-eqb n n refl)) (eqb-false n b z) (rw r at u) in
    let w = above h s b (place_of h c) (s.placed c a.caller) v in
    kept k e h a s p b y (ih p b y t (was_top k e h a s b w l) (subst (λ (x : ℕ). IsUnder h b (place_of h x)) (sym o) v) i)))
    (λ r. unmoved k e h a s ih p b y t l (rw r at u) i)
carried_step k (joined c n) h a s ih p b y t l u i =
    let e = joined c n in
    by_test (eqb p c)
    (λ r.
    let o : p ≡ c = eqb-true p c r in
    ⊎_elim
    (λ v. kept k e h a s p b y (ih p b y t l v i))
    (λ v.
    inr (p, inl refl, inl (o, rw r at u, (λ x. v (subst (λ (m : ℕ). IsUnder h b (place_of h m)) (sym o) x)), subst (λ (x : ℕ). Has y (held (held_of k h x))) o i)))
    (tell h s b (level_of h (place_of h p)) (place_of h p) (omega arith) (s.placed p t)))
    (λ r. kept k e h a s p b y (ih p b y t l (rw r at u) i))
carried_step k (mapped j q text) h a s ih p b y t l u i = kept k (mapped j q text) h a s p b y (ih p b y t l u i)
carried_step k (changed j c new) h a s ih p b y t l u i =
    by_test (same_kind k j && eqb p c)
    (λ r.
    let d = same_kind_lem k j (and_left (same_kind k j) (eqb p c) r) in
    let o = eqb-true p c (and_right (same_kind k j) (eqb p c) r) in
    ⊎_elim
    (λ f. kept k (changed j c new) h a s p b y (ih p b y t l u (subst (λ (x : ℕ). Has y (held (held_of k h x))) (sym o) f)))
    (λ f. inl (stands_kept k (changed j c new) h a s b y f))
    (after_change k h s b c new (subst (λ (x : Kind). Changes h x c new) (sym d) a) (subst (λ (x : ℕ). IsUnder h b (place_of h x)) o u) y (rw r at i)))
    (λ r. kept k (changed j c new) h a s p b y (ih p b y t l u (rw r at i)))
carried_step k (grouped c list) h a s ih p b y t l u i = grouped_step k c list h a s ih p b y t l u i

-- ---- any events
carried_start : (k : Kind) → CarriedAt k []
unfolding place_of
carried_start k p b y t (n, f, r) (here e) i = absurd (f (sym e))
carried_start k p b y t (n, f, r) (deeper e u) i = absurd (e refl)

pub carried : (k : Kind) (h : List Event) → Valid h → CarriedAt k h
unfolding Valid
carried k [] v p b y t l u i = carried_start k p b y t l u i
carried k (e ∷ h) v p b y t l u i = carried_step k e h v.0 (sound h v.1) (carried k h v.1) p b y t l u i

-- ---- what is carried are kernel IDs, and at most 16 groups
stands_small : (up : ℕ → ℕ) (lines : ℕ → List Line) (n x y : ℕ) → GoesOut up lines n x y → y < no_id
stands_small up lines n x y (top e f b) = omega arith
stands_small up lines n x y (through f z p o) = stands_small up lines (up n) z y o

zeros_small : (y : ℕ) → Has y (0 ∷ 0 ∷ 0 ∷ []) → y < no_id
unfolding Has
zeros_small y (inl e) = omega arith
zeros_small y (inr (inl e)) = omega arith
zeros_small y (inr (inr (inl e))) = omega arith
zeros_small y (inr (inr (inr i))) = absurd i

pub held_small : (k : Kind) (h : List Event) → Valid h → (p y : ℕ) → Has y (held (held_of k h p)) → y < no_id
unfolding Valid held_of
held_small k [] v p y i = zeros_small y i
held_small k (other ∷ h) v p y i = held_small k h v.1 p y i
held_small k (forked c q ∷ h) v p y i =
    by_test (eqb p q) (λ t. held_small k h v.1 c y (rw t at i)) (λ t. held_small k h v.1 p y (rw t at i))
held_small k (cloned c q n ∷ h) v p y i =
    by_test (eqb p q) (λ t. held_small k h v.1 c y (rw t at i)) (λ t. held_small k h v.1 p y (rw t at i))
held_small k (unshared c n ∷ h) v p y i = held_small k h v.1 p y i
held_small k (joined c n ∷ h) v p y i = held_small k h v.1 p y i
held_small k (mapped j q text ∷ h) v p y i = held_small k h v.1 p y i
held_small k (changed j c new ∷ h) v p y i =
    by_test (same_kind k j && eqb p c)
    (λ t.
    ⊎_elim (held_small k h v.1 c y) (λ f. stands_small (parent_of h) (written_lines k h) (place_of h c) f.0 y f.1)
    (after_change k h (sound h v.1) (place_of h c) c new (subst (λ (x : Kind). Changes h x c new) (sym (same_kind_lem k j (and_left (same_kind k j) (eqb p c) t))) v.0) (here refl) y (rw t at i)))
    (λ t. held_small k h v.1 p y (rw t at i))
held_small User (grouped c list ∷ h) v p y i = held_small User h v.1 p y i
held_small Group (grouped c list ∷ h) v p y i =
    by_test (eqb p c)
    (λ t.
    ⊎_elim (held_small Group h v.1 c y) (λ f. stands_small (parent_of h) (written_lines Group h) (place_of h c) f.0 y f.1)
    (after_groups h (sound h v.1) (place_of h c) c list v.0 (here refl) y (rw t at i)))
    (λ t. held_small Group h v.1 p y (rw t at i))

pub few_groups : (h : List Event) → Valid h → (p : ℕ) → length (held_of Group h p).supplementary ≤ max_groups
unfolding Valid held_of
few_groups [] v p = omega arith
few_groups (other ∷ h) v p = few_groups h v.1 p
few_groups (forked c q ∷ h) v p = cond_elim (λ (m : Held). length m.supplementary ≤ max_groups) (eqb p q) (few_groups h v.1 c) (few_groups h v.1 p)
few_groups (cloned c q n ∷ h) v p = cond_elim (λ (m : Held). length m.supplementary ≤ max_groups) (eqb p q) (few_groups h v.1 c) (few_groups h v.1 p)
few_groups (unshared c n ∷ h) v p = few_groups h v.1 p
few_groups (joined c n ∷ h) v p = few_groups h v.1 p
few_groups (mapped k q text ∷ h) v p = few_groups h v.1 p
few_groups (changed k c new ∷ h) v p = cond_elim (λ (m : Held). length m.supplementary ≤ max_groups) (same_kind Group k && eqb p c) (few_groups h v.1 c) (few_groups h v.1 p)
few_groups (grouped c list ∷ h) v p = cond_elim (λ (m : Held). length m.supplementary ≤ max_groups) (eqb p c) (simp length-map v.0.few) (few_groups h v.1 p)
