-- Top-level namespaces (document 01: bays), who descends from whom, and what is carried into one. Assumes nothing.
use Rattle.std.specs.Prelude.{ℕ, ◌≡◌, true, List, [], ◌∷◌, ◌⊎◌}
use Rattle.idmap.specs.declared.Line.{Line}
use Rattle.records.specs.declared.Kind.{Kind}
use Rattle.claims.specs.Events.{Event, other, forked, cloned, unshared, joined, mapped, changed, grouped}
use Rattle.claims.specs.Words.{is_namespace, place_of, parent_of, written_lines, held_of, held}
use Rattle.claims.specs.Translation.{Pairs, GoesOut, ComesBack, Under}

-- document 01: a bay is a namespace whose parent is namespace 0
abbrev pub TopLevel : List Event → ℕ → Type 0
TopLevel h b = (is_namespace h b ≡ true) × (b ≡ 0 → ⊥) × (parent_of h b ≡ 0)

-- namespace n is b or nested under it, at any depth
abbrev pub IsUnder : List Event → ℕ → ℕ → Type 0
IsUnder h b n = Under (parent_of h) b n

-- ID x of namespace n stands for kernel ID y, and the way back, with the maps of the moment
abbrev pub OutOf : Kind → List Event → ℕ → ℕ → ℕ → Type 0
OutOf k h n x y = GoesOut (parent_of h) (written_lines k h) n x y

abbrev pub BackOf : Kind → List Event → ℕ → ℕ → ℕ → Type 0
BackOf k h n y x = ComesBack (parent_of h) (written_lines k h) n y x

-- kernel ID y is mapped in namespace n: some ID of n stands for it
abbrev pub Stands : Kind → List Event → ℕ → ℕ → Type 0
Stands k h n y = (x : ℕ) × OutOf k h n x y

-- y is on the parent side of a line
abbrev pub OnParentSide : List Line → ℕ → Type 0
OnParentSide ls y = (x : ℕ) × Pairs ls x y

-- y is one of a list
unfoldable pub Has : ℕ → List ℕ → Type 0
Has y [] = ⊥
Has y (x ∷ l) = (y ≡ x) ⊎ Has y l

-- process p descends from q: q made p by fork or clone, or made one that p descends from
unfoldable pub Descends : List Event → ℕ → ℕ → Type 0
Descends [] p q = ⊥
Descends (other ∷ h) p q = Descends h p q
Descends (forked c child ∷ h) p q = ((p ≡ child) × ((q ≡ c) ⊎ Descends h c q)) ⊎ Descends h p q
Descends (cloned c child n ∷ h) p q = ((p ≡ child) × ((q ≡ c) ⊎ Descends h c q)) ⊎ Descends h p q
Descends (unshared c n ∷ h) p q = Descends h p q
Descends (joined c n ∷ h) p q = Descends h p q
Descends (mapped k o text ∷ h) p q = Descends h p q
Descends (changed k c new ∷ h) p q = Descends h p q
Descends (grouped c list ∷ h) p q = Descends h p q

-- process q carried ID y into top-level namespace b: it had y when the clone or unshare that made b put it there, or
-- when a setns brought it from outside into b or anything nested under it
unfoldable pub Entered : Kind → List Event → ℕ → ℕ → ℕ → Type 0
Entered k [] b q y = ⊥
Entered k (other ∷ h) b q y = Entered k h b q y
Entered k (forked c child ∷ h) b q y = Entered k h b q y
Entered k (cloned c child n ∷ h) b q y = ((q ≡ child) × (b ≡ n) × Has y (held (held_of k h c))) ⊎ Entered k h b q y
Entered k (unshared c n ∷ h) b q y = ((q ≡ c) × (b ≡ n) × Has y (held (held_of k h c))) ⊎ Entered k h b q y
Entered k (joined c n ∷ h) b q y =
    ((q ≡ c) × IsUnder h b n × (IsUnder h b (place_of h c) → ⊥) × Has y (held (held_of k h c))) ⊎ Entered k h b q y
Entered k (mapped j o text ∷ h) b q y = Entered k h b q y
Entered k (changed j c new ∷ h) b q y = Entered k h b q y
Entered k (grouped c list ∷ h) b q y = Entered k h b q y
