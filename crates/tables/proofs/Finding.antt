-- Finding a place, turn by turn, in the words of the code. Assumes nothing.
use Rattle.std.specs.Prelude.{Option, Some, None, option_map, MatchOption}
use Prim.Native.Nat.{ℕ, zero, suc, ◌+◌, ◌≤◌, ◌<◌}
use mathlib.Core.Path.{◌≡◌, refl, subst, ap, ◌∙◌}
use mathlib.Core.Bool.{Bool, true, false}
use mathlib.Core.List.{List, [], ◌∷◌}
use native.Mathlib.Omega.{arith}
use lib.ListN.{length, get_or}
use Rattle.std.specs.List.{AllWithin, HoldsAt, range_with_len}
use Rattle.std.proofs.lemmas.List.FromFn.{length-range_with_len, get_or-range_with_len}
use Rattle.records.specs.declared.Process.{Process}
use Rattle.records.specs.declared.Namespace.{Namespace}
use Rattle.records.specs.Records.{free_process, free_namespace}
use Rattle.tables.specs.Tables.{process_places, namespace_places, tables_of, process_at, namespace_at}
use Rattle.tables.specs.Find.{free_from, free_process_place, free_namespace_place}
use Rattle.tables.proofs.Tables.{length_processes, length_namespaces}

-- ---- the lowest unused place, of any table
module _ {A : Type 0} (live : A → Bool) (d : A) where
  -- the first place from k on with the test false, where the n places of the list are what is looked at
  free_search : (l : List A) (k : ℕ) (r : Option ℕ)
      → MatchOption r ((j : ℕ) → j < length l → live (get_or l j d) ≡ true)
      (λ i. (i < length l) × (live (get_or l i d) ≡ false) × ((j : ℕ) → j < i → live (get_or l j d) ≡ true))
      → free_from live k l ≡ option_map (λ i. k + i) r
  unfolding free_from
  free_search [] k None f = refl
  free_search [] k (Some i) f = absurd (omega (arith, f.0))
  free_search (x ∷ l) k None f = rw (f 0 (omega arith)) (free_search l (suc k) None (λ j h. f (suc j) (omega arith)))
  free_search (x ∷ l) k (Some zero) f = rw f.1 (ap Some (omega arith))
  free_search (x ∷ l) k (Some (suc i)) f =
      rw (f.2 0 (omega arith))
      (free_search l (suc k) (Some i) (omega (arith, f.0), f.1, λ j h. f.2 (suc j) (omega arith)) ∙ ap Some (omega arith))

option_same : (r : Option ℕ) → option_map (λ i. 0 + i) r ≡ r
option_same None = refl
option_same (Some i) = ap Some (omega arith)

module _ (l : List ℕ) (r : Option ℕ) where
  plain : {A : Type 0} (live : A → Bool) (d : A) (xs : List A) (n : ℕ) → length xs ≡ n → (o : Option ℕ)
      → MatchOption o ((j : ℕ) → 0 ≤ j → j < n → live (get_or xs j d) ≡ true) (λ i. (0 ≤ i) × (i < n) × (live (get_or xs i d) ≡ false) × ((j : ℕ) → 0 ≤ j → j < i → live (get_or xs j d) ≡ true))
      → free_from live 0 xs ≡ o
  plain live d xs n e None f = free_search live d xs 0 None (λ j h. f j (omega arith) (omega arith))
  plain live d xs n e (Some i) f =
      free_search live d xs 0 (Some i) (omega (arith, f.1), f.2, λ j h. f.3 j (omega arith) h) ∙ option_same (Some i)

  pub process_search : MatchOption r ((j : ℕ) → 0 ≤ j → j < process_places → (process_at (tables_of l) j).live ≡ true)
      (λ i. (0 ≤ i) × (i < process_places) × ((process_at (tables_of l) i).live ≡ false) × ((j : ℕ) → 0 ≤ j → j < i → (process_at (tables_of l) j).live ≡ true))
      → free_process_place (tables_of l) ≡ r
  unfolding free_process_place process_at
  process_search f = plain (λ (p : Process). p.live) free_process (tables_of l).processes process_places (length_processes l) r f

  pub namespace_search : MatchOption r ((j : ℕ) → 0 ≤ j → j < namespace_places → (namespace_at (tables_of l) j).live ≡ true)
      (λ i. (0 ≤ i) × (i < namespace_places) × ((namespace_at (tables_of l) i).live ≡ false) × ((j : ℕ) → 0 ≤ j → j < i → (namespace_at (tables_of l) j).live ≡ true))
      → free_namespace_place (tables_of l) ≡ r
  unfolding free_namespace_place namespace_at
  namespace_search f = plain (λ (n : Namespace). n.live) free_namespace (tables_of l).namespaces namespace_places (length_namespaces l) r f

-- ---- what `position` finds among the first n numbers, said of the numbers and not of their list
module _ (n : ℕ) (Yes No : ℕ → Type 0) where
  below : (m : ℕ) → m ≤ n → AllWithin No (range_with_len 0 n) 0 m → (j : ℕ) → 0 ≤ j → j < m → No j
  below m l h j a b = subst No {x = get_or (range_with_len 0 n) j 0} {y = j} (omega (arith, get_or-range_with_len 0 n j 0 (omega arith))) (h j 0 a b)

  pub numbered : (r : Option ℕ)
      → MatchOption r (AllWithin No (range_with_len 0 n) 0 (length (range_with_len 0 n)))
      (λ i. (i < length (range_with_len 0 n)) × HoldsAt Yes (range_with_len 0 n) i × AllWithin No (range_with_len 0 n) 0 i)
      → MatchOption r ((j : ℕ) → 0 ≤ j → j < n → No j) (λ i. (0 ≤ i) × (i < n) × Yes i × ((j : ℕ) → 0 ≤ j → j < i → No j))
  numbered None f = below n (omega arith) (λ k d a b. f k d a (omega (arith, b, length-range_with_len 0 n)))
  numbered (Some i) f =
      let long : i < n = omega (arith, f.0, length-range_with_len 0 n) in (
        omega arith,
        long,
        subst Yes {x = get_or (range_with_len 0 n) i 0} {y = i} (omega (arith, get_or-range_with_len 0 n i 0 long)) (f.1 0),
        below i (omega arith) f.2,
      )
