-- A record's words are read as the record: laws for the code that lays a record out. Assumes nothing.
use Prim.Native.Nat.{ℕ, zero, suc, ◌%◌, ◌^◌}
use mathlib.Core.Path.{◌≡◌, refl, ap₂, ◌∙◌}
use mathlib.Core.Bool.{Bool, true, false}
use mathlib.Core.List.{List, [], ◌∷◌, ◌++◌}
use native.Mathlib.Nat.{mod-eq_of_lt}
use lib.Dec.{eqb}
use lib.ListN.{length, get_or}
use mir.Val.{Fits, bool_byte}
use mir.Syntax.{w32}
use borrow.Author.Tests.{eq-eqb, ne_eqb}
use Rattle.prelude.specs.Lists.{tab}
use Rattle.prelude.proofs.Made.{tab_all}
use Rattle.records.specs.declared.Ids.{Ids}
use Rattle.records.specs.declared.Process.{Process}
use Rattle.records.specs.Records.{starts_in, starts_from, max_groups, process_width, process_of, process_from, map_width, map_of, map_from, free_map, namespace_width, namespace_of, namespace_from}

-- a flag is read from its word
pub flag_round : (b : Bool) → eqb (bool_byte b) 1 ≡ b
flag_round true = refl
flag_round false = refl

-- a number of 32 bits is read from its word
narrow : {x : ℕ} → Fits w32 x → x % 2 ^ 32 ≡ x
narrow f = mod-eq_of_lt f.fits

-- the IDs of one kind have 32 bits
pub record NarrowIds (i : Ids) : Type 0 where
  pub real : Fits w32 i.real
  pub effective : Fits w32 i.effective
  pub saved : Fits w32 i.saved

-- so have the elements of a list
tab_narrow : (l : List ℕ) (n k : ℕ) → ((j : ℕ) → Fits w32 (get_or l j 0)) → tab (λ (j : ℕ). get_or l j 0 % 2 ^ 32) n k ≡ tab (λ (j : ℕ). get_or l j 0) n k
tab_narrow l zero k f = refl
tab_narrow l (suc n) k f = ap₂ (λ (x : ℕ) (xs : List ℕ). x ∷ xs) (narrow (f k)) (tab_narrow l n (suc k) f)

-- ---- a process
-- the row of a process, of the word of its flag and the words of its groups
abbrev process_row : ℕ → List ℕ → Process → List ℕ
process_row w l p =
    w
    ∷ p.namespace
    ∷ p.users.real
    ∷ p.users.effective
    ∷ p.users.saved
    ∷ p.groups.real
    ∷ p.groups.effective
    ∷ p.groups.saved
    ∷ p.supplementary.count
    ∷ (tab (λ (j : ℕ). get_or l j 0) max_groups 0 ++ (p.permitted.bits ∷ p.effective.bits ∷ []))

pub process_round : (p : Process) (w : ℕ) (l : List ℕ) → w ≡ bool_byte p.live → l ≡ p.supplementary.ids → length p.supplementary.ids ≡ max_groups → NarrowIds p.users → NarrowIds p.groups → ((j : ℕ) → Fits w32 (get_or p.supplementary.ids j 0)) → process_of (process_row w l p) ≡ p
process_round p w l e q h u g f =
    let ids = p.supplementary.ids in
    let groups : tab (λ (j : ℕ). get_or ids j 0 % 2 ^ 32) max_groups 0 ≡ ids = tab_narrow ids max_groups 0 f ∙ tab_all ids 0 max_groups h in
    rw (e, q, flag_round p.live, narrow u.real, narrow u.effective, narrow u.saved, narrow g.real, narrow g.effective, narrow g.saved, groups)

-- ---- rows of any length
module _ (r : List ℕ) where
  pub process_whole : length r ≡ process_width → process_from r ≡ process_of r
  unfolding process_from
  process_whole h = rw (eq-eqb (length r) process_width h)

  pub namespace_whole : length r ≡ namespace_width → namespace_from r ≡ namespace_of r
  unfolding namespace_from
  namespace_whole h = rw (eq-eqb (length r) namespace_width h)

  pub map_whole : length r ≡ map_width → map_from r ≡ map_of r
  unfolding map_from
  map_whole h = rw (eq-eqb (length r) map_width h)

  pub starts_whole : length r ≡ map_width → starts_from r ≡ starts_in r
  unfolding starts_from
  starts_whole h = rw (eq-eqb (length r) map_width h)

  pub map_other : (length r ≡ map_width → ⊥) → map_from r ≡ free_map
  unfolding map_from
  map_other h = rw (ne_eqb (length r) map_width h)
