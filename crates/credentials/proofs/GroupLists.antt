-- Lists of groups that a loop makes group by group: kernel IDs of groups that are given, and kernel IDs as a namespace
-- sees them. Assumes nothing.
use Rattle.std.specs.Prelude.{Option, Some, None}
use Prim.Native.Nat.{ℕ, suc, ◌+◌, ◌≤◌, ◌<◌, min}
use mathlib.Core.Path.{◌≡◌, refl, sym, ap, ◌∙◌}
use mathlib.Core.List.{List, [], ◌∷◌, ◌++◌, map, map-append}
use native.Mathlib.Omega.{arith}
use lib.ListN.{length, take, drop, get_or, set, replicate}
use lib.Seq.{split_at, take_all}
use Rattle.std.proofs.lemmas.List.{get_or-take, length-take-le}
use Rattle.prelude.specs.Lists.{cons_of, all_of}
use Rattle.prelude.proofs.Lists.{take_min}
use Rattle.prelude.proofs.Made.{cons_first, cons_none, cons_some}
use Rattle.records.specs.declared.Kind.TheVariants.{Group}
use Rattle.records.specs.declared.GroupList.{GroupList}
use Rattle.records.specs.Records.{max_groups}
use Rattle.hierarchy.specs.Walks.{Translation}
use Rattle.credentials.specs.Calls.{group_list, kernel_groups, listed_of, seen, seen_groups}
use Rattle.credentials.proofs.Filled.{take_more, filled_more}

-- ---- kernel_groups
module _ {A B : Type 0} (f : A → Option B) where
  -- what f gives for each element, with one more
  all_more : (l : List A) (ys : List B) (a : A) (y : B) → all_of f l ≡ Some ys → f a ≡ Some y → all_of f (l ++ (a ∷ [])) ≡ Some (ys ++ (y ∷ []))
  unfolding all_of cons_of
  all_more [] ys a y e g = let start : ys ≡ [] = cc in rw (g, start)
  all_more (b ∷ l) ys a y e g =
      let r = cons_some (f b) (all_of f l) ys e in
      rw (r.2, all_more l r.1 a y r.3 g) (ap (λ (zs : List B). Some (zs ++ (y ∷ []))) (sym r.4))

  -- it gives nothing for one
  all_none : (l : List A) (a : A) (rest : List A) → f a ≡ None → all_of f (l ++ (a ∷ rest)) ≡ None
  unfolding all_of
  all_none [] a rest e = rw e (cons_first (all_of f rest))
  all_none (b ∷ l) a rest e = rw (all_none l a rest e) (cons_none (f b))

-- where all are mapped, the kernel IDs that are listed
listed_all : (o : Option (List ℕ)) (g : GroupList) → listed_of o ≡ Some g → (ids : List ℕ) × (o ≡ Some ids) × (group_list ids ≡ g)
listed_all None g e = absurd (let z : ◌≡◌ {A = ℕ} 0 1 = cc in omega arith)
listed_all (Some ids) g e = (ids, refl, let q : group_list ids ≡ g = cc in q)

module _ (by : Translation) (n : ℕ) where
  -- the first i groups of a list are mapped, and these are their kernel IDs
  pub ListedTo : List ℕ → List ℕ → ℕ → Type 0
  ListedTo list ids i = listed_of (kernel_groups by n (take i list)) ≡ Some (record { count = i; ids = ids })

  module _ (list : List ℕ) where
    pub listed_starts : ListedTo list (replicate max_groups 0) 0
    unfolding ListedTo kernel_groups all_of group_list
    listed_starts = refl

    module _ (i : ℕ) (h : i < length list) where
      pub listed_step : (ids : List ℕ) (x : ℕ) → ListedTo list ids i → length list ≤ max_groups → by.out Group n (get_or list i 0) ≡ Some x → ListedTo list (set ids i x) (i + 1)
      unfolding ListedTo kernel_groups
      listed_step ids x inv few e =
          let so_far = listed_all (all_of (by.out Group n) (take i list)) (record { count = i; ids = ids }) inv in
          rw (take_more list i h, all_more (by.out Group n) (take i list) so_far.0 (get_or list i 0) x so_far.1 e)
          (ap Some (filled_more so_far.0 ids i x so_far.2 (omega arith)))

      pub listed_unmapped : by.out Group n (get_or list i 0) ≡ None → listed_of (kernel_groups by n list) ≡ None
      unfolding kernel_groups
      listed_unmapped e =
          let all : all_of (by.out Group n) list ≡ None = ap (all_of (by.out Group n)) (split_at list i 0 h) ∙ all_none (by.out Group n) (take i list) (get_or list i 0) (drop (suc i) list) e in
          rw all

    pub listed_ends : (ids : List ℕ) (i : ℕ) → ListedTo list ids i → length list ≡ i → listed_of (kernel_groups by n list) ≡ Some (record { count = length list; ids = ids })
    unfolding ListedTo
    listed_ends ids i inv e = (rw (take_all i list (omega arith)) at inv) ∙ ap (λ (m : ℕ). Some (record { count = m; ids = ids })) (sym e)

-- ---- seen_groups
module _ (by : Translation) (n : ℕ) where
  -- the list of the first i groups, as the namespace sees them
  pub SeenTo : List ℕ → List ℕ → ℕ → Type 0
  SeenTo kernel ids i = seen_groups by n (record { count = i; ids = kernel }) ≡ record { count = i; ids = ids }

  pub seen_starts : (kernel : List ℕ) → SeenTo kernel (replicate max_groups 0) 0
  unfolding SeenTo seen_groups group_list
  seen_starts kernel = refl

  module _ (g : GroupList) (ids : List ℕ) (i end : ℕ) (inv : SeenTo g.ids ids i) (long : length g.ids ≡ max_groups) (few : end ≡ min g.count max_groups) where
    read : length (take end g.ids) ≡ end
    read = length-take-le end g.ids (omega arith)

    pub seen_step : (x : ℕ) → i < length (take end g.ids) → x ≡ seen by Group n (get_or (take end g.ids) i 0) → SeenTo g.ids (set ids i x) (i + 1)
    unfolding SeenTo seen_groups
    seen_step x h e =
        let same : x ≡ seen by Group n (get_or g.ids i 0) = e ∙ ap (seen by Group n) (get_or-take end g.ids i 0 (omega (arith, read))) in
        rw (take_more g.ids i (omega (arith, read)), map-append (seen by Group n) (take i g.ids) (get_or g.ids i 0 ∷ []), ← same)
        (filled_more (map (seen by Group n) (take i g.ids)) ids i x inv (omega (arith, read)))

    pub seen_ends : length (take end g.ids) ≡ i → ◌≡◌ {A = GroupList} (record { count = end; ids = ids }) (seen_groups by n g)
    unfolding SeenTo seen_groups
    seen_ends e =
        let all : min g.count (length g.ids) ≡ i = omega (arith, read) in
        let last : end ≡ i = omega (arith, read) in
        rw (take_min g.count g.ids, all, last) (sym inv)
