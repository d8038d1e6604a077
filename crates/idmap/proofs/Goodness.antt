-- Good means what document 01 says of each line and of every pair. Assumes nothing.
use Rattle.std.proofs.Common.{◌≡◌, ℕ, zero, suc, ◌+◌, ◌<◌, min, max, true, ◌&&◌, ltb, leb, ◌↔◌, List, [], ◌∷◌, map, length, get_or, refl, le_of_suc-le-suc, not-suc-le-zero, arith, ltb-true, lt-ltb, le-leb, leb-false, leb-true}
use Rattle.idmap.specs.declared.Line.{Line}
use Rattle.idmap.specs.Line.{no_line}
use Rattle.idmap.specs.Lookup.{flip}
use Rattle.idmap.specs.Good.{no_id, fits_of, bounded_of, apart_side, apart_of, all_apart, good_of, Within, Bounded, Apart, Good}
use Rattle.prelude.proofs.Tests.{by_test, both, and_i}

-- ---- one line
bounded_fact : (l : Line) → bounded_of l ≡ true → Bounded l
unfolding bounded_of fits_of
bounded_fact l e =
    let h = both (ltb 0 l.count) (fits_of l) e in
    let k = both (leb (l.inside + l.count) no_id) (leb (l.parent + l.count) no_id) h.1 in
    record { some = ltb-true 0 l.count h.0; inside_fits = leb-true _ _ k.0; parent_fits = leb-true _ _ k.1 }

pub bounded_test : (l : Line) → Bounded l → bounded_of l ≡ true
unfolding bounded_of fits_of
bounded_test l b = rw (lt-ltb 0 l.count b.some, le-leb (l.inside + l.count) no_id b.inside_fits, le-leb (l.parent + l.count) no_id b.parent_fits)

-- ---- one side of two lines
side_fact : (a c b d : ℕ) → apart_side a c b d ≡ true → (x : ℕ) → Within x a c → Within x b d → ⊥
unfolding apart_side
side_fact a c b d e x p q = let h = leb-true (min (a + c) (b + d)) (max a b) e in omega arith

side_test : (a c b d : ℕ) → 0 < c → 0 < d → ((x : ℕ) → Within x a c → Within x b d → ⊥) → apart_side a c b d ≡ true
unfolding apart_side
side_test a c b d p q f =
    by_test (leb (min (a + c) (b + d)) (max a b))
    (λ t. t)
    (λ t. let h = leb-false (min (a + c) (b + d)) (max a b) t in absurd (f (max a b) (omega arith, omega arith) (omega arith, omega arith)))

-- ---- two lines
apart_fact : (l m : Line) → apart_of l m ≡ true → Apart l m
unfolding apart_of
apart_fact l m e =
    let h = both (apart_side l.inside l.count m.inside m.count) (apart_side l.parent l.count m.parent m.count) e in
    record { on_inside = side_fact _ _ _ _ h.0; on_parent = side_fact _ _ _ _ h.1 }

pub apart_test : (l m : Line) → Bounded l → Bounded m → Apart l m → apart_of l m ≡ true
unfolding apart_of
apart_test l m b d a =
    and_i _ _ (side_test _ _ _ _ b.some d.some a.on_inside) (side_test _ _ _ _ b.some d.some a.on_parent)

-- ---- a line and the lines after it
all_fact : (l : Line) (ls : List Line) → all_apart l ls ≡ true → (j : ℕ) → j < length ls → Apart l (get_or ls j no_line)
unfolding all_apart
all_fact l [] e j h = absurd (not-suc-le-zero h)
all_fact l (m ∷ ms) e zero h = apart_fact l m (both (apart_of l m) (all_apart l ms) e).0
all_fact l (m ∷ ms) e (suc j) h = all_fact l ms (both (apart_of l m) (all_apart l ms) e).1 j (le_of_suc-le-suc h)

all_test : (l : Line) (ls : List Line) → Bounded l → ((j : ℕ) → j < length ls → Bounded (get_or ls j no_line)) → ((j : ℕ) → j < length ls → Apart l (get_or ls j no_line)) → all_apart l ls ≡ true
unfolding all_apart
all_test l [] b bs ps = refl
all_test l (m ∷ ms) b bs ps =
    and_i _ _ (apart_test l m b (bs 0 (omega arith)) (ps 0 (omega arith)))
    (all_test l ms b (λ j h. bs (suc j) (omega arith)) (λ j h. ps (suc j) (omega arith)))

-- ---- lines
pub bounded_of_lem : (ls : List Line) → good_of ls ≡ true → (i : ℕ) → i < length ls → Bounded (get_or ls i no_line)
unfolding good_of
bounded_of_lem [] e i h = absurd (not-suc-le-zero h)
bounded_of_lem (l ∷ ls) e zero h = bounded_fact l (both (bounded_of l) (all_apart l ls && good_of ls) e).0
bounded_of_lem (l ∷ ls) e (suc i) h =
    bounded_of_lem ls (both (all_apart l ls) (good_of ls) (both (bounded_of l) (all_apart l ls && good_of ls) e).1).1 i (le_of_suc-le-suc h)

pub apart_of_lem : (ls : List Line) → good_of ls ≡ true → (i j : ℕ) → i < j → j < length ls → Apart (get_or ls i no_line) (get_or ls j no_line)
unfolding good_of
apart_of_lem [] e i j h k = absurd (not-suc-le-zero k)
apart_of_lem (l ∷ ls) e i zero h k = absurd (not-suc-le-zero h)
apart_of_lem (l ∷ ls) e zero (suc j) h k =
    all_fact l ls (both (all_apart l ls) (good_of ls) (both (bounded_of l) (all_apart l ls && good_of ls) e).1).0 j (le_of_suc-le-suc k)
apart_of_lem (l ∷ ls) e (suc i) (suc j) h k =
    apart_of_lem ls (both (all_apart l ls) (good_of ls) (both (bounded_of l) (all_apart l ls && good_of ls) e).1).1 i j (le_of_suc-le-suc h) (le_of_suc-le-suc k)

good_test : (ls : List Line) → Good ls → good_of ls ≡ true
unfolding good_of
good_test [] g = refl
good_test (l ∷ ls) g =
    let later : Good ls = record { bounded = λ i h. g.bounded (suc i) (omega arith); apart = λ i j h k. g.apart (suc i) (suc j) (omega arith) (omega arith) } in
    and_i _ _ (bounded_test l (g.bounded 0 (omega arith)))
    (and_i _ _ (all_test l ls (g.bounded 0 (omega arith)) (λ j h. g.bounded (suc j) (omega arith)) (λ j h. g.apart 0 (suc j) (omega arith) (omega arith)))
    (good_test ls later))

-- the test is document 01's rule of each line and of every pair
pub good_means : (ls : List Line) → (good_of ls ≡ true) ↔ Good ls
good_means ls = ((λ e. record { bounded = bounded_of_lem ls e; apart = apart_of_lem ls e }), good_test ls)

-- ---- both sides are alike: lines are good with their sides exchanged
flip_bounded : (l : Line) → bounded_of l ≡ true → bounded_of (flip l) ≡ true
flip_bounded l e = let b = bounded_fact l e in bounded_test (flip l) (record { some = b.some; inside_fits = b.parent_fits; parent_fits = b.inside_fits })

flip_all : (l : Line) (ls : List Line) → all_apart l ls ≡ true → all_apart (flip l) (map flip ls) ≡ true
unfolding all_apart apart_of
flip_all l [] e = refl
flip_all l (m ∷ ms) e =
    let h = both (apart_of l m) (all_apart l ms) e in
    let k = both (apart_side l.inside l.count m.inside m.count) (apart_side l.parent l.count m.parent m.count) h.0 in
    and_i _ _ (and_i _ _ k.1 k.0) (flip_all l ms h.1)

pub flip_good : (ls : List Line) → good_of ls ≡ true → good_of (map flip ls) ≡ true
unfolding good_of
flip_good [] e = refl
flip_good (l ∷ ls) e =
    let h = both (bounded_of l) (all_apart l ls && good_of ls) e in
    let k = both (all_apart l ls) (good_of ls) h.1 in
    and_i _ _ (flip_bounded l h.0) (and_i _ _ (flip_all l ls k.0) (flip_good ls k.1))

-- the first line and the others
module _ (l : Line) (ls : List Line) (e : good_of (l ∷ ls) ≡ true) where
  pub good_first : Bounded l
  good_first = bounded_of_lem (l ∷ ls) e 0 (omega arith)

  pub good_others : good_of ls ≡ true
  unfolding good_of
  good_others = (both (all_apart l ls) (good_of ls) (both (bounded_of l) (all_apart l ls && good_of ls) e).1).1

  pub good_apart : all_apart l ls ≡ true
  unfolding good_of
  good_apart = (both (all_apart l ls) (good_of ls) (both (bounded_of l) (all_apart l ls && good_of ls) e).1).0

pub apart_first_of : (l m : Line) (ms : List Line) → all_apart l (m ∷ ms) ≡ true → Apart l m × (all_apart l ms ≡ true)
unfolding all_apart
apart_first_of l m ms e = let h = both (apart_of l m) (all_apart l ms) e in (apart_fact l m h.0, h.1)
