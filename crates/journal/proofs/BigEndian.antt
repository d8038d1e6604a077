-- Numbers as bytes and back, and lists of them. Assumes nothing.
use Prim.Native.Nat.{ℕ, zero, suc, ◌+◌, ◌*◌, ◌-◌, ◌/◌, ◌%◌, ◌≤◌, ◌<◌, ◌^◌}
use mathlib.Core.Path.{◌≡◌, refl, sym, ap, ap₂, ◌∙◌}
use mathlib.Core.List.{List, [], ◌∷◌, ◌++◌, append_assoc, append-nil}
use native.Mathlib.Omega.{arith}
use native.Mathlib.Nat.{pow-suc, one-le-pow, mul-suc, mul-zero, zero-mul, suc-mul, mod-eq_of_lt}
use lib.Arith.{digits_div, digits_mod}
use lib.ListN.{length, take, drop, length-append, length-take}
use lib.Seq.{take_at, drop_at, drop-drop, take-add}
use Rattle.prelude.specs.Parts.{part}
use Rattle.prelude.specs.Lists.{tab}
use Rattle.prelude.proofs.Parts.{length_part}
use Rattle.prelude.proofs.Made.{tab_same, tab_next}
use Rattle.journal.specs.Numbers.{big_endian, all_big_endian, number_from, number_at, numbers_at}
use Rattle.journal.specs.Laws.{AllBelow}
use Rattle.journal.proofs.Puts.{length_number}

-- ---- every element is below a bound
pub below_take : (m n : ℕ) (l : List ℕ) → AllBelow m l → AllBelow m (take n l)
below_take m zero l h = tt
below_take m (suc n) [] h = tt
below_take m (suc n) (x ∷ l) h = (h.0, below_take m n l h.1)

pub below_drop : (m n : ℕ) (l : List ℕ) → AllBelow m l → AllBelow m (drop n l)
below_drop m zero l h = h
below_drop m (suc n) [] h = tt
below_drop m (suc n) (x ∷ l) h = below_drop m n l h.1

pub below_part : (m w at : ℕ) (l : List ℕ) → AllBelow m l → AllBelow m (part w at l)
unfolding part
below_part m w at l h = below_take m w (drop at l) (below_drop m at l h)

pub below_append : (m : ℕ) (xs ys : List ℕ) → AllBelow m xs → AllBelow m ys → AllBelow m (xs ++ ys)
below_append m [] ys h k = k
below_append m (x ∷ xs) ys h k = (h.0, below_append m xs ys h.1 k)

pub below_tab : (m : ℕ) (f : ℕ → ℕ) (n k : ℕ) → ((j : ℕ) → f j < m) → AllBelow m (tab f n k)
below_tab m f zero k h = tt
below_tab m f (suc n) k h = (h k, below_tab m f n (suc k) h)

-- ---- a number as bytes, read back
number_last : (n : ℕ) (bs : List ℕ) (b : ℕ) → number_from n (bs ++ (b ∷ [])) ≡ number_from n bs * 256 + b % 256
unfolding number_from
number_last n [] b = refl
number_last n (a ∷ bs) b = number_last (n * 256 + a % 256) bs b

pub number_read : (w x : ℕ) → x < 256 ^ w → number_from 0 (big_endian w x) ≡ x
unfolding big_endian number_from
number_read zero x h = omega arith
number_read (suc w) x h =
    let p = pow-suc 256 w in
    let high = number_read w (x / 256) (omega arith) in
    number_last 0 (big_endian w (x / 256)) (x % 256) ∙ rw high (omega arith)

-- ---- what is written is bytes
pub number_bytes_lem : (w x : ℕ) → AllBelow 256 (big_endian w x)
unfolding big_endian
number_bytes_lem zero x = tt
number_bytes_lem (suc w) x = below_append 256 (big_endian w (x / 256)) (x % 256 ∷ []) (number_bytes_lem w (x / 256)) (omega arith, tt)

pub numbers_bytes : (w : ℕ) (xs : List ℕ) → AllBelow 256 (all_big_endian w xs)
unfolding all_big_endian
numbers_bytes w [] = tt
numbers_bytes w (x ∷ xs) = below_append 256 (big_endian w x) (all_big_endian w xs) (number_bytes_lem w x) (numbers_bytes w xs)

-- ---- bytes as a number, written again
pub number_written : (k n : ℕ) (bs : List ℕ) → AllBelow 256 bs → big_endian (k + length bs) (number_from n bs) ≡ big_endian k n ++ bs
unfolding big_endian number_from
number_written k n [] h = let e : k + 0 ≡ k = omega arith in rw e (sym (append-nil (big_endian k n)))
number_written k n (b ∷ bs) h =
    let e : k + suc (length bs) ≡ suc k + length bs = omega arith in
    let low : b % 256 ≡ b = mod-eq_of_lt h.0 in
    let q : (n * 256 + b) / 256 ≡ n = digits_div n h.0 in
    let r : (n * 256 + b) % 256 ≡ b = digits_mod n h.0 in
    rw (e, low) (number_written (suc k) (n * 256 + b) bs h.1 ∙ rw (q, r) (append_assoc (big_endian k n) (b ∷ []) bs))

pub bytes_written : (w : ℕ) (bs : List ℕ) → length bs ≡ w → AllBelow 256 bs → big_endian w (number_from 0 bs) ≡ bs
unfolding big_endian
bytes_written w bs e h =
    let z : 0 + length bs ≡ w = omega arith in
    rw z at (number_written 0 0 bs h)

-- ---- how large a number of w bytes is
from_below : (k n : ℕ) (bs : List ℕ) → n < 256 ^ k → number_from n bs < 256 ^ (k + length bs)
unfolding number_from
from_below k n [] h = let e : k + 0 ≡ k = omega arith in rw e h
from_below k n (b ∷ bs) h =
    let e : k + suc (length bs) ≡ suc k + length bs = omega arith in
    rw e (from_below (suc k) (n * 256 + b % 256) bs (let p = pow-suc 256 k in omega arith))

pub number_below : (w at : ℕ) (l : List ℕ) → number_at w at l < 256 ^ w
unfolding number_at part
number_below w at l =
    let bs = take w (drop at l) in
    let short : length bs ≤ w = simp length-take (omega arith) in
    let e : (w - length bs) + length bs ≡ w = omega arith in
    rw e at (from_below (w - length bs) 0 bs (one-le-pow (w - length bs) 256 (omega arith)))

pub name_below : (at : ℕ) (l : List ℕ) → number_at 8 at l < 2 ^ 64
name_below at l = number_below 8 at l

pub id_below : (at : ℕ) (l : List ℕ) → number_at 4 at l < 2 ^ 32
id_below at l = number_below 4 at l

pub size_below : (at : ℕ) (l : List ℕ) → number_at 2 at l ≤ 65535
size_below at l = let h = number_below 2 at l in omega arith

-- ---- numbers, one after the other
-- the first of them, and the others
numbers_step : (w k at : ℕ) (l : List ℕ) → numbers_at w (suc k) at l ≡ number_at w at l ∷ numbers_at w k (at + w) l
numbers_step w k at l =
    let f : ℕ → ℕ = λ (i : ℕ). number_at w (at + w * i) l in
    let first : at + w * 0 ≡ at = omega (arith, mul-zero w) in
    let next : (j : ℕ) → f (suc j) ≡ number_at w (at + w + w * j) l =
    λ j. let e : at + w * suc j ≡ at + w + w * j = omega (arith, mul-suc w j) in ap (λ (i : ℕ). number_at w i l) e in
    ap₂ (λ (x : ℕ) (xs : List ℕ). x ∷ xs) (ap (λ (i : ℕ). number_at w i l) first)
    (sym (tab_next f k 0) ∙ tab_same (λ (j : ℕ). f (suc j)) (λ (j : ℕ). number_at w (at + w + w * j) l) k 0 next)

-- written, they are read back
pub numbers_read : (w : ℕ) (xs : List ℕ) (at : ℕ) (l rest : List ℕ) → AllBelow (256 ^ w) xs → drop at l ≡ all_big_endian w xs ++ rest
    → numbers_at w (length xs) at l ≡ xs
unfolding all_big_endian number_at part
numbers_read w [] at l rest h e = refl
numbers_read w (x ∷ xs) at l rest h e =
    let long = length_number w x in
    let split : drop at l ≡ big_endian w x ++ (all_big_endian w xs ++ rest) = e ∙ append_assoc (big_endian w x) (all_big_endian w xs) rest in
    let first : number_at w at l ≡ x =
    ap (number_from 0) (ap (take w) split ∙ take_at (big_endian w x) (all_big_endian w xs ++ rest) w long) ∙ number_read w x h.0 in
    let others : drop (at + w) l ≡ all_big_endian w xs ++ rest =
    sym (drop-drop w at l) ∙ ap (drop w) split ∙ drop_at (big_endian w x) (all_big_endian w xs ++ rest) w long in
    numbers_step w (length xs) at l ∙ ap₂ (λ (y : ℕ) (ys : List ℕ). y ∷ ys) first (numbers_read w xs (at + w) l rest h.1 others)

-- read, they are written again
pub numbers_written : (w k at : ℕ) (l : List ℕ) → AllBelow 256 l → at + k * w ≤ length l → all_big_endian w (numbers_at w k at l) ≡ part (k * w) at l
unfolding all_big_endian number_at part
numbers_written w zero at l h room = let z = zero-mul w in rw z
numbers_written w (suc k) at l h room =
    let m : suc k * w ≡ w + k * w = omega (arith, suc-mul k w) in
    let long : length (take w (drop at l)) ≡ w = length_part w at l (omega arith) in
    let first : big_endian w (number_at w at l) ≡ take w (drop at l) = bytes_written w (take w (drop at l)) long (below_part 256 w at l h) in
    ap (all_big_endian w) (numbers_step w k at l)
    ∙ ap₂ (λ (x y : List ℕ). x ++ y) first (numbers_written w k (at + w) l h (omega arith))
    ∙ rw (m, take-add w (k * w) (drop at l), drop-drop w at l)

pub length_all : (w : ℕ) (xs : List ℕ) → length (all_big_endian w xs) ≡ length xs * w
unfolding all_big_endian
length_all w [] = sym (zero-mul w)
length_all w (x ∷ xs) = length-append (big_endian w x) (all_big_endian w xs) ∙ omega (arith, length_number w x, length_all w xs, suc-mul (length xs) w)
