-- Stores of bytes one after the other. Assumes nothing.
use Prim.Native.Nat.{ℕ, zero, suc, ◌+◌, ◌*◌, ◌-◌, ◌/◌, ◌%◌, ◌≤◌, ◌<◌, ◌^◌}
use mathlib.Core.Path.{◌≡◌, refl, sym, ap, ap₂, ◌∙◌}
use mathlib.Core.List.{List, [], ◌∷◌, ◌++◌, append_assoc, append-nil}
use native.Mathlib.Omega.{arith}
use native.Mathlib.Numerals.{add-one}
use lib.ListN.{length, get_or, set, take, drop, length-append, length-take, length-set, take-append-drop, drop_of_length-le}
use lib.Seq.{take_all, drop_at, drop-cons, drop-drop, drop-set-lt, get_or-set_same, take-append_seam, take-set-le, lt-length-set}
use borrow.Rule.Slice.PartMut.{put_mid}
use Rattle.std.specs.Int.{w64, to_be_bytes, bytes_high_first}
use Rattle.std.proofs.Math.Nat.{pow-suc, div-div-eq-div-mul, mul_comm}
use Rattle.prelude.specs.Parts.{put_at}
use Rattle.prelude.proofs.Parts.{put_inside, length_put}
use Rattle.journal.specs.Numbers.{big_endian, all_big_endian}

-- ---- two stores
-- nothing is put
pub put_nothing : (b : List ℕ) (at : ℕ) → at ≤ length b → put_at b at [] ≡ b
put_nothing b at h =
    let e : at + 0 ≡ at = omega arith in
    put_inside b at [] (omega arith) ∙ rw (e, append-nil (take at b)) (take-append-drop at b)

-- what is put behind what was put
module _ (b : List ℕ) (at : ℕ) (xs ys : List ℕ) (fits : at + length xs + length ys ≤ length b) where
  head_long : length (take at b ++ xs) ≡ at + length xs
  head_long = simp (length-append, length-take) (omega arith)

  first : put_at b at xs ≡ take at b ++ xs ++ drop (at + length xs) b
  first = put_inside b at xs (omega arith)

  head_kept : take (at + length xs) (put_at b at xs) ≡ take at b ++ xs
  head_kept =
      rw first (ap (λ (n : ℕ). take n (take at b ++ xs ++ drop (at + length xs) b)) (sym head_long) ∙ take-append_seam (take at b ++ xs) (drop (at + length xs) b))

  rest_kept : drop (at + length xs + length ys) (put_at b at xs) ≡ drop (at + length xs + length ys) b
  rest_kept =
      sym (drop-drop (length ys) (at + length xs) (put_at b at xs))
      ∙ ap (drop (length ys)) (rw first (drop_at (take at b ++ xs) (drop (at + length xs) b) (at + length xs) head_long))
      ∙ drop-drop (length ys) (at + length xs) b

  pub put_append : put_at (put_at b at xs) (at + length xs) ys ≡ put_at b at (xs ++ ys)
  put_append =
      let e : at + length (xs ++ ys) ≡ at + length xs + length ys = rw (length-append xs ys) (omega arith) in
      put_inside (put_at b at xs) (at + length xs) ys (omega (arith, length_put b at xs))
      ∙ rw (head_kept, rest_kept)
      (sym (put_inside b at (xs ++ ys) (omega arith) ∙ rw (e, ← append_assoc (take at b) xs ys)))

-- one element behind what is put
pub put_last : (b : List ℕ) (at : ℕ) (xs : List ℕ) (v : ℕ) → at + length xs < length b → put_at (set b (at + length xs) v) at xs ≡ put_at b at (xs ++ (v ∷ []))
put_last b at xs v h =
    let n = at + length xs in
    let long : length (set b n v) ≡ length b = length-set b n v in
    let e : at + length (xs ++ (v ∷ [])) ≡ suc n = rw (length-append xs (v ∷ [])) (omega arith) in
    let rest : drop n (set b n v) ≡ v ∷ drop (suc n) b =
    drop-cons (set b n v) n 0 (lt-length-set b n v h) ∙ rw (get_or-set_same b n v 0 h, drop-set-lt (suc n) b n v (omega arith)) in
    put_inside (set b n v) at xs (omega arith)
    ∙ rw (rest, take-set-le at b n v (omega arith))
    (sym (append_assoc (take at b ++ xs) (v ∷ []) (drop (suc n) b))
    ∙ rw (append_assoc (take at b) xs (v ∷ [])) (sym (put_inside b at (xs ++ (v ∷ [])) (omega arith) ∙ rw e)))

-- ---- a number, from its last byte on
pub length_number : (w x : ℕ) → length (big_endian w x) ≡ w
unfolding big_endian
length_number zero x = refl
length_number (suc w) x = length-append (big_endian w (x / 256)) (x % 256 ∷ []) ∙ omega (arith, length_number w (x / 256))

-- the library writes them so
high_last : (k x : ℕ) → bytes_high_first (suc k) x ≡ bytes_high_first k (x / 256) ++ (x % 256 ∷ [])
high_last zero x = refl
high_last (suc zero) x = refl
high_last (suc (suc k)) x =
    let p = 256 ^ suc k in
    let wider : 256 ^ suc (suc k) ≡ 256 * p = pow-suc 256 (suc k) ∙ mul_comm p 256 in
    ap₂ (λ (b : ℕ) (bs : List ℕ). b % 256 ∷ bs) (ap (λ (m : ℕ). x / m) wider ∙ sym (div-div-eq-div-mul x 256 p)) (high_last (suc k) x)

high_first : (w x : ℕ) → bytes_high_first w x ≡ big_endian w x
unfolding big_endian
high_first zero x = refl
high_first (suc w) x = high_last w x ∙ ap (λ (l : List ℕ). l ++ (x % 256 ∷ [])) (high_first w (x / 256))

drop_high : (k w x : ℕ) → drop k (bytes_high_first (k + w) x) ≡ bytes_high_first w x
drop_high zero w x = let e : 0 + w ≡ w = omega arith in ap (λ (n : ℕ). bytes_high_first n x) e
drop_high (suc k) w x = let e : suc k + w ≡ suc (k + w) = omega arith in ap (λ (n : ℕ). drop (suc k) (bytes_high_first n x)) e ∙ drop_high k w x

pub low_bytes : (w x : ℕ) → w ≤ 8 → drop (8 - w) (to_be_bytes w64 x) ≡ big_endian w x
low_bytes w x h =
    let e : 8 - w + w ≡ 8 = omega arith in
    ap (λ (n : ℕ). drop (8 - w) (bytes_high_first n x)) (sym e) ∙ drop_high (8 - w) w x ∙ high_first w x

-- and writes over a part of a buffer so
pub number_put : (b bs ys : List ℕ) (at w x : ℕ) → w ≤ 8 → at + w ≤ length b → bs ≡ to_be_bytes w64 x → ys ≡ take (8 - (8 - w)) (drop (8 - w) bs)
    → put_mid at (at + w - at) b ys ≡ put_at b at (big_endian w x)
number_put b bs ys at w x small fits p e =
    let n = big_endian w x in
    let long : length n ≡ w = length_number w x in
    let all : 8 - (8 - w) ≡ w = omega arith in
    let is : ys ≡ n = e ∙ rw (all, p, low_bytes w x small) (take_all w n (omega arith)) in
    let k : at + w - at ≡ w = omega arith in
    rw (is, k, drop-drop w at b) (sym (put_inside b at n (omega arith) ∙ ap (λ (i : ℕ). take at b ++ n ++ drop (at + i) b) long ∙ append_assoc (take at b) n (drop (at + w) b)))

-- ---- numbers, one after the other
-- those from i on are left to be put, and W is the buffer with all of them
pub Rest : List ℕ → List ℕ → ℕ → ℕ → List ℕ → ℕ → Type 0
Rest b W place w xs i = (place + length (all_big_endian w (drop i xs)) ≤ length b) × (put_at b place (all_big_endian w (drop i xs)) ≡ W)

pub rest_starts : (b : List ℕ) (at w : ℕ) (xs : List ℕ) → at + length (all_big_endian w xs) ≤ length b → Rest b (put_at b at (all_big_endian w xs)) at w xs 0
unfolding Rest
rest_starts b at w xs fits = (fits, refl)

module _ (b W : List ℕ) (place w : ℕ) (xs : List ℕ) (i : ℕ) (rest : Rest b W place w xs i) where
  abbrev after : List ℕ
  after = all_big_endian w (drop (i + 1) xs)

  left_is : i < length xs → all_big_endian w (drop i xs) ≡ big_endian w (get_or xs i 0) ++ after
  unfolding all_big_endian
  left_is h = rw (drop-cons xs i 0 h, add-one)

  left_long : i < length xs → length (all_big_endian w (drop i xs)) ≡ w + length after
  left_long h = ap length (left_is h) ∙ length-append (big_endian w (get_or xs i 0)) after ∙ rw (length_number w (get_or xs i 0))

  pub rest_room : i < length xs → place + w ≤ length b
  unfolding Rest
  rest_room h = omega (arith, left_long h, rest.0)

  pub rest_step : (t : List ℕ) (x : ℕ) → i < length xs → t ≡ put_at b place (big_endian w x) → x ≡ get_or xs i 0 → Rest t W (place + w) w xs (i + 1)
  unfolding Rest
  rest_step t x h e q =
      let v = big_endian w (get_or xs i 0) in
      let long = length_number w (get_or xs i 0) in
      let two = put_append b place v after (omega (arith, left_long h, long, rest.0)) in
      rw (e, q) (omega (arith, left_long h, rest.0, length_put b place v), (rw long at two) ∙ ap (put_at b place) (sym (left_is h)) ∙ rest.1)

  pub rest_done : length xs ≤ i → b ≡ W
  unfolding Rest all_big_endian
  rest_done h = sym (put_nothing b place (omega (arith, rest.0))) ∙ (rw (drop_of_length-le xs {i = i} h) at rest.1)
