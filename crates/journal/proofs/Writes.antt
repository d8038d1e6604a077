-- What the writer stores, piece by piece. Assumes nothing.
use Prim.Native.Nat.{ℕ, ◌+◌, ◌*◌, ◌≤◌, ◌<◌}
use mathlib.Core.Path.{◌≡◌, refl, sym, ap, ◌∙◌}
use mathlib.Core.List.{List, [], ◌∷◌, ◌++◌, map, append_assoc}
use Rattle.std.proofs.lemmas.List.{map-id}
use native.Mathlib.Omega.{arith}
use lib.Seq.{length-take-le}
use lib.ListN.{length, set, length-set, take, length-append}
use Rattle.prelude.specs.Parts.{put_at}
use Rattle.prelude.proofs.Parts.{length_put}
use Rattle.calls.specs.declared.Call.{Call}
use Rattle.journal.specs.Numbers.{big_endian, all_big_endian}
use Rattle.journal.specs.Layout.{byte_of, form_of, fixed_bytes, names_of, numbers_of, first_three}
use Rattle.journal.specs.Journal.{tail_of, body_of, record_of}
use Rattle.journal.proofs.BigEndian.{length_all}
use Rattle.journal.proofs.Layouts.{few_names, few_numbers}
use Rattle.journal.proofs.Table.{listed}
use Rattle.journal.proofs.Puts.{put_nothing, put_append, put_last, length_number}

-- ---- the lengths of a body and of a record
names_bytes : (c : Call) → length (all_big_endian 8 (names_of c)) ≡ (form_of c).names * 8
names_bytes c = length_all 8 (names_of c) ∙ ap (λ (k : ℕ). k * 8) (listed c).names_long

numbers_bytes : (c : Call) (n : ℕ) → length (all_big_endian 4 (numbers_of c n)) ≡ (form_of c).numbers * 4
numbers_bytes c n = length_all 4 (numbers_of c n) ∙ ap (λ (k : ℕ). k * 4) ((listed c).numbers_long n)

pub body_size : (c : Call) (text list : List ℕ) (n : ℕ) → length (body_of c text list n) ≡ fixed_bytes (form_of c) + length (tail_of (form_of c).lent text list)
unfolding body_of
body_size c text list n =
    let names = all_big_endian 8 (names_of c) in
    let numbers = all_big_endian 4 (numbers_of c n) in
    let inner = length-append names numbers in
    let outer = length-append (names ++ numbers) (tail_of (form_of c).lent text list) in
    omega (arith, inner, outer, names_bytes c, numbers_bytes c n)

pub record_size : (c : Call) (text list : List ℕ) (n : ℕ) → length (record_of c text list n) ≡ 2 + length (body_of c text list n)
unfolding record_of
record_size c text list n =
    let body = body_of c text list n in
    length-append (big_endian 2 (length body)) body ∙ omega (arith, length_number 2 (length body))

-- ---- a record's pieces, stored one behind the other
-- as many of the arguments as a call has
take_three : (l : List ℕ) → length l ≤ 3 → take (length l) (first_three l) ≡ l
take_three [] h = refl
take_three (x ∷ []) h = refl
take_three (x ∷ y ∷ []) h = refl
take_three (x ∷ y ∷ z ∷ []) h = refl
take_three (x ∷ y ∷ z ∷ w ∷ l) h = absurd (omega arith)

pub names_taken : (c : Call) (r : List ℕ) → r ≡ first_three (names_of c) → map (λ (x : ℕ). x) (take (form_of c).names r) ≡ names_of c
names_taken c r q =
    let few = few_names c in
    let long = (listed c).names_long in
    rw q (map-id (take (form_of c).names (first_three (names_of c))) ∙ (rw long at (take_three (names_of c) (omega arith))))

pub numbers_taken : (c : Call) (n : ℕ) (r : List ℕ) → r ≡ first_three (numbers_of c n) → map (λ (x : ℕ). x) (take (form_of c).numbers r) ≡ numbers_of c n
numbers_taken c n r q =
    let few = few_numbers c in
    let long = (listed c).numbers_long n in
    rw q (map-id (take (form_of c).numbers (first_three (numbers_of c n))) ∙ (rw long at (take_three (numbers_of c n) (omega arith))))

pub taken_long : (k : ℕ) (r l : List ℕ) → k ≤ 3 → r ≡ first_three l → k ≡ length (take k r)
taken_long k r l h q = sym (length-take-le k r (rw q h))

put_on : (b t : List ℕ) (at p : ℕ) (xs ys : List ℕ) → t ≡ put_at b at xs → p ≡ at + length xs → at + length xs + length ys ≤ length b → put_at t p ys ≡ put_at b at (xs ++ ys)
put_on b t at p xs ys e q fits = rw (e, q) (put_append b at xs ys fits)

set_is : (b : List ℕ) (at v : ℕ) → at < length b → set b at v ≡ put_at b at (v ∷ [])
set_is b at v h =
    let z : at + 0 ≡ at = omega arith in
    sym (put_nothing (set b at v) at (rw (length-set b at v) (omega arith))) ∙ (rw z at (put_last b at [] v (omega arith)))

module _ (c : Call) (text list b : List ℕ) (n at size : ℕ) (e : size ≡ length (body_of c text list n)) (fits : at + 2 + size ≤ length b) where
  abbrev names : List ℕ
  names = all_big_endian 8 (names_of c)

  abbrev numbers : List ℕ
  numbers = all_big_endian 4 (numbers_of c n)

  abbrev tail : List ℕ
  tail = tail_of (form_of c).lent text list

  abbrev front : List ℕ
  front = big_endian 2 size

  abbrev v : List ℕ
  v = byte_of c ∷ []

  -- all of it has room
  room : at + 2 + (1 + length names + length numbers + length tail) ≤ length b
  room = omega (arith, body_size c text list n, names_bytes c, numbers_bytes c n)

  module _ (b₁ : List ℕ) (p₁ : b₁ ≡ put_at b at front) where
    pub byte_room : at + 2 < length b₁
    byte_room = rw p₁ (omega (arith, room, length_put b at front))

    pub names_room : at + 2 + 1 + length names ≤ length (set b₁ (at + 2) (byte_of c))
    names_room = rw (length-set b₁ (at + 2) (byte_of c), p₁) (omega (arith, room, length_put b at front))

    byte_put : set b₁ (at + 2) (byte_of c) ≡ put_at b at (front ++ v)
    byte_put = set_is b₁ (at + 2) (byte_of c) byte_room ∙ put_on b b₁ at (at + 2) front v p₁ (omega (arith, length_number 2 size)) (omega (arith, room, length_number 2 size))

    module _ (b₂ : List ℕ) (p₂ : b₂ ≡ put_at (set b₁ (at + 2) (byte_of c)) (at + 2 + 1) names) where
      front_long : length (front ++ v) ≡ 3
      front_long = length-append front v ∙ omega (arith, length_number 2 size)

      names_put : b₂ ≡ put_at b at ((front ++ v) ++ names)
      names_put = p₂ ∙ put_on b (set b₁ (at + 2) (byte_of c)) at (at + 2 + 1) (front ++ v) names byte_put (omega (arith, front_long)) (omega (arith, room, front_long))

      names_end : length ((front ++ v) ++ names) ≡ 3 + (form_of c).names * 8
      names_end = length-append (front ++ v) names ∙ omega (arith, front_long, names_bytes c)

      pub numbers_room : at + 2 + 1 + (form_of c).names * 8 + length numbers ≤ length b₂
      numbers_room = rw names_put (omega (arith, room, names_bytes c, length_put b at ((front ++ v) ++ names)))

      module _ (b₃ : List ℕ) (p₃ : b₃ ≡ put_at b₂ (at + 2 + 1 + (form_of c).names * 8) numbers) where
        numbers_put : b₃ ≡ put_at b at (((front ++ v) ++ names) ++ numbers)
        numbers_put =
            p₃
            ∙ put_on b b₂ at (at + 2 + 1 + (form_of c).names * 8) ((front ++ v) ++ names) numbers names_put (omega (arith, names_end))
            (omega (arith, room, names_end, names_bytes c))

        numbers_end : length (((front ++ v) ++ names) ++ numbers) ≡ 3 + (form_of c).names * 8 + (form_of c).numbers * 4
        numbers_end = length-append ((front ++ v) ++ names) numbers ∙ omega (arith, names_end, numbers_bytes c n)

        pub tail_room : at + 2 + 1 + (form_of c).names * 8 + (form_of c).numbers * 4 + length tail ≤ length b₃
        tail_room = rw numbers_put (omega (arith, room, names_bytes c, numbers_bytes c n, length_put b at (((front ++ v) ++ names) ++ numbers)))

        pub record_put : put_at b₃ (at + 2 + 1 + (form_of c).names * 8 + (form_of c).numbers * 4) tail ≡ put_at b at (record_of c text list n)
        unfolding record_of body_of
        record_put =
            let whole : (((front ++ v) ++ names) ++ numbers) ++ tail ≡ front ++ body_of c text list n = simp append_assoc in
            put_on b b₃ at (at + 2 + 1 + (form_of c).names * 8 + (form_of c).numbers * 4) (((front ++ v) ++ names) ++ numbers) tail numbers_put
            (omega (arith, numbers_end)) (omega (arith, room, numbers_end, names_bytes c, numbers_bytes c n))
            ∙ ap (put_at b at) (whole ∙ ap (λ (k : ℕ). big_endian 2 k ++ body_of c text list n) e)
