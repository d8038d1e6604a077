-- The record of a call that can be written is read as that call. Assumes nothing.
use Prim.Native.Nat.{ℕ, ◌+◌, ◌*◌, ◌-◌, ◌/◌, ◌%◌, ◌<◌, ◌^◌}
use mathlib.Core.Path.{◌≡◌, refl, sym, ap, ◌∙◌}
use mathlib.Core.Bool.{false}
use mathlib.Core.List.{List, [], ◌∷◌, ◌++◌, append_assoc}
use native.Mathlib.Omega.{arith}
use lib.ListN.{length, get_or, take, drop, replicate, length-append, length-drop}
use lib.Seq.{take_at, drop_at, drop-drop}
use borrow.Author.Tests.{le-ltb}
use Rattle.std.specs.Prelude.{Some, Ok}
use Rattle.prelude.specs.Parts.{part}
use Rattle.calls.specs.declared.Call.{Call}
use Rattle.calls.specs.Calls.{Request}
use Rattle.journal.specs.declared.layout.Lent.{Lent}
use Rattle.journal.specs.declared.layout.Lent.TheVariants.{Nothing, Text, Groups, Buffer}
use Rattle.journal.specs.declared.read.Stop.TheVariants.{Cut}
use Rattle.journal.specs.Numbers.{big_endian, all_big_endian, number_from, number_at, numbers_at}
use Rattle.journal.specs.Layout.{byte_of, form_of, fixed_bytes, names_of, numbers_of, call_by}
use Rattle.journal.specs.Journal.{tail_of, body_of, record_of, request_record}
use Rattle.journal.specs.Reading.{stopped_at, body_read, leftover, text_bytes, id_count, buffer_length, names_in, numbers_in, record_in, record_by, record_at, request_at}
use Rattle.journal.specs.Laws.{AllBelow, Writable, recorded_by, recorded}
use Rattle.journal.proofs.Puts.{length_number}
use Rattle.journal.proofs.Records.{at_cut_body, at_record}
use Rattle.journal.proofs.BigEndian.{below_append, number_bytes_lem, numbers_bytes, number_read, numbers_read, length_all}
use Rattle.journal.proofs.Table.{listed}

-- ---- what is lent
-- none of it is left over
nothing_left : (lent : Lent) (text list : List ℕ) → leftover lent (length (tail_of lent text list)) ≡ false
nothing_left Nothing text list = refl
nothing_left Text text list = refl
nothing_left Groups text list =
    let e : length (all_big_endian 4 list) % 4 ≡ 0 = omega (arith, length_all 4 list) in rw e
nothing_left Buffer text list = refl

module _ (r : Request) (l rest : List ℕ) (at : ℕ) where
  text_read_lem : (lent : Lent) → drop at l ≡ tail_of lent r.text r.list ++ rest
      → part (text_bytes lent (length (tail_of lent r.text r.list))) at l ≡ (recorded_by lent r).text
  unfolding part
  text_read_lem Nothing e = refl
  text_read_lem Text e = ap (take (length r.text)) e ∙ take_at r.text rest (length r.text) refl
  text_read_lem Groups e = refl
  text_read_lem Buffer e = refl

  list_read : (lent : Lent) → AllBelow (2 ^ 32) r.list → drop at l ≡ tail_of lent r.text r.list ++ rest
      → numbers_at 4 (id_count lent (length (tail_of lent r.text r.list))) at l ≡ (recorded_by lent r).list
  list_read Nothing h e = refl
  list_read Text h e = refl
  list_read Groups h e =
      let many : length (all_big_endian 4 r.list) / 4 ≡ length r.list = omega (arith, length_all 4 r.list) in
      rw many (numbers_read 4 r.list at l rest h e)
  list_read Buffer h e = refl

buffer_kept : (lent : Lent) (r : Request) → replicate (buffer_length lent (length r.buffer ∷ [])) 0 ≡ (recorded_by lent r).buffer
buffer_kept Nothing r = refl
buffer_kept Text r = refl
buffer_kept Groups r = refl
buffer_kept Buffer r = refl

call_kept : (lent : Lent) (r : Request) → r.call ≡ (recorded_by lent r).call
call_kept Nothing r = refl
call_kept Text r = refl
call_kept Groups r = refl
call_kept Buffer r = refl

pub same_request : (x y : Request) → x.call ≡ y.call → x.text ≡ y.text → x.list ≡ y.list → x.buffer ≡ y.buffer → x ≡ y
same_request x y c t g b = λ i. record { call = c i; text = t i; list = g i; buffer = b i }

tail_bytes : (lent : Lent) (text list : List ℕ) → AllBelow 256 text → AllBelow 256 (tail_of lent text list)
tail_bytes Nothing text list h = tt
tail_bytes Text text list h = h
tail_bytes Groups text list h = numbers_bytes 4 list
tail_bytes Buffer text list h = tt

-- ---- the record
module _ (r : Request) (ok : Writable r) where
  abbrev c : Call
  c = r.call

  abbrev n : ℕ
  n = length r.buffer

  abbrev names : List ℕ
  names = all_big_endian 8 (names_of c)

  abbrev numbers : List ℕ
  numbers = all_big_endian 4 (numbers_of c n)

  abbrev tail : List ℕ
  tail = tail_of (form_of c).lent r.text r.list

  abbrev body : List ℕ
  body = body_of c r.text r.list n

  -- its template
  abbrev d : Call
  d = call_by c [] []

  names_long : length names ≡ (form_of c).names * 8
  names_long = length_all 8 (names_of c) ∙ rw (listed c).names_long

  numbers_long : length numbers ≡ (form_of c).numbers * 4
  numbers_long = length_all 4 (numbers_of c n) ∙ rw ((listed c).numbers_long n)

  body_is : body ≡ byte_of c ∷ (names ++ (numbers ++ tail))
  unfolding body_of
  body_is = ap (λ (x : List ℕ). byte_of c ∷ x) (append_assoc names numbers tail)

  body_long : length body ≡ fixed_bytes (form_of c) + length tail
  body_long =
      rw (body_is, length-append names (numbers ++ tail), length-append numbers tail, names_long, numbers_long) (omega arith)

  names_in_lem : names_in d body ≡ names_of c
  names_in_lem =
      rw ((listed c).blank_form, ← (listed c).names_long)
      (numbers_read 8 (names_of c) 1 body (numbers ++ tail) ok.0.0 (ap (drop 1) body_is))

  after_names : drop (1 + (form_of c).names * 8) body ≡ numbers ++ tail
  after_names =
      sym (drop-drop ((form_of c).names * 8) 1 body)
      ∙ ap (λ (x : List ℕ). drop ((form_of c).names * 8) (drop 1 x)) body_is
      ∙ drop_at names (numbers ++ tail) ((form_of c).names * 8) names_long

  numbers_in_lem : numbers_in d body ≡ numbers_of c n
  numbers_in_lem =
      rw ((listed c).blank_form, ← (listed c).numbers_long n)
      (numbers_read 4 (numbers_of c n) (1 + (form_of c).names * 8) body tail ok.0.1 after_names)

  rest_is : length body - fixed_bytes (form_of c) ≡ length tail
  rest_is = omega (arith, body_long)

  body_read_lem : (at : ℕ) → record_by at body (Some d) ≡ Ok (Some (record_in at body d))
  unfolding record_by
  body_read_lem at =
      rw ((listed c).blank_form, le-ltb (length body) (fixed_bytes (form_of c)) (omega (arith, body_long)), rest_is, nothing_left (form_of c).lent r.text r.list)

  -- it is bytes
  pub record_bytes : AllBelow 256 (request_record r)
  unfolding body_of record_of
  record_bytes =
      below_append 256 (big_endian 2 (length body)) body (number_bytes_lem 2 (length body)) (
        (listed c).byte_small,
        below_append 256 (names ++ numbers) tail (below_append 256 names numbers (numbers_bytes 8 (names_of c)) (numbers_bytes 4 (numbers_of c n)))
            (tail_bytes (form_of c).lent r.text r.list ok.0.2),
      )

  -- at an offset: its length, then what else is there
  module _ (l more : List ℕ) (at : ℕ) (e : drop at l ≡ big_endian 2 (length body) ++ more) where
    size_read : length body ≡ number_at 2 at l
    unfolding number_at part
    size_read =
        sym
        (ap (number_from 0) (ap (take 2) e ∙ take_at (big_endian 2 (length body)) more 2 (length_number 2 (length body)))
        ∙ number_read 2 (length body) (let most = ok.1 in omega arith))

    left_long : length l - at ≡ 2 + length more
    left_long = sym (length-drop at l) ∙ ap length e ∙ length-append (big_endian 2 (length body)) more ∙ rw (length_number 2 (length body))

    after_size : drop (at + 2) l ≡ more
    after_size = sym (drop-drop 2 at l) ∙ ap (drop 2) e ∙ drop_at (big_endian 2 (length body)) more 2 (length_number 2 (length body))

    -- too little
    pub record_cut : length more < length body → record_at l at ≡ stopped_at at Cut
    record_cut short =
        let long = left_long in
        sym (at_cut_body l at (omega arith) (omega arith) (length body) size_read (omega arith))

  pub length_record : length (request_record r) ≡ 2 + length body
  unfolding record_of
  length_record = length-append (big_endian 2 (length body)) body ∙ rw (length_number 2 (length body))

  -- the whole of it
  module _ (l rest : List ℕ) (at : ℕ) (e : drop at l ≡ request_record r ++ rest) where
    split : drop at l ≡ big_endian 2 (length body) ++ (body ++ rest)
    unfolding record_of
    split = e ∙ append_assoc (big_endian 2 (length body)) body rest

    pub record_found : record_at l at ≡ Ok (Some (record_in at body d))
    unfolding part
    record_found =
        let long = left_long l (body ++ rest) at split in
        let more = length-append body rest in
        let some = body_long in
        let is : body ≡ part (length body) (at + 2) l = rw (after_size l (body ++ rest) at split) (sym (take_at body rest (length body) refl)) in
        let byte : byte_of c ≡ get_or body 0 0 = sym (ap (λ (x : List ℕ). get_or x 0 0) body_is) in
        let read : body_read at body ≡ Ok (Some (record_in at body d)) = rw (← byte, (listed c).template) (body_read_lem at) in
        sym
        (at_record l at (omega arith) (omega arith) (length body) (size_read l (body ++ rest) at split) (omega arith) (λ z. omega arith)
        (Ok (Some (record_in at body d))) (sym read ∙ ap (body_read at) is))

    tail_here : drop (at + 2 + fixed_bytes (form_of c)) l ≡ tail ++ rest
    tail_here =
        let k = fixed_bytes (form_of c) in
        let front : length (byte_of c ∷ (names ++ numbers)) ≡ k =
        rw (length-append names numbers, names_long, numbers_long) (omega arith) in
        let whole : body ≡ (byte_of c ∷ (names ++ numbers)) ++ tail = body_is ∙ ap (λ (x : List ℕ). byte_of c ∷ x) (sym (append_assoc names numbers tail)) in
        sym (drop-drop k (at + 2) l)
        ∙ ap (drop k) (after_size l (body ++ rest) at split ∙ ap (λ (x : List ℕ). x ++ rest) whole ∙ append_assoc (byte_of c ∷ (names ++ numbers)) tail rest)
        ∙ drop_at (byte_of c ∷ (names ++ numbers)) (tail ++ rest) k front

    pub request_found : request_at l (record_in at body d) ≡ recorded r
    request_found =
        let lent = (form_of c).lent in
        same_request (request_at l (record_in at body d)) (recorded r)
        (rw (names_in_lem, numbers_in_lem) ((listed c).itself n) ∙ call_kept lent r)
        (rw ((listed c).blank_form, rest_is) (text_read_lem r l rest (at + 2 + fixed_bytes (form_of c)) lent tail_here))
        (rw ((listed c).blank_form, rest_is) (list_read r l rest (at + 2 + fixed_bytes (form_of c)) lent ok.0.3 tail_here))
        (rw (numbers_in_lem, (listed c).blank_form, (listed c).buffer_is n) (buffer_kept lent r))
