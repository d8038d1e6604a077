-- What is read as a record is the record of the call that was read. Assumes nothing.
use Prim.Native.Nat.{ℕ, ◌+◌, ◌*◌, ◌-◌, ◌/◌, ◌%◌, ◌≤◌, ◌<◌, ◌^◌}
use mathlib.Core.Path.{◌≡◌, refl, sym, ap, ap₂, ◌∙◌}
use mathlib.Core.Bool.{Bool, true, false, cond}
use mathlib.Core.List.{List, ◌∷◌, ◌++◌, append_assoc}
use native.Mathlib.Omega.{arith}
use lib.Dec.{leb, ltb, eqb}
use lib.ListN.{length, get_or, take, drop, length-append, length-drop, length-replicate, take-append-drop}
use lib.Seq.{drop-cons, drop-drop, take_all}
use borrow.Author.Tests.{ltb-false, leb-true, leb-false, eqb-false}
use Rattle.std.specs.Prelude.{Option, Some, None, Ok, Err}
use Rattle.prelude.specs.Parts.{part}
use Rattle.prelude.proofs.Parts.{length_part, part_part}
use Rattle.calls.specs.declared.Call.{Call}
use Rattle.calls.specs.Calls.{Request}
use Rattle.journal.specs.declared.layout.Lent.{Lent}
use Rattle.journal.specs.declared.layout.Lent.TheVariants.{Nothing, Text, Groups, Buffer}
use Rattle.journal.specs.declared.read.Record.{Record}
use Rattle.journal.specs.Numbers.{big_endian, all_big_endian, number_at, numbers_at}
use Rattle.journal.specs.Layout.{byte_of, form_of, fixed_bytes, names_of, numbers_of, template_of}
use Rattle.journal.specs.Journal.{tail_of, body_of, record_of, request_record}
use Rattle.journal.specs.Reading.{Read, leftover, text_bytes, id_count, buffer_length, names_in, numbers_in, rest_of, record_in, record_by, record_at, request_at}
use Rattle.journal.specs.Laws.{AllBelow, Writable}
use Rattle.journal.proofs.Gets.{length_tab}
use Rattle.journal.proofs.BigEndian.{below_part, below_tab, bytes_written, numbers_written, name_below, id_below, size_below}
use Rattle.journal.proofs.Table.{listed, names_back, numbers_back, template_byte}

-- what a test picks has what each side has
cond_cases : {A : Type 0} (P : A → Type 0) (t : Bool) {a b : A} → (t ≡ true → P a) → (t ≡ false → P b) → P (cond t a b)
cond_cases P true f g = f refl
cond_cases P false f g = g refl

-- what was read of what is lent is all that is left
tail_back : (lent : Lent) (rest at : ℕ) (l : List ℕ) → AllBelow 256 l → at + rest ≤ length l → leftover lent rest ≡ false
    → tail_of lent (part (text_bytes lent rest) at l) (numbers_at 4 (id_count lent rest) at l) ≡ part rest at l
unfolding part
tail_back Nothing rest at l h room none = let z = ltb-false 0 rest none in let e : rest ≡ 0 = omega arith in rw e
tail_back Text rest at l h room none = refl
tail_back Groups rest at l h room none =
    let z = ltb-false 0 (rest % 4) none in
    let e : rest / 4 * 4 ≡ rest = omega arith in
    rw e at (numbers_written 4 (rest / 4) at l h (omega arith))
tail_back Buffer rest at l h room none = let z = ltb-false 0 rest none in let e : rest ≡ 0 = omega arith in rw e

-- a list from its first element on, by two parts and the rest
three_parts : (a b : ℕ) (l : List ℕ) → 0 < length l → get_or l 0 0 ∷ (part a 1 l ++ part b (1 + a) l ++ drop (1 + a + b) l) ≡ l
unfolding part
three_parts a b l h =
    let rest : take b (drop (1 + a) l) ++ drop (1 + a + b) l ≡ drop (1 + a) l =
    rw (← drop-drop b (1 + a) l) (take-append-drop b (drop (1 + a) l)) in
    ap (λ (x : List ℕ). get_or l 0 0 ∷ x)
    (append_assoc (take a (drop 1 l)) (take b (drop (1 + a) l)) (drop (1 + a + b) l)
    ∙ rw (rest, ← drop-drop a 1 l) (take-append-drop a (drop 1 l)))
    ∙ sym (drop-cons l 0 0 h)

-- ---- what stands at an offset
pub record IsRecord (l : List ℕ) (at : ℕ) (f : Record) : Type 0 where
  pub same_bytes_lem : drop at l ≡ request_record (request_at l f) ++ drop f.next l
  pub next_is : f.next ≡ at + length (request_record (request_at l f))
  pub goes_on : at < f.next
  pub inside : f.next ≤ length l
  pub fits : Writable (request_at l f)

abbrev pub StandsAt : List ℕ → ℕ → Read → Type 0
StandsAt l at (Ok (Some f)) = IsRecord l at f
StandsAt l at (Ok None) = length l ≤ at
StandsAt l at (Err s) = (s.at ≡ at) × (at < length l)

module _ (l : List ℕ) (at : ℕ) (bytes : AllBelow 256 l) where
  abbrev size : ℕ
  size = number_at 2 at l

  abbrev body : List ℕ
  body = part size (at + 2) l

  module _ (room : at + 2 + size ≤ length l) where
    body_long : length body ≡ size
    body_long = length_part size (at + 2) l room

    module _ (some : 0 < size) (d : Call) (known : template_of (get_or body 0 0) ≡ Some d) (enough : fixed_bytes (form_of d) ≤ length body)
        (none : leftover (form_of d).lent (rest_of d body) ≡ false) where
      abbrev f : Record
      f = record_in at body d

      abbrev q : Request
      q = request_at l f

      byte_is : byte_of q.call ≡ get_or body 0 0
      byte_is = (listed d).same_byte (names_in d body) (numbers_in d body) ∙ template_byte (get_or body 0 0) d known

      names_are : names_of q.call ≡ names_in d body
      names_are = names_back d (names_in d body) (numbers_in d body) (length_tab (λ (i : ℕ). number_at 8 (1 + 8 * i) body) (form_of d).names 0)

      numbers_are : numbers_of q.call (length q.buffer) ≡ numbers_in d body
      numbers_are =
          rw (length-replicate {A = ℕ} (buffer_length (form_of d).lent (numbers_in d body)) 0)
          (numbers_back d (names_in d body) (numbers_in d body)
          (length_tab (λ (i : ℕ). number_at 4 (1 + (form_of d).names * 8 + 4 * i) body) (form_of d).numbers 0))

      form_is : form_of q.call ≡ form_of d
      form_is = (listed d).same_form (names_in d body) (numbers_in d body)

      tail_is : tail_of (form_of q.call).lent q.text q.list ≡ drop (fixed_bytes (form_of d)) body
      tail_is =
          let fixed = fixed_bytes (form_of d) in
          let long = body_long in
          rw form_is
          (tail_back (form_of d).lent (rest_of d body) (at + 2 + fixed) l bytes (omega arith) none
          ∙ sym (part_part (rest_of d body) fixed size (at + 2) l (omega arith))
          ∙ take_all (rest_of d body) (drop fixed body) (simp length-drop (omega arith)))

      body_is : body_of q.call q.text q.list (length q.buffer) ≡ body
      unfolding body_of
      body_is =
          let k = (form_of d).names in
          let m = (form_of d).numbers in
          let small = below_part 256 size (at + 2) l bytes in
          let long = body_long in
          (λ i. byte_is i ∷ (all_big_endian 8 (names_are i) ++ all_big_endian 4 (numbers_are i) ++ tail_is i))
          ∙ ap₂ (λ (x y : List ℕ). get_or body 0 0 ∷ (x ++ y ++ drop (fixed_bytes (form_of d)) body))
          (numbers_written 8 k 1 body small (omega arith)) (numbers_written 4 m (1 + k * 8) body small (omega arith))
          ∙ three_parts (k * 8) (m * 4) body (omega arith)

      record_is : request_record q ≡ part 2 at l ++ body
      unfolding record_of number_at
      record_is =
          let size_is : big_endian 2 (length body) ≡ part 2 at l =
          rw body_long (bytes_written 2 (part 2 at l) (length_part 2 at l (omega arith)) (below_part 256 2 at l bytes)) in
          ap (λ (b : List ℕ). big_endian 2 (length b) ++ b) body_is ∙ ap (λ (x : List ℕ). x ++ body) size_is

      record_long : length (request_record q) ≡ 2 + size
      record_long = ap length record_is ∙ length-append (part 2 at l) body ∙ omega (arith, length_part 2 at l (omega arith), body_long)

      pub is_record : IsRecord l at f
      unfolding part
      is_record = record {
        same_bytes_lem =
            rw (record_is, body_long, ← drop-drop size (at + 2) l)
            (sym
            (append_assoc (part 2 at l) body (drop size (drop (at + 2) l))
            ∙ rw (take-append-drop size (drop (at + 2) l), ← drop-drop 2 at l) (take-append-drop 2 (drop at l))));
        next_is = omega (arith, record_long, body_long);
        goes_on = omega (arith, body_long);
        inside = omega (arith, body_long);
        fits = (
          (
            rw names_are (below_tab (2 ^ 64) (λ (i : ℕ). number_at 8 (1 + 8 * i) body) (form_of d).names 0 (λ i. name_below (1 + 8 * i) body)),
            rw numbers_are (below_tab (2 ^ 32) (λ (i : ℕ). number_at 4 (1 + (form_of d).names * 8 + 4 * i) body) (form_of d).numbers 0 (λ i. id_below (1 + (form_of d).names * 8 + 4 * i) body)),
            below_part 256 f.text f.tail l bytes,
            below_tab (2 ^ 32) (λ (i : ℕ). number_at 4 (f.tail + 4 * i) l) f.ids 0 (λ i. id_below (f.tail + 4 * i) l),
          ),
          omega (arith, ap length body_is, body_long, size_below at l),
        );
      }

    by_template : at < length l → 0 < size → (t : Option Call) → template_of (get_or body 0 0) ≡ t → StandsAt l at (record_by at body t)
    unfolding record_by
    by_template more some None e = (refl, more)
    by_template more some (Some d) e =
        cond_cases (StandsAt l at) (ltb (length body) (fixed_bytes (form_of d))) (λ t. (refl, more))
        (λ t.
        cond_cases (StandsAt l at) (leftover (form_of d).lent (rest_of d body)) (λ s. (refl, more))
        (λ s. is_record some d e (ltb-false (length body) (fixed_bytes (form_of d)) t) s))

  pub stands : StandsAt l at (record_at l at)
  unfolding record_at
  stands =
      let P = StandsAt l at in
      cond_cases P (leb (length l) at) (λ t. leb-true (length l) at t)
      (λ t.
      let more = leb-false (length l) at t in
      cond_cases P (ltb (length l - at) 2) (λ s. (refl, more))
      (λ s.
      let two = ltb-false (length l - at) 2 s in
      cond_cases P (ltb (length l - at - 2) size) (λ u. (refl, more))
      (λ u.
      let all = ltb-false (length l - at - 2) size u in
      cond_cases P (eqb size 0) (λ v. (refl, more))
      (λ v. let some = eqb-false size 0 v in by_template (omega arith) more (omega arith) (template_of (get_or body 0 0)) refl))))
