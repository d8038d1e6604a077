-- A record that was found lies within its journal. Assumes nothing.
use Prim.Native.Nat.{ℕ, ◌+◌, ◌*◌, ◌-◌, ◌≤◌, ◌<◌}
use mathlib.Core.Path.{◌≡◌, refl, ap}
use mathlib.Core.Bool.{false}
use mathlib.Core.List.{List, [], ◌∷◌}
use native.Mathlib.Omega.{arith}
use lib.Dec.{eqb, leb, ltb}
use lib.ListN.{length, get_or}
use borrow.Author.Tests.{ltb-true, ltb-false, leb-false, eqb-false}
use Rattle.std.specs.Prelude.{Option, Some, None, Ok}
use Rattle.prelude.specs.Parts.{part}
use Rattle.prelude.proofs.Tests.{by_test}
use Rattle.prelude.proofs.Parts.{length_part}
use Rattle.prelude.proofs.Made.{tab_all}
use Rattle.calls.specs.declared.Call.{Call}
use Rattle.journal.specs.declared.layout.Lent.{Lent}
use Rattle.journal.specs.declared.layout.Lent.TheVariants.{Nothing, Text, Groups, Buffer}
use Rattle.journal.specs.declared.read.Record.{Record}
use Rattle.journal.specs.Numbers.{number_from, number_at}
use Rattle.journal.specs.Layout.{version, template_of, form_of, fixed_bytes}
use Rattle.journal.proofs.Layouts.{some_names}
use Rattle.journal.specs.Reading.{leftover, text_bytes, id_count, rest_of, record_in, record_by, record_at, read_at}

-- ---- what the tests say of a record that was found
-- body is what it has after its length, and c the template of its call
pub record FoundIn (at : ℕ) (body : List ℕ) (r : Record) : Type 0 where
  pub template : Call
  pub known : template_of (get_or body 0 0) ≡ Some template
  pub wide : fixed_bytes (form_of template) ≤ length body
  pub all_used : leftover (form_of template).lent (rest_of template body) ≡ false
  pub is : record_in at body template ≡ r

by_template : (at : ℕ) (body : List ℕ) (r : Record) (t : Option Call) → template_of (get_or body 0 0) ≡ t → record_by at body t ≡ Ok (Some r) → FoundIn at body r
unfolding record_by
by_template at body r None p e = cc
by_template at body r (Some c) p e =
    by_test (ltb (length body) (fixed_bytes (form_of c)))
    (λ t. let z = rw t at e in cc)
    (λ t.
    let e₁ = rw t at e in
    by_test (leftover (form_of c).lent (rest_of c body))
    (λ u. let z = rw u at e₁ in cc)
    (λ u. record { template = c; known = p; wide = ltb-false (length body) (fixed_bytes (form_of c)) t; all_used = u; is = (let z = rw u at e₁ in cc) }))

-- and of where it stands in the journal
pub record FoundAt (l : List ℕ) (at : ℕ) (r : Record) : Type 0 where
  pub head : at + 2 ≤ length l
  pub whole : at + 2 + number_at 2 at l ≤ length l
  pub some_bytes : 0 < number_at 2 at l
  pub in_body : FoundIn at (part (number_at 2 at l) (at + 2) l) r

pub found_at : (l : List ℕ) (at : ℕ) (r : Record) → record_at l at ≡ Ok (Some r) → FoundAt l at r
unfolding record_at
found_at l at r e =
    let size = number_at 2 at l in
    by_test (leb (length l) at)
    (λ t. let z = rw t at e in cc)
    (λ t.
    let e₁ = rw t at e in
    by_test (ltb (length l - at) 2)
    (λ u. let z = rw u at e₁ in cc)
    (λ u.
    let e₂ = rw u at e₁ in
    by_test (ltb (length l - at - 2) size)
    (λ v. let z = rw v at e₂ in cc)
    (λ v.
    let e₃ = rw v at e₂ in
    by_test (eqb size 0)
    (λ w. let z = rw w at e₃ in cc)
    (λ w.
    let past = leb-false (length l) at t in
    let two = ltb-false (length l - at) 2 u in
    let all = ltb-false (length l - at - 2) size v in
    let some = eqb-false size 0 w in
    record {
      head = omega arith;
      whole = omega arith;
      some_bytes = omega arith;
      in_body = by_template at (part size (at + 2) l) r (template_of (get_or (part size (at + 2) l) 0 0)) refl (rw w at e₃);
    }))))

-- at the version byte too
pub found_from : (l : List ℕ) (at : ℕ) (r : Record) → read_at l at ≡ Ok (Some r) → (from : ℕ) × (at ≤ from) × (0 < from) × (record_at l from ≡ Ok (Some r))
unfolding read_at
found_from l at r e =
    by_test (ltb 0 at)
    (λ t. (at, omega arith, ltb-true 0 at t, rw t at e))
    (λ t.
    let e₁ = rw t at e in
    by_test (eqb (length l) 0)
    (λ u. let z = rw u at e₁ in cc)
    (λ u.
    let e₂ = rw u at e₁ in
    by_test (eqb (get_or l 0 0) version) (λ v. let z = ltb-false 0 at t in (1, omega arith, omega arith, rw v at e₂)) (λ v. let z = rw v at e₂ in cc)))

-- ---- its text, its list and its end lie within the journal
pub record Inside (l : List ℕ) (at : ℕ) (r : Record) : Type 0 where
  pub text_inside : r.tail + r.text ≤ length l
  pub ids_inside : r.tail + 4 * r.ids ≤ length l
  pub few_ids : r.ids ≤ 16381
  pub next_inside : r.next ≤ length l
  pub next_past : at < r.next

size_small : (l : List ℕ) (at : ℕ) → at + 2 ≤ length l → number_at 2 at l ≤ 65535
unfolding number_at number_from
size_small l at h =
    let s = part 2 at l in
    let e : number_from 0 (get_or s 0 0 ∷ get_or s 1 0 ∷ []) ≡ number_from 0 s = ap (number_from 0) (tab_all s 0 2 (length_part 2 at l h)) in
    omega arith

text_most : (lent : Lent) (rest : ℕ) → text_bytes lent rest ≤ rest
text_most Nothing rest = omega arith
text_most Text rest = omega arith
text_most Groups rest = omega arith
text_most Buffer rest = omega arith

ids_most : (lent : Lent) (rest : ℕ) → 4 * id_count lent rest ≤ rest
ids_most Nothing rest = omega arith
ids_most Text rest = omega arith
ids_most Groups rest = omega arith
ids_most Buffer rest = omega arith

inside_at : (l : List ℕ) (at : ℕ) (r : Record) → FoundAt l at r → Inside l at r
inside_at l at r f =
    let size = number_at 2 at l in
    let body = part size (at + 2) l in
    let b = f.in_body in
    let c = b.template in
    let fixed = fixed_bytes (form_of c) in
    let long : length body ≡ size = length_part size (at + 2) l f.whole in
    let small = size_small l at f.head in
    let caller = some_names c in
    let t = text_most (form_of c).lent (rest_of c body) in
    let i = ids_most (form_of c).lent (rest_of c body) in
    rw (← b.is) (record {
      text_inside = omega (arith, f.whole, b.wide, long, t);
      ids_inside = omega (arith, f.whole, b.wide, long, i);
      few_ids = omega (arith, f.whole, b.wide, long, i, small, caller);
      next_inside = omega (arith, f.whole, long);
      next_past = omega (arith, f.whole);
    })

pub found_inside : (l : List ℕ) (at : ℕ) (r : Record) → read_at l at ≡ Ok (Some r) → Inside l at r
found_inside l at r e =
    let f = found_from l at r e in
    let i = inside_at l f.0 r (found_at l f.0 r f.3) in
    record { text_inside = i.text_inside; ids_inside = i.ids_inside; few_ids = i.few_ids; next_inside = i.next_inside; next_past = omega (arith, f.1, i.next_past) }
