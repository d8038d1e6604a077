-- What the table of calls has of each. Assumes nothing.
use Prim.Native.Nat.{ℕ, ◌≤◌}
use mathlib.Core.Path.{◌≡◌, refl, sym, ap, ◌∙◌}
use mathlib.Core.List.{List, [], ◌∷◌}
use borrow.Author.Tests.{ne_eqb}
use native.Mathlib.Omega.{arith}
use Rattle.std.specs.Prelude.{None}
use Rattle.calls.specs.declared.Call.{Call}
use Rattle.calls.specs.declared.Call.TheVariants.{Fork, Clone, Unshare, Setns, WriteMap, WriteSetgroups, ReadMap, ReadSetgroups, SetIds, SetGroups, Capable, Drop, OwnIdsOf, Translate}
use Rattle.journal.specs.declared.layout.Lent.{Lent}
use Rattle.journal.specs.declared.layout.Lent.TheVariants.{Nothing, Text, Groups, Buffer}
use Rattle.journal.specs.Layout.{byte_of, templates, with_byte, template_of, form_by, form_of, fixed_bytes}

-- a call has one to three names, and at most three numbers
few : (c : Call) → (1 ≤ (form_of c).names) × ((form_of c).names ≤ 3) × ((form_of c).numbers ≤ 3)
unfolding form_of
few (Fork c) = (omega arith, omega arith, omega arith)
few (Clone c) = (omega arith, omega arith, omega arith)
few (Unshare c) = (omega arith, omega arith, omega arith)
few (Setns c n) = (omega arith, omega arith, omega arith)
few (WriteMap k c p) = (omega arith, omega arith, omega arith)
few (WriteSetgroups c p) = (omega arith, omega arith, omega arith)
few (ReadMap k c p) = (omega arith, omega arith, omega arith)
few (ReadSetgroups c p) = (omega arith, omega arith, omega arith)
few (SetIds k c i) = (omega arith, omega arith, omega arith)
few (SetGroups c) = (omega arith, omega arith, omega arith)
few (Capable c n number) = (omega arith, omega arith, omega arith)
few (Drop c p e) = (omega arith, omega arith, omega arith)
few (OwnIdsOf c) = (omega arith, omega arith, omega arith)
few (Translate k w c n x) = (omega arith, omega arith, omega arith)

pub some_names : (c : Call) → 1 ≤ (form_of c).names
some_names c = (few c).0

pub few_names : (c : Call) → (form_of c).names ≤ 3
few_names c = (few c).1

pub few_numbers : (c : Call) → (form_of c).numbers ≤ 3
few_numbers c = (few c).2

-- a record has its call byte and its caller
pub caller_there : (c : Call) → 9 ≤ fixed_bytes (form_of c)
caller_there c = let n = some_names c in omega (arith, n)

-- a call that lends a buffer is a read, with a process and the buffer's length
abbrev buffers : Lent → ℕ
buffers Nothing = 0
buffers Text = 0
buffers Groups = 0
buffers Buffer = 1

no_buffer : (d : Lent) → buffers d ≡ 0 → d ≡ Buffer → ⊥
no_buffer d a e = let z : ◌≡◌ {A = ℕ} 0 1 = sym a ∙ ap buffers e in omega (arith, z)

pub read_form : (c : Call) → (form_of c).lent ≡ Buffer → form_of c ≡ form_by 2 1 Buffer
unfolding form_of
read_form (Fork c) e = absurd (no_buffer _ refl e)
read_form (Clone c) e = absurd (no_buffer _ refl e)
read_form (Unshare c) e = absurd (no_buffer _ refl e)
read_form (Setns c n) e = absurd (no_buffer _ refl e)
read_form (WriteMap k c p) e = absurd (no_buffer _ refl e)
read_form (WriteSetgroups c p) e = absurd (no_buffer _ refl e)
read_form (ReadMap k c p) e = refl
read_form (ReadSetgroups c p) e = refl
read_form (SetIds k c i) e = absurd (no_buffer _ refl e)
read_form (SetGroups c) e = absurd (no_buffer _ refl e)
read_form (Capable c n number) e = absurd (no_buffer _ refl e)
read_form (Drop c p e') e = absurd (no_buffer _ refl e)
read_form (OwnIdsOf c) e = absurd (no_buffer _ refl e)
read_form (Translate k w c n x) e = absurd (no_buffer _ refl e)

-- the bytes of which a byte is none, as a match has them where none of its arms is taken
abbrev pub NoneFrom : Type 0 → ℕ → List Call → Type 0
NoneFrom T b [] = T
NoneFrom T b (c ∷ cs) = NoneFrom (T × (b ≡ byte_of c → ⊥)) b cs

none_with : (T : Type 0) (b : ℕ) (cs : List Call) → NoneFrom T b cs → (None ≡ with_byte b cs) × T
unfolding with_byte
none_with T b [] h = (refl, h)
none_with T b (c ∷ cs) h = let r = none_with (T × (b ≡ byte_of c → ⊥)) b cs h in (rw (ne_eqb b (byte_of c) r.1.1) r.0, r.1.0)

pub template_none : (b : ℕ) → NoneFrom (Unit {0}) b templates → None ≡ template_of b
unfolding template_of
template_none b h = (none_with (Unit {0}) b templates h).0
