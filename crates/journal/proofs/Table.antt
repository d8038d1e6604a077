-- Each call is found again by its call byte and its arguments. Assumes nothing.
use Prim.Native.Nat.{ℕ, ◌<◌}
use mathlib.Core.Path.{◌≡◌, sym, ◌∙◌}
use mathlib.Core.List.{List, [], ◌∷◌}
use lib.Dec.{eqb}
use lib.ListN.{length, get_or}
use borrow.Author.Rules.{rules}
use borrow.Author.Tests.{eqb-true}
use Rattle.std.specs.Prelude.{Some}
use Rattle.prelude.specs.Lists.{tab}
use Rattle.prelude.proofs.Tests.{by_test}
use Rattle.prelude.proofs.Made.{tab_all}
use Rattle.records.specs.declared.Kind.TheVariants.{User, Group}
use Rattle.credentials.specs.declared.translate.Way.TheVariants.{Out, Back}
use Rattle.calls.specs.declared.Call.{Call}
use Rattle.calls.specs.declared.Call.TheVariants.{Fork, Clone, Unshare, Setns, WriteMap, WriteSetgroups, ReadMap, ReadSetgroups, SetIds, SetGroups, Capable, Drop, OwnIdsOf, Translate}
use Rattle.journal.specs.Layout.{byte_of, templates, with_byte, template_of, form_of, names_of, numbers_of, first_three, call_by}
use Rattle.journal.specs.Reading.{buffer_length}

-- what the table says of a call
pub record Listed (c : Call) : Type 0 where
  pub template : template_of (byte_of c) ≡ Some (call_by c [] [])
  pub byte_small : byte_of c < 256
  pub itself : (n : ℕ) → call_by (call_by c [] []) (names_of c) (numbers_of c n) ≡ c
  pub blank_form : form_of (call_by c [] []) ≡ form_of c
  pub names_long : length (names_of c) ≡ (form_of c).names
  pub numbers_long : (n : ℕ) → length (numbers_of c n) ≡ (form_of c).numbers
  pub buffer_is : (n : ℕ) → buffer_length (form_of c).lent (numbers_of c n) ≡ buffer_length (form_of c).lent (n ∷ [])
  -- and of the call with other arguments
  pub same_byte : (a b : List ℕ) → byte_of (call_by c a b) ≡ byte_of c
  pub same_form : (a b : List ℕ) → form_of (call_by c a b) ≡ form_of c
  pub names_are : (a b : List ℕ) → names_of (call_by c a b) ≡ tab (λ (j : ℕ). get_or a j 0) (form_of c).names 0
  -- no more than three of each are read
  pub three : (a b : List ℕ) → call_by c (first_three a) (first_three b) ≡ call_by c a b
  pub numbers_are : (a b : List ℕ) → numbers_of (call_by c a b) (buffer_length (form_of c).lent b) ≡ tab (λ (j : ℕ). get_or b j 0) (form_of c).numbers 0

pub listed : (c : Call) → Listed c
unfolding byte_of template_of with_byte form_of names_of numbers_of call_by
listed (Fork c) = search rules
listed (Clone c) = search rules
listed (Unshare c) = search rules
listed (Setns c n) = search rules
listed (WriteMap User c p) = search rules
listed (WriteMap Group c p) = search rules
listed (WriteSetgroups c p) = search rules
listed (ReadMap User c p) = search rules
listed (ReadMap Group c p) = search rules
listed (ReadSetgroups c p) = search rules
listed (SetIds User c i) = search rules
listed (SetIds Group c i) = search rules
listed (SetGroups c) = search rules
listed (Capable c n number) = search rules
listed (Drop c p e) = search rules
listed (OwnIdsOf c) = search rules
listed (Translate User Out c n x) = search rules
listed (Translate User Back c n x) = search rules
listed (Translate Group Out c n x) = search rules
listed (Translate Group Back c n x) = search rules

pub by_three : (c : Call) (a b : List ℕ) → call_by c (first_three a) (first_three b) ≡ call_by c a b
by_three c a b = (listed c).three a b

-- a call with arguments of the right count has these
pub names_back : (c : Call) (a b : List ℕ) → length a ≡ (form_of c).names → names_of (call_by c a b) ≡ a
names_back c a b e = (listed c).names_are a b ∙ tab_all a 0 (form_of c).names e

pub numbers_back : (c : Call) (a b : List ℕ) → length b ≡ (form_of c).numbers → numbers_of (call_by c a b) (buffer_length (form_of c).lent b) ≡ b
numbers_back c a b e = (listed c).numbers_are a b ∙ tab_all b 0 (form_of c).numbers e

-- the template of a byte has it
with_byte_lem : (b : ℕ) (cs : List Call) (d : Call) → with_byte b cs ≡ Some d → byte_of d ≡ b
unfolding with_byte
with_byte_lem b [] d e = cc
with_byte_lem b (c ∷ cs) d e =
    by_test (eqb b (byte_of c)) (λ t. let same : Some c ≡ Some d = rw t at e in let is : c ≡ d = cc in rw (← is) (sym (eqb-true b (byte_of c) t)))
    (λ t. with_byte_lem b cs d (rw t at e))

pub template_byte : (b : ℕ) (d : Call) → template_of b ≡ Some d → byte_of d ≡ b
unfolding template_of
template_byte b d e = with_byte_lem b templates d e
