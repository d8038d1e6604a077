-- The table of docs/journal.md: the byte of each call, and what its record has after it. Assumes nothing.
use Rattle.std.specs.Prelude.{ℕ, ◌+◌, ◌*◌, cond, List, [], ◌∷◌, eqb, get_or, Option, Some, None}
use Rattle.records.specs.declared.Kind.{Kind}
use Rattle.records.specs.declared.Kind.TheVariants.{User, Group}
use Rattle.records.specs.Records.{by_kind, zero_ids}
use Rattle.credentials.specs.declared.translate.Way.{Way}
use Rattle.credentials.specs.declared.translate.Way.TheVariants.{Out, Back}
use Rattle.calls.specs.declared.Call.{Call}
use Rattle.calls.specs.declared.Call.TheVariants.{Fork, Clone, Unshare, Setns, WriteMap, WriteSetgroups, ReadMap, ReadSetgroups, SetIds, SetGroups, Capable, Drop, OwnIdsOf, Translate}
use Rattle.journal.specs.declared.layout.Lent.{Lent}
use Rattle.journal.specs.declared.layout.Lent.TheVariants.{Nothing, Text, Groups, Buffer}
use Rattle.journal.specs.declared.layout.Form.{Form}

-- ---- the version, the bytes of a record's length and the most that it can say, and those of a name and of a number
abbrev pub version : ℕ
version = 1

abbrev pub size_bytes : ℕ
size_bytes = 2

abbrev pub max_size : ℕ
max_size = 65535

abbrev pub name_bytes : ℕ
name_bytes = 8

abbrev pub number_bytes : ℕ
number_bytes = 4

-- ---- the call bytes, in which the choices lie
abbrev pub by_way : {A : Type 0} → Way → A → A → A
by_way Out o b = o
by_way Back o b = b

unfoldable pub byte_of : Call → ℕ
byte_of (Fork c) = 0x10
byte_of (Clone c) = 0x11
byte_of (Unshare c) = 0x14
byte_of (Setns c n) = 0x17
byte_of (WriteMap k c p) = by_kind k 0x20 0x21
byte_of (WriteSetgroups c p) = 0x22
byte_of (ReadMap k c p) = by_kind k 0x23 0x24
byte_of (ReadSetgroups c p) = 0x25
byte_of (SetIds k c i) = by_kind k 0x30 0x31
byte_of (SetGroups c) = 0x32
byte_of (Drop c p e) = 0x33
byte_of (OwnIdsOf c) = 0x34
byte_of (Capable c n number) = 0x40
byte_of (Translate k w c n x) = by_kind k (by_way w 0x41 0x42) (by_way w 0x43 0x44)

-- ---- the call of a byte
-- each call once, with each choice, and with all its numbers 0
abbrev pub templates : List Call
templates =
    Fork 0 ∷ Clone 0 ∷ Unshare 0 ∷ Setns 0 0
    ∷ WriteMap User 0 0 ∷ WriteMap Group 0 0 ∷ WriteSetgroups 0 0
    ∷ ReadMap User 0 0 ∷ ReadMap Group 0 0 ∷ ReadSetgroups 0 0
    ∷ SetIds User 0 zero_ids ∷ SetIds Group 0 zero_ids ∷ SetGroups 0 ∷ Drop 0 0 0 ∷ OwnIdsOf 0
    ∷ Capable 0 0 0
    ∷ Translate User Out 0 0 0 ∷ Translate User Back 0 0 0 ∷ Translate Group Out 0 0 0 ∷ Translate Group Back 0 0 0
    ∷ []

-- the one that has the byte
unfoldable pub with_byte : ℕ → List Call → Option Call
with_byte b [] = None
with_byte b (c ∷ cs) = cond (eqb b (byte_of c)) (Some c) (with_byte b cs)

unfoldable pub template_of : ℕ → Option Call
template_of b = with_byte b templates

-- ---- what a record has after its call byte
abbrev pub form_by : ℕ → ℕ → Lent → Form
form_by names numbers lent = record { names = names; numbers = numbers; lent = lent }

unfoldable pub form_of : Call → Form
form_of (Fork c) = form_by 1 0 Nothing
form_of (Clone c) = form_by 1 0 Nothing
form_of (Unshare c) = form_by 1 0 Nothing
form_of (Setns c n) = form_by 2 0 Nothing
form_of (WriteMap k c p) = form_by 2 0 Text
form_of (WriteSetgroups c p) = form_by 2 0 Text
form_of (ReadMap k c p) = form_by 2 1 Buffer
form_of (ReadSetgroups c p) = form_by 2 1 Buffer
form_of (SetIds k c i) = form_by 1 3 Nothing
form_of (SetGroups c) = form_by 1 0 Groups
form_of (Capable c n number) = form_by 2 1 Nothing
form_of (Drop c p e) = form_by 3 0 Nothing
form_of (OwnIdsOf c) = form_by 1 0 Nothing
form_of (Translate k w c n x) = form_by 2 1 Nothing

-- the bytes before the tail: the call byte, the names and the numbers
abbrev pub fixed_bytes : Form → ℕ
fixed_bytes f = 1 + f.names * name_bytes + f.numbers * number_bytes

-- ---- the arguments of a call: its names and capability sets in order, the caller first; and its other numbers in
-- order, where a read has its buffer's length n
unfoldable pub names_of : Call → List ℕ
names_of (Fork c) = c ∷ []
names_of (Clone c) = c ∷ []
names_of (Unshare c) = c ∷ []
names_of (Setns c n) = c ∷ n ∷ []
names_of (WriteMap k c p) = c ∷ p ∷ []
names_of (WriteSetgroups c p) = c ∷ p ∷ []
names_of (ReadMap k c p) = c ∷ p ∷ []
names_of (ReadSetgroups c p) = c ∷ p ∷ []
names_of (SetIds k c i) = c ∷ []
names_of (SetGroups c) = c ∷ []
names_of (Capable c n number) = c ∷ n ∷ []
names_of (Drop c p e) = c ∷ p ∷ e ∷ []
names_of (OwnIdsOf c) = c ∷ []
names_of (Translate k w c n x) = c ∷ n ∷ []

unfoldable pub numbers_of : Call → ℕ → List ℕ
numbers_of (Fork c) m = []
numbers_of (Clone c) m = []
numbers_of (Unshare c) m = []
numbers_of (Setns c n) m = []
numbers_of (WriteMap k c p) m = []
numbers_of (WriteSetgroups c p) m = []
numbers_of (ReadMap k c p) m = m ∷ []
numbers_of (ReadSetgroups c p) m = m ∷ []
numbers_of (SetIds k c i) m = i.real ∷ i.effective ∷ i.saved ∷ []
numbers_of (SetGroups c) m = []
numbers_of (Capable c n number) m = number ∷ []
numbers_of (Drop c p e) m = []
numbers_of (OwnIdsOf c) m = []
numbers_of (Translate k w c n x) m = x ∷ []

-- as three: 0 past the last
abbrev pub first_three : List ℕ → List ℕ
first_three l = get_or l 0 0 ∷ get_or l 1 0 ∷ get_or l 2 0 ∷ []

-- the call of a template with these arguments
unfoldable pub call_by : Call → List ℕ → List ℕ → Call
call_by (Fork c) a b = Fork (get_or a 0 0)
call_by (Clone c) a b = Clone (get_or a 0 0)
call_by (Unshare c) a b = Unshare (get_or a 0 0)
call_by (Setns c n) a b = Setns (get_or a 0 0) (get_or a 1 0)
call_by (WriteMap k c p) a b = WriteMap k (get_or a 0 0) (get_or a 1 0)
call_by (WriteSetgroups c p) a b = WriteSetgroups (get_or a 0 0) (get_or a 1 0)
call_by (ReadMap k c p) a b = ReadMap k (get_or a 0 0) (get_or a 1 0)
call_by (ReadSetgroups c p) a b = ReadSetgroups (get_or a 0 0) (get_or a 1 0)
call_by (SetIds k c i) a b = SetIds k (get_or a 0 0) (record { real = get_or b 0 0; effective = get_or b 1 0; saved = get_or b 2 0 })
call_by (SetGroups c) a b = SetGroups (get_or a 0 0)
call_by (Capable c n number) a b = Capable (get_or a 0 0) (get_or a 1 0) (get_or b 0 0)
call_by (Drop c p e) a b = Drop (get_or a 0 0) (get_or a 1 0) (get_or a 2 0)
call_by (OwnIdsOf c) a b = OwnIdsOf (get_or a 0 0)
call_by (Translate k w c n x) a b = Translate k w (get_or a 0 0) (get_or a 1 0) (get_or b 0 0)
