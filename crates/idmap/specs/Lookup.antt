-- What the lines of one map make of an ID. Assumes nothing.
use Rattle.std.specs.Prelude.{◌≡◌, ℕ, ◌+◌, ◌-◌, ◌<◌, Bool, cond, ◌↔◌, List, [], ◌∷◌, map, length, slice_index_or, unwrap_or, Option, Some, None}
use Rattle.idmap.specs.declared.Line.{Line}
use Rattle.idmap.specs.declared.LookedUp.{LookedUp}
use Rattle.idmap.specs.Line.{less, more, in_range, no_line}
use Rattle.idmap.specs.Good.{no_id, Within}

-- the ID that a line gives for an ID that it holds: the offset is added to the parent start
abbrev pub moved_by : Line → ℕ → ℕ
moved_by l id = more l.parent (less id l.inside)

-- how many IDs, from one that a line holds to the line's end, are in the line
abbrev pub left_from : Line → ℕ → ℕ
left_from l id = l.count - less id l.inside

-- what a line answers for an ID that it holds, and what is answered where no line holds it
abbrev pub held_by : Line → ℕ → LookedUp
held_by l id = record { translated = Some (moved_by l id); reach = left_from l id }

abbrev pub held_by_none : LookedUp
held_by_none = record { translated = None; reach = 0 }

-- the first answer where the test holds, else the second, part by part
abbrev pub either : Bool → LookedUp → LookedUp → LookedUp
either t a b = record { translated = cond t a.translated b.translated; reach = cond t a.reach b.reach }

-- a lookup: the first line that holds the ID says what it becomes, and how far this holds
unfoldable pub lookup_of : List Line → ℕ → LookedUp
lookup_of [] id = held_by_none
lookup_of (l ∷ ls) id = either (in_range id l.inside l.count) (held_by l id) (lookup_of ls id)

-- document 01: going out; an ID in no line has no translation
unfoldable pub out : List Line → ℕ → Option ℕ
unfolding lookup_of
out ls id = (lookup_of ls id).translated

-- document 02, L5: how many IDs, from this one to the end of its line, translate by the same offset; 0 where unmapped
unfoldable pub reach_of : List Line → ℕ → ℕ
unfolding lookup_of
reach_of ls id = (lookup_of ls id).reach

-- what follows an ID, or unmapped where there is none
abbrev pub then_id : Option ℕ → (ℕ → Option ℕ) → Option ℕ
then_id (Some x) next = next x
then_id None next = None

-- an ID, or another value where there is none
abbrev pub id_or : ℕ → Option ℕ → ℕ
id_or other r = unwrap_or r other

-- document 01: what a process is shown for an ID that has no translation into its namespace
abbrev pub overflow_id : ℕ
overflow_id = 65534

-- an ID, or 'no ID' where there is none
abbrev pub or_no_id : Option ℕ → ℕ
or_no_id r = id_or no_id r

-- a line with its two sides exchanged
abbrev pub flip : Line → Line
flip l = record { inside = l.parent; parent = l.inside; count = l.count }

-- document 01: coming back. It is going out over the lines with their sides exchanged
abbrev pub back : List Line → ℕ → Option ℕ
back ls id = out (map flip ls) id

-- ---- what a lookup's count says, by a law
-- document 02, L5: a line holds n of the IDs from x on, x among them, and no further one; and each of the n translates
-- by the same offset as x, which becomes y
pub record Reaches (ls : List Line) (x y n : ℕ) : Type 0 where
  pub which : ℕ
  pub which_in_range : which < length ls
  pub some : 0 < n
  pub in_line : (i : ℕ) → (i < n) ↔ Within (x + i) (slice_index_or ls which no_line).inside (slice_index_or ls which no_line).count
  pub same_offset : (i : ℕ) → i < n → out ls (x + i) ≡ Some (y + i)
