-- The records of the tables, and the rows of words that hold them. Nothing here is to be believed but that the layout
-- loses nothing: a record's words are read as the record (proofs/Records.antt). Assumes nothing.
use Rattle.std.specs.Prelude.{ℕ, ◌+◌, ◌*◌, ◌%◌, ◌^◌, ◌≡◌, Bool, true, false, cond, length, get_or, take, drop, replicate, eqb}
use mathlib.Core.List.{List, [], zip_with}
use Rattle.prelude.specs.Lists.{tab}
use Rattle.capability.specs.Sets.{cap_setgid, cap_setuid, empty_set}
use Rattle.idmap.specs.declared.Line.{Line}
use Rattle.idmap.specs.Line.{no_line, line_words, inside_column, parent_column, kernel_column, line_at, lines_in, kernel_lines_in}
use Rattle.idmap.specs.Good.{max_lines}
use Rattle.records.specs.declared.Kind.{Kind}
use Rattle.records.specs.declared.Kind.TheVariants.{User, Group}
use Rattle.records.specs.declared.Ids.{Ids}
use Rattle.records.specs.declared.GroupList.{GroupList}
use Rattle.records.specs.declared.Process.{Process}
use Rattle.records.specs.declared.MapState.{MapState}
use Rattle.records.specs.declared.MapState.TheVariants.{Unwritten, Written}
use Rattle.records.specs.declared.IdMap.{IdMap}
use Rattle.records.specs.declared.Namespace.{Namespace}

abbrev pub low_of : ℕ → ℕ
low_of w = w % 2 ^ 32

abbrev pub low_at : List ℕ → ℕ → ℕ
low_at r k = low_of (get_or r k 0)

-- ---- processes
abbrev pub ids_at : List ℕ → ℕ → Ids
ids_at r k = record { real = low_at r k; effective = low_at r (k + 1); saved = low_at r (k + 2) }

abbrev pub ids_width : ℕ
ids_width = 3

-- document 01: up to 16 supplementary groups
abbrev pub max_groups : ℕ
max_groups = 16

-- a process's row: whether it is live, its namespace, three user IDs, three group IDs, the number of its groups, as
-- many places as there may be groups, and two sets
abbrev pub users_at : ℕ
users_at = 2

abbrev pub groups_at : ℕ
groups_at = users_at + ids_width

abbrev pub supplementary_at : ℕ
supplementary_at = groups_at + ids_width

abbrev pub permitted_at : ℕ
permitted_at = supplementary_at + 1 + max_groups

abbrev pub process_width : ℕ
process_width = permitted_at + 2

abbrev pub process_of : List ℕ → Process
process_of r = record {
  live = eqb (get_or r 0 0) 1;
  namespace = get_or r 1 0;
  users = ids_at r users_at;
  groups = ids_at r groups_at;
  supplementary = record { count = get_or r supplementary_at 0; ids = tab (low_at r) max_groups (supplementary_at + 1) };
  permitted = record { bits = get_or r permitted_at 0 };
  effective = record { bits = get_or r (permitted_at + 1) 0 };
}

-- IDs that are all 0, and no groups
abbrev pub zero_ids : Ids
zero_ids = record { real = 0; effective = 0; saved = 0 }

abbrev pub no_groups : GroupList
no_groups = record { count = 0; ids = replicate max_groups 0 }

-- document 01: a place of the process table that is free
abbrev pub free_process : Process
free_process = record {
  live = false;
  namespace = 0;
  users = zero_ids;
  groups = zero_ids;
  supplementary = no_groups;
  permitted = record { bits = empty_set };
  effective = record { bits = empty_set };
}

-- ---- maps and namespaces
abbrev pub state_of : ℕ → ℕ → MapState
state_of tag n = cond (eqb tag 1) (Written n) Unwritten

-- a map's words: whether it is written, with how many lines, and the words of as many lines as there may be, each with
-- its kernel start, which the code keeps beside it
abbrev pub first_line_at : ℕ
first_line_at = 2

abbrev pub map_width : ℕ
map_width = first_line_at + line_words * max_lines

abbrev pub map_of : List ℕ → IdMap
map_of ws = record {
  state = state_of (get_or ws 0 0) (get_or ws 1 0);
  lines = tab (λ (j : ℕ). line_at inside_column parent_column ws (first_line_at + line_words * j)) max_lines 0;
}

abbrev pub free_map : IdMap
free_map = record { state = Unwritten; lines = replicate max_lines no_line }

-- a namespace's row: whether it is live, its parent, its level, its owner, the words of its user map, those of its
-- group map, and whether setgroups is denied
abbrev pub map_at : Kind → ℕ
map_at User = 4
map_at Group = 4 + map_width

abbrev pub deny_at : ℕ
deny_at = map_at Group + map_width

abbrev pub namespace_width : ℕ
namespace_width = deny_at + 1

abbrev pub namespace_of : List ℕ → Namespace
namespace_of r = record {
  live = eqb (get_or r 0 0) 1;
  parent = get_or r 1 0;
  level = get_or r 2 0;
  owner = low_at r 3;
  users = map_of (take map_width (drop (map_at User) r));
  groups = map_of (take map_width (drop (map_at Group) r));
  deny = eqb (get_or r deny_at 0) 1;
}

-- document 01: a number that no namespace has
abbrev pub free_namespace : Namespace
free_namespace = record { live = false; parent = 0; level = 0; owner = 0; users = free_map; groups = free_map; deny = false }

-- ---- rows of any length: another length than a record's holds none
unfoldable pub process_from : List ℕ → Process
process_from r = cond (eqb (length r) process_width) (process_of r) free_process

unfoldable pub map_from : List ℕ → IdMap
map_from ws = cond (eqb (length ws) map_width) (map_of ws) free_map

unfoldable pub namespace_from : List ℕ → Namespace
namespace_from r = cond (eqb (length r) namespace_width) (namespace_of r) free_namespace

-- ---- by kind: user IDs by the user maps, group IDs by the group maps
abbrev pub by_kind : {A : Type 0} → Kind → A → A → A
by_kind User users groups = users
by_kind Group users groups = groups

abbrev pub ids_in : Kind → Process → Ids
ids_in User p = p.users
ids_in Group p = p.groups

abbrev pub map_in : Kind → Namespace → IdMap
map_in User n = n.users
map_in Group n = n.groups

-- document 01: SETUID for user IDs, SETGID for group IDs
abbrev pub set_id_of : Kind → ℕ
set_id_of User = cap_setuid
set_id_of Group = cap_setgid

-- how many lines the words of a map say that it has
abbrev pub state_count : MapState → ℕ
state_count Unwritten = 0
state_count (Written n) = n

abbrev pub is_written : MapState → Bool
is_written Unwritten = false
is_written (Written n) = true

-- the lines of a map: none until it is written
abbrev pub lines_if : MapState → List Line → List Line
lines_if Unwritten ls = []
lines_if (Written n) ls = take n ls

abbrev pub lines_of : IdMap → List Line
lines_of m = lines_if m.state m.lines

-- a namespace with another map of a kind, and with another setgroups setting
unfoldable pub with_map : Kind → Namespace → IdMap → Namespace
with_map User n m = record { live = n.live; parent = n.parent; level = n.level; owner = n.owner; users = m; groups = n.groups; deny = n.deny }
with_map Group n m = record { live = n.live; parent = n.parent; level = n.level; owner = n.owner; users = n.users; groups = m; deny = n.deny }

unfoldable pub with_deny : Namespace → Bool → Namespace
with_deny n d = record { live = n.live; parent = n.parent; level = n.level; owner = n.owner; users = n.users; groups = n.groups; deny = d }

-- a namespace with both maps unwritten
abbrev pub unmapped : ℕ → ℕ → ℕ → Bool → Namespace
unmapped parent level owner deny = record { live = true; parent = parent; level = level; owner = owner; users = free_map; groups = free_map; deny = deny }

-- ---- what the code keeps beside the lines of a map. NOT to be believed: no definition reads it but those of
-- hierarchy/specs/KernelStarts.antt
-- the kernel starts that a map's words have, and those in a namespace's row
abbrev pub starts_in : List ℕ → List ℕ
starts_in ws = tab (λ (j : ℕ). low_at ws (first_line_at + line_words * j + kernel_column)) max_lines 0

abbrev pub starts_of : Kind → List ℕ → List ℕ
starts_of k r = starts_in (take map_width (drop (map_at k) r))

abbrev pub no_starts : List ℕ
no_starts = replicate max_lines 0

-- a row has none of either kind
abbrev pub Cleared : List ℕ → Type 0
Cleared r = (k : Kind) → starts_of k r ≡ no_starts

-- a line with a kernel ID on the parent side, and lines with their kernel starts there
abbrev pub on_kernel : Line → ℕ → Line
on_kernel l y = record { inside = l.inside; parent = y; count = l.count }

abbrev pub on_kernels : List Line → List ℕ → List Line
on_kernels ls ys = zip_with on_kernel ls ys

-- words hold the lines of a map, and the same with kernel starts ys on the parent side
pub record LinesOf (ws : List ℕ) (m : IdMap) (ys : List ℕ) : Type 0 where
  pub written : lines_in ws ≡ lines_of m
  pub kernel : kernel_lines_in ws ≡ on_kernels (lines_of m) ys

-- the kernel starts of a map's words, of which another number than a map's holds none
unfoldable pub starts_from : List ℕ → List ℕ
starts_from ws = cond (eqb (length ws) map_width) (starts_in ws) no_starts
