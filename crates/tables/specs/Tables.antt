-- The tables as a caller thinks of them: document 01, 'What stands in the tables'. Assumes nothing.
use Rattle.std.specs.Prelude.{ℕ, ◌+◌, ◌-◌, ◌*◌, List, ◌∷◌, true, false, get_or, set, replicate}
use Rattle.capability.specs.Sets.{full_set}
use Rattle.idmap.specs.declared.Line.{Line}
use Rattle.idmap.specs.Line.{no_line}
use Rattle.idmap.specs.Good.{max_lines, no_id}
use Rattle.rows.specs.Rows.{rows}
use Rattle.records.specs.declared.MapState.TheVariants.{Written}
use Rattle.records.specs.declared.Kind.{Kind}
use Rattle.records.specs.declared.Kind.TheVariants.{User, Group}
use Rattle.records.specs.declared.Process.{Process}
use Rattle.records.specs.declared.IdMap.{IdMap}
use Rattle.records.specs.declared.Namespace.{Namespace}
use Rattle.records.specs.Records.{by_kind, process_width, process_of, zero_ids, no_groups, free_process, namespace_width, namespace_of, free_namespace, with_map, starts_of, no_starts}

pub record State : Type 0 where
  pub processes : List Process
  pub namespaces : List Namespace
  -- what the code keeps beside the lines of each namespace's maps: the kernel ID (document 01: station-wide ID) where the
  -- parent side of each line starts. Document 01 has no such thing, and no definition reads it but those of
  -- hierarchy/specs/KernelStarts.antt, which are not to be believed
  pub user_starts : List (List ℕ)
  pub group_starts : List (List ℕ)

-- document 01: the process table has 128 places, and there are at most 64 namespaces
abbrev pub process_places : ℕ
process_places = 128

abbrev pub namespace_places : ℕ
namespace_places = 64

-- document 01: levels reach 32 at most
abbrev pub max_level : ℕ
max_level = 32

-- where the tables start in the lent array, one behind the other
abbrev pub processes_at : ℕ
processes_at = 0

abbrev pub namespaces_at : ℕ
namespaces_at = processes_at + process_places * process_width

-- the words of both
abbrev pub tables_width : ℕ
tables_width = namespaces_at + namespace_places * namespace_width

-- the tables that the words of the lent array hold
unfoldable pub tables_of : List ℕ → State
tables_of l = record {
  processes = rows process_of process_width process_places processes_at l;
  namespaces = rows namespace_of namespace_width namespace_places namespaces_at l;
  user_starts = rows (starts_of User) namespace_width namespace_places namespaces_at l;
  group_starts = rows (starts_of Group) namespace_width namespace_places namespaces_at l;
}

-- what stands in a place. A place past the end is free
unfoldable pub process_at : State → ℕ → Process
process_at s i = get_or s.processes i free_process

unfoldable pub namespace_at : State → ℕ → Namespace
namespace_at s i = get_or s.namespaces i free_namespace

abbrev pub starts_by : Kind → State → List (List ℕ)
starts_by k s = by_kind k s.user_starts s.group_starts

unfoldable pub starts_at : State → Kind → ℕ → List ℕ
starts_at s k i = get_or (starts_by k s) i no_starts

-- the same tables with another list in one place
abbrev pub with_processes : State → List Process → State
with_processes s ps = record { processes = ps; namespaces = s.namespaces; user_starts = s.user_starts; group_starts = s.group_starts }

abbrev pub with_namespaces : State → List Namespace → State
with_namespaces s ns = record { processes = s.processes; namespaces = ns; user_starts = s.user_starts; group_starts = s.group_starts }

abbrev pub with_starts : State → Kind → List (List ℕ) → State
with_starts s k ys = record {
  processes = s.processes;
  namespaces = s.namespaces;
  user_starts = by_kind k ys s.user_starts;
  group_starts = by_kind k s.group_starts ys;
}

abbrev pub put_process : State → ℕ → Process → State
put_process s i p = with_processes s (set s.processes i p)

abbrev pub put_namespace : State → ℕ → Namespace → State
put_namespace s i n = with_namespaces s (set s.namespaces i n)

abbrev pub put_starts : State → Kind → ℕ → List ℕ → State
put_starts s k i ys = with_starts s k (set (starts_by k s) i ys)

-- the same tables with a map of a kind in namespace i, and the kernel starts of its lines
unfoldable pub put_map : State → Kind → ℕ → IdMap → List ℕ → State
put_map s k i m ys = put_starts (put_namespace s i (with_map k (namespace_at s i) m)) k i ys

-- the same tables with no kernel starts of either kind in place i
abbrev pub clear_starts : State → ℕ → State
clear_starts s i = put_starts (put_starts s User i no_starts) Group i no_starts

-- ---- document 01: the fresh start
-- process 1 in namespace 0, all IDs 0, no supplementary groups, both sets full
abbrev pub first_process : Process
first_process = record {
  live = true;
  namespace = 0;
  users = zero_ids;
  groups = zero_ids;
  supplementary = no_groups;
  permitted = record { bits = full_set };
  effective = record { bits = full_set };
}

-- namespace 0 has the fixed line 0 0 4294967295 in both maps
abbrev pub fixed_line : Line
fixed_line = record { inside = 0; parent = 0; count = no_id }

abbrev pub fixed_map : IdMap
fixed_map = record { state = Written 1; lines = fixed_line ∷ replicate (max_lines - 1) no_line }

abbrev pub root_namespace : Namespace
root_namespace = record { live = true; parent = 0; level = 0; owner = 0; users = fixed_map; groups = fixed_map; deny = false }

-- the same tables with no namespace in any place
unfoldable pub without_namespaces : State → State
without_namespaces s = record {
  processes = s.processes;
  namespaces = replicate namespace_places free_namespace;
  user_starts = replicate namespace_places no_starts;
  group_starts = replicate namespace_places no_starts;
}

unfoldable pub initial_tables : State
initial_tables = record {
  processes = set (replicate process_places free_process) 0 first_process;
  namespaces = set (replicate namespace_places free_namespace) 0 root_namespace;
  user_starts = replicate namespace_places no_starts;
  group_starts = replicate namespace_places no_starts;
}
