-- The bench runs of document 01 that are marked P, and those of document 02, as one table: the calls, the reply that
-- each is to get, and the tables that they are to leave. `scenarios_come_out` of proofs/Scenarios.antt proves that the
-- whole table comes out. Assumes nothing.
use Rattle.std.specs.Prelude.{ℕ, ◌-◌, ◌≡◌, Bool, true, false, List, [], ◌∷◌, ◌++◌, map, reverse, length, replicate, Some, None}
use Prim.Native.Char.{code}
use Prim.Native.String.{String, [] as empty, ◌∷◌ as ◌then◌}
use Rattle.capability.specs.Sets.{full_set, empty_set}
use Rattle.idmap.specs.declared.Line.{Line}
use Rattle.idmap.specs.Line.{no_line}
use Rattle.records.specs.declared.MapState.TheVariants.{Unwritten, Written}
use Rattle.records.specs.declared.Kind.{Kind}
use Rattle.records.specs.declared.Kind.TheVariants.{User, Group}
use Rattle.records.specs.declared.Process.{Process}
use Rattle.records.specs.declared.IdMap.{IdMap}
use Rattle.records.specs.declared.Namespace.{Namespace}
use Rattle.records.specs.Records.{free_namespace, free_process, no_groups}
use Rattle.tables.specs.Tables.{State, first_process, root_namespace, process_places, namespace_places}
use Rattle.tables.specs.Reply.{Reply, refused, done, child, new_namespace, yes', no', bytes, id, unmapped}
use Rattle.credentials.specs.declared.translate.Way.TheVariants.{Out}
use Rattle.calls.specs.declared.Call.{Call}
use Rattle.calls.specs.declared.Call.TheVariants.{Fork, Unshare, WriteMap, WriteSetgroups, ReadMap, SetIds, SetGroups, Capable, Translate}
use Rattle.calls.specs.Calls.{Request}
use Rattle.claims.specs.History.{Entry, run, history}
use Rattle.claims.specs.AsDocument.{bare}

-- ---- requests
-- the bytes of a text. Each text here is ASCII, in which a character's code is its byte
abbrev pub bytes_of : String → List ℕ
bytes_of empty = []
bytes_of (c then s) = code c ∷ bytes_of s

-- what a call does not take is empty
abbrev pub plain : Call → Request
plain c = record { call = c; text = []; list = []; buffer = [] }

abbrev pub with_text : Call → String → Request
with_text c text = record { call = c; text = bytes_of text; list = []; buffer = [] }

abbrev pub fork : ℕ → Request
fork caller = plain (Fork caller)

abbrev pub unshare : ℕ → Request
unshare caller = plain (Unshare caller)

-- all three IDs of the kind are set to x
abbrev pub set_ids : Kind → ℕ → ℕ → Request
set_ids kind caller x = plain (SetIds kind caller (record { real = x; effective = x; saved = x }))

abbrev pub set_groups : ℕ → List ℕ → Request
set_groups caller list = record { call = SetGroups caller; text = []; list = list; buffer = [] }

-- the caller, the process whose file is written, and the text
abbrev pub write_map : Kind → ℕ → ℕ → String → Request
write_map kind caller name text = with_text (WriteMap kind caller name) text

abbrev pub write_setgroups : ℕ → ℕ → String → Request
write_setgroups caller name text = with_text (WriteSetgroups caller name) text

-- the caller, the process whose map is read, and how many dots the buffer has
abbrev pub read_map : Kind → ℕ → ℕ → ℕ → Request
read_map kind caller name size = record { call = ReadMap kind caller name; text = []; list = []; buffer = replicate size 46 }

-- the caller, the namespace and the capability
abbrev pub capable : ℕ → ℕ → ℕ → Request
capable caller name number = plain (Capable caller name number)

-- the caller, the namespace and an ID of it
abbrev pub translate_out : Kind → ℕ → ℕ → ℕ → Request
translate_out kind caller name x = plain (Translate kind Out caller name x)

-- ---- rows: a call, the reply that it is to get, and the buffer that it is to leave
infixl 70 ◌⇒◌ ◌leaving◌
-- the buffer is to stay as it was lent
abbrev pub ◌⇒◌ : Request → Reply → Entry
request ⇒ reply = record { request = request; reply = reply; buffer = request.buffer }

-- the buffer is to hold this text
abbrev pub ◌leaving◌ : Entry → String → Entry
row leaving text = record { request = row.request; reply = row.reply; buffer = bytes_of text }

-- ---- scenarios: calls on the initial tables, and all processes and namespaces that there are to be after them, in the
-- order of their numbers
pub record Scenario : Type 0 where
  pub entries : List Entry
  pub processes : List Process
  pub namespaces : List Namespace

-- a process in namespace n with user u, group g and no other group, both of whose sets are the same
abbrev pub process : ℕ → ℕ → ℕ → ℕ → Process
process n u g set = record {
  live = true;
  namespace = n;
  users = record { real = u; effective = u; saved = u };
  groups = record { real = g; effective = g; saved = g };
  supplementary = no_groups;
  permitted = record { bits = set };
  effective = record { bits = set };
}

-- a namespace with this parent, level and owner
abbrev pub namespace : ℕ → ℕ → ℕ → (Kind → IdMap) → Bool → Namespace
namespace parent level owner maps deny = record { live = true; parent = parent; level = level; owner = owner; users = maps User; groups = maps Group; deny = deny }

-- the one that user 1000 has made in namespace 0
abbrev pub made_by1000 : (Kind → IdMap) → Bool → Namespace
made_by1000 maps deny = namespace 0 1 1000 maps deny

abbrev pub line : ℕ → ℕ → ℕ → Line
line inside parent count = record { inside = inside; parent = parent; count = count }

-- the maps of a namespace: both unwritten, only the one of a kind written, or both written alike
abbrev pub unwritten : Kind → IdMap
unwritten kind = record { state = Unwritten; lines = replicate 5 no_line }

abbrev pub written : List Line → IdMap
written ls = record { state = Written (length ls); lines = ls ++ replicate (5 - length ls) no_line }

abbrev pub only : Kind → List Line → Kind → IdMap
only User ls User = written ls
only User ls Group = unwritten Group
only Group ls User = unwritten User
only Group ls Group = written ls

abbrev pub alike : List Line → Kind → IdMap
alike ls kind = written ls

-- document 01: process 2 is a fork of 1, set to group 1000 and then user 1000, and has unshared into namespace 1
abbrev pub setup : List Entry
setup = fork 1 ⇒ child 2 ∷ set_ids Group 2 1000 ⇒ done ∷ set_ids User 2 1000 ⇒ done ∷ unshare 2 ⇒ new_namespace 1 ∷ []

abbrev pub first_two : List Process
first_two = first_process ∷ process 1 1000 1000 full_set ∷ []

-- a scenario whose calls after the setup change nothing but the maps of namespace 1
abbrev pub scenario : List Entry → (Kind → IdMap) → Scenario
scenario entries maps = record { entries = setup ++ entries; processes = first_two; namespaces = root_namespace ∷ made_by1000 maps false ∷ [] }

-- where document 01 does not say which map is written, the user map is and, in a scenario of its own, the group map
abbrev pub each_kind : (Kind → List Scenario) → List Scenario
each_kind f = f User ++ f Group

-- document 02, L6: namespace 1 has these lines, and namespace 2 is below it. Process 2 is the root of the first, and
-- process 3 is in the second
abbrev pub parent_text : String
parent_text = "0 100000 10\n10 100010 5\n"

abbrev pub parent_lines : List Line
parent_lines = line 0 100000 10 ∷ line 10 100010 5 ∷ []

abbrev pub nested : List Entry
nested =
    fork 1 ⇒ child 2
    ∷ unshare 2 ⇒ new_namespace 1
    ∷ write_map User 1 2 parent_text ⇒ done
    ∷ write_map Group 1 2 parent_text ⇒ done
    ∷ set_ids Group 2 0 ⇒ done
    ∷ set_ids User 2 0 ⇒ done
    ∷ fork 2 ⇒ child 3
    ∷ unshare 3 ⇒ new_namespace 2
    ∷ []

-- a scenario whose calls after these change nothing but the maps of namespace 2
abbrev pub below_two_lines : List Entry → (Kind → IdMap) → Scenario
below_two_lines entries maps = record {
  entries = nested ++ entries;
  processes = first_process ∷ process 1 100000 100000 full_set ∷ process 2 100000 100000 full_set ∷ [];
  namespaces = root_namespace ∷ namespace 0 1 0 (alike parent_lines) false ∷ namespace 1 2 100000 maps false ∷ [];
}

-- ---- the table, in the papers' order; above each part stands its line
abbrev pub scenarios : List Scenario
scenarios =
    -- P: 2 writes user map `0 1000 1`: done; 2 reads `         0       1000          1` and a newline. A second write:
    -- 1.
    scenario
    (write_map User 2 2 "0 1000 1" ⇒ done
    ∷ read_map User 2 2 36 ⇒ bytes 33 leaving "         0       1000          1\n..."
    ∷ write_map User 2 2 "0 1000 1" ⇒ refused 1
    ∷ [])
    (only User (line 0 1000 1 ∷ []))
    ∷ []
    -- P: 2 writes `0 1000 2`, or `5 1001 1`: 1.
    ++ each_kind (λ k.
    scenario (write_map k 2 2 "0 1000 2" ⇒ refused 1 ∷ []) unwritten
    ∷ scenario (write_map k 2 2 "5 1001 1" ⇒ refused 1 ∷ []) unwritten
    ∷ [])
    -- P: 2 writes group map `0 1000 1`: 1. After "deny": done; setgroups then 1.
    ++ (record {
      entries = setup ++ (
          write_map Group 2 2 "0 1000 1" ⇒ refused 1
          ∷ write_setgroups 2 2 "deny" ⇒ done
          ∷ write_map Group 2 2 "0 1000 1" ⇒ done
          ∷ set_groups 2 (0 ∷ []) ⇒ refused 1
          ∷ set_groups 2 [] ⇒ refused 1
          ∷ []);
      processes = first_two;
      namespaces = root_namespace ∷ made_by1000 (only Group (line 0 1000 1 ∷ [])) true ∷ [];
    } ∷ [])
    -- P: 1 writes `0 100000 65536`: done. 65535 is 165535; 65536 is unmapped.
    ++ each_kind (λ k.
    scenario
    (write_map k 1 2 "0 100000 65536" ⇒ done
    ∷ translate_out k 1 1 65535 ⇒ id 165535
    ∷ translate_out k 1 1 65536 ⇒ unmapped
    ∷ [])
    (only k (line 0 100000 65536 ∷ []))
    ∷ [])
    -- P: 1 writes `0 0 4294967295`: done. `1 0 4294967295`, `0 4294967295 1`, `0 1000 0`: 22.
    ++ each_kind (λ k.
    scenario (write_map k 1 2 "0 0 4294967295" ⇒ done ∷ []) (only k (line 0 0 4294967295 ∷ []))
    ∷ scenario (write_map k 1 2 "1 0 4294967295" ⇒ refused 22 ∷ []) unwritten
    ∷ scenario (write_map k 1 2 "0 4294967295 1" ⇒ refused 22 ∷ []) unwritten
    ∷ scenario (write_map k 1 2 "0 1000 0" ⇒ refused 22 ∷ []) unwritten
    ∷ [])
    -- P: 1 writes `0 100000 10` and `10 100010 5`: done. `0 100000 10` with `5 200000 10`, or with `20 100009 5`: 22.
    ++ each_kind (λ k.
    scenario (write_map k 1 2 "0 100000 10\n10 100010 5\n" ⇒ done ∷ []) (only k (line 0 100000 10 ∷ line 10 100010 5 ∷ []))
    ∷ scenario (write_map k 1 2 "0 100000 10\n5 200000 10\n" ⇒ refused 22 ∷ []) unwritten
    ∷ scenario (write_map k 1 2 "0 100000 10\n20 100009 5\n" ⇒ refused 22 ∷ []) unwritten
    ∷ [])
    -- P: 2 unshares before any map is written: 1.
    ++ (scenario (unshare 2 ⇒ refused 1 ∷ []) unwritten ∷ [])
    -- P: 1 holds 21 in namespace 1; 2 does not in 0. A process in 0 with user 1000 and empty sets does in 1; with user
    -- 1001 not.
    ++ (record {
      entries = setup ++ (
          capable 1 1 21 ⇒ yes'
          ∷ capable 2 0 21 ⇒ no'
          ∷ fork 1 ⇒ child 3
          ∷ set_ids User 3 1000 ⇒ done
          ∷ capable 3 1 21 ⇒ yes'
          ∷ fork 1 ⇒ child 4
          ∷ set_ids User 4 1001 ⇒ done
          ∷ capable 4 1 21 ⇒ no'
          ∷ []);
      processes = first_two ++ (process 0 1000 0 empty_set ∷ process 0 1001 0 empty_set ∷ []);
      namespaces = root_namespace ∷ made_by1000 unwritten false ∷ [];
    } ∷ [])
    -- L6: With parent lines `0 100000 10` and `10 100010 5`, a child line `0 8 4` is now refused and `0 8 2` is still
    -- done.
    ++ each_kind (λ k.
    below_two_lines
    (write_map k 2 3 "0 8 4" ⇒ refused 1
    ∷ write_map k 2 3 "0 8 2" ⇒ done
    ∷ translate_out k 1 2 1 ⇒ id 100009
    ∷ translate_out k 1 2 2 ⇒ unmapped
    ∷ [])
    (only k (line 0 8 2 ∷ []))
    ∷ [])

-- ---- what is said of the table
-- what comes out of calls: the calls with their answers, newest first, and the tables at the end but for what the code
-- keeps beside the maps
pub record Result : Type 0 where
  pub told : List Entry
  pub tables : State

abbrev pub requests : Scenario → List Request
requests c = map (λ (e : Entry). e.request) c.entries

abbrev pub found : Scenario → Result
found c = record { told = history (requests c); tables = bare (run (requests c)) }

-- of the 128 places for processes and the 64 for namespaces the others are free
abbrev pub expected : Scenario → Result
expected c = record {
  told = reverse c.entries;
  tables = record {
    processes = c.processes ++ replicate (process_places - length c.processes) free_process;
    namespaces = c.namespaces ++ replicate (namespace_places - length c.namespaces) free_namespace;
    user_starts = [];
    group_starts = [];
  };
}

-- each reply, each buffer and the tables at the end are as expected
abbrev pub ComesOut : Scenario → Type 0
ComesOut c = found c ≡ expected c

-- so it is of each scenario of a list, and of the table
unfoldable pub AllOf : List Scenario → Type 0
AllOf [] = Unit {0}
AllOf (c ∷ cs) = ComesOut c × AllOf cs

abbrev pub AllComeOut : Type 0
AllComeOut = AllOf scenarios
