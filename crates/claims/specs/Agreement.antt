-- The tables give what the history gives. Assumes nothing.
use Rattle.std.specs.Prelude.{ℕ, ◌≡◌, Bool, List, [], length, take, Option, Some, None}
use Rattle.idmap.specs.declared.Line.{Line}
use Rattle.records.specs.declared.MapState.{MapState}
use Rattle.records.specs.declared.MapState.TheVariants.{Unwritten, Written}
use Rattle.records.specs.declared.Kind.{Kind}
use Rattle.records.specs.declared.Kind.TheVariants.{User, Group}
use Rattle.records.specs.declared.Process.{Process}
use Rattle.records.specs.declared.IdMap.{IdMap}
use Rattle.records.specs.Records.{ids_in, map_in}
use Rattle.tables.specs.Tables.{State, process_at, namespace_at, process_places, namespace_places}
use Rattle.tables.specs.Find.{process_number, namespace_number}
use Rattle.claims.specs.Events.{Event}
use Rattle.claims.specs.Words.{Held, is_process, is_namespace, place_of, parent_of, level_of, written_of, held_of}

-- the IDs of a kind in a process's record; only groups have supplementary ones
abbrev pub supplementary_in : Kind → Process → List ℕ
supplementary_in User p = []
supplementary_in Group p = take p.supplementary.count p.supplementary.ids

abbrev pub held_in : Kind → Process → Held
held_in k p = record { three = ids_in k p; supplementary = supplementary_in k p }

-- a map's record: unwritten, or written with its lines
abbrev pub if_written : MapState → List Line → Option (List Line)
if_written Unwritten ls = None
if_written (Written n) ls = Some (take n ls)

abbrev pub written_in : IdMap → Option (List Line)
written_in m = if_written m.state m.lines

-- how the record says so: unwritten, or written with as many lines
abbrev pub state_for : Option (List Line) → MapState
state_for None = Unwritten
state_for (Some ls) = Written (length ls)

-- the tables of all places, in each of which the process or the namespace of its number stands: exactly those are live
-- that are processes and namespaces, each process has its namespace and its IDs of both kinds, each namespace its
-- parent, its level and its maps of both kinds
pub record Agrees (s : State) (isP isN : ℕ → Bool) (place up level : ℕ → ℕ) (maps : Kind → ℕ → Option (List Line)) (carries : Kind → ℕ → Held) : Type 0 where
  pub processes_length : length s.processes ≡ process_places
  pub namespaces_length : length s.namespaces ≡ namespace_places
  pub process_live : (i : ℕ) → (process_at s i).live ≡ isP (process_number i)
  pub process_place : (i : ℕ) → namespace_number (process_at s i).namespace ≡ place (process_number i)
  pub process_ids : (k : Kind) (i : ℕ) → held_in k (process_at s i) ≡ carries k (process_number i)
  pub process_count : (i : ℕ) → (process_at s i).supplementary.count ≡ length (carries Group (process_number i)).supplementary
  pub namespace_live : (i : ℕ) → (namespace_at s i).live ≡ isN (namespace_number i)
  pub namespace_parent : (i : ℕ) → namespace_number (namespace_at s i).parent ≡ up (namespace_number i)
  pub namespace_level : (i : ℕ) → (namespace_at s i).level ≡ level (namespace_number i)
  pub namespace_map : (k : Kind) (i : ℕ) → written_in (map_in k (namespace_at s i)) ≡ maps k (namespace_number i)
  pub namespace_state : (k : Kind) (i : ℕ) → (map_in k (namespace_at s i)).state ≡ state_for (maps k (namespace_number i))

-- the tables agree with a list of events
abbrev pub Agreed : State → List Event → Type 0
Agreed s h =
    Agrees s (is_process h) (is_namespace h) (place_of h) (parent_of h) (level_of h) (λ (k : Kind). written_of k h) (λ (k : Kind). held_of k h)
