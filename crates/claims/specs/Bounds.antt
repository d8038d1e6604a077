-- The definitions of the calls are total: they bound their walks, and a place past the end reads as free. On tables
-- that a list of calls leaves no bound is met, so that the definitions are document 01's; and what stands in these
-- tables is what document 01 lets stand there. `bounds` of proofs/Bounds.antt proves it of every list. Assumes nothing.
use Rattle.std.specs.Prelude.{ℕ, ◌≤◌, ◌<◌, ◌^◌, ◌≡◌, true, List, ◌↔◌, length, Some, None}
use Rattle.capability.specs.Sets.{holds}
use Rattle.idmap.specs.declared.Line.{Line}
use Rattle.idmap.specs.Good.{max_lines, no_id, Good}
use Rattle.idmap.specs.Ranges.{lies_whole, HasLine}
use Rattle.records.specs.declared.MapState.TheVariants.{Unwritten, Written}
use Rattle.records.specs.declared.Kind.{Kind}
use Rattle.records.specs.declared.Process.{Process}
use Rattle.records.specs.Records.{map_in, lines_of, max_groups}
use Rattle.tables.specs.Tables.{State, process_at, namespace_at, process_places, namespace_places, max_level}
use Rattle.hierarchy.specs.Walks.{capable_in}
use Rattle.mapping.specs.Calls.{all_whole}
use Rattle.calls.specs.Calls.{Request}
use Rattle.claims.specs.Events.{Event}
use Rattle.claims.specs.Words.{held}
use Rattle.claims.specs.Translation.{by_levels}
use Rattle.claims.specs.TopLevel.{OutOf, BackOf, OnParentSide, Has}
use Rattle.claims.specs.History.{run, history, events}
use Rattle.claims.specs.Agreement.{held_in}

-- who holds a capability: the three rules of the manual, with no order among them
pub data HoldsCapability (s : State) (p : Process) (c : ℕ) : ℕ → Type 0 where
  -- a member of the namespace has it if its effective set has
  member : {n : ℕ} → n ≡ p.namespace → holds p.effective.bits c ≡ true → HoldsCapability s p c n
  -- who has it in a namespace has it in all its children
  inherited : {n : ℕ} → (n ≡ 0 → ⊥) → HoldsCapability s p c (namespace_at s n).parent → HoldsCapability s p c n
  -- who resides in the parent and whose effective user ID is the owner has it
  owner : {n : ℕ} → (n ≡ 0 → ⊥) → (namespace_at s n).parent ≡ p.namespace → (namespace_at s n).owner ≡ p.users.effective → HoldsCapability s p c n

-- the lines of the map of kind k of namespace n, none while it is unwritten
abbrev pub lines_at : State → Kind → ℕ → List Line
lines_at s k n = lines_of (map_in k (namespace_at s n))

module _ (rs : List Request) where
  -- the tables that the list leaves, and what happened by its calls
  abbrev s : State
  s = run rs

  abbrev h : List Event
  h = events (history rs)

  pub record Bounds : Type 0 where
    -- the walk is the three rules
    pub walk : (i n c : ℕ) → (process_at s i).live ≡ true → (namespace_at s n).live ≡ true
        → (capable_in s (process_at s i) n c ≡ true) ↔ HoldsCapability s (process_at s i) c n
    -- translation gives an ID exactly where the relations over the history's parents and maps do
    pub out : (k : Kind) (n x y : ℕ) → x < 2 ^ 32 → ((by_levels s).out k n x ≡ Some y) ↔ OutOf k h n x y
    pub back : (k : Kind) (n y x : ℕ) → y < 2 ^ 32 → ((by_levels s).back k n y ≡ Some x) ↔ BackOf k h n y x
    -- every live record is in range, and what it names is live
    pub process_in_range : (i : ℕ) → (process_at s i).live ≡ true → i < process_places
    pub namespace_in_range : (n : ℕ) → (namespace_at s n).live ≡ true → n < namespace_places
    pub place_live : (i : ℕ) → (process_at s i).live ≡ true → (namespace_at s (process_at s i).namespace).live ≡ true
    pub parent_live : (n : ℕ) → (namespace_at s n).live ≡ true → (namespace_at s (namespace_at s n).parent).live ≡ true
    -- levels are at most 32
    pub levels : (n : ℕ) → (namespace_at s n).level ≤ max_level
    -- every ID that a process carries is a kernel ID, and it has at most 16 groups
    pub carried_ids : (k : Kind) (i y : ℕ) → Has y (held (held_in k (process_at s i))) → y < no_id
    pub group_count : (i : ℕ) → (process_at s i).supplementary.count ≤ max_groups
    -- a written map has one to five lines, as many as its record says
    pub line_counts : (k : Kind) (n c : ℕ) → (map_in k (namespace_at s n)).state ≡ Written c → (1 ≤ c) × (c ≤ max_lines) × (length (lines_at s k n) ≡ c)
    -- each of them is bounded, and no two overlap on either side
    pub lines_good : (k : Kind) (n : ℕ) → Good (lines_at s k n)
    -- document 02, L6: the parent side of each of them lies whole in one line of the parent's map
    pub whole : (k : Kind) (n : ℕ) → all_whole (lies_whole (lines_at s k (namespace_at s n).parent)) (lines_at s k n) ≡ true
    -- so each single parent-side ID has a line in the parent's map
    pub covered : (k : Kind) (n z : ℕ) → OnParentSide (lines_at s k n) z → HasLine (lines_at s k (namespace_at s n).parent) z
    -- an unwritten map translates nothing, out or back
    pub unwritten : (k : Kind) (n x : ℕ) → (map_in k (namespace_at s n)).state ≡ Unwritten
        → ((by_levels s).out k n x ≡ None) × ((by_levels s).back k n x ≡ None)
