-- Walks along the hierarchy of namespaces: document 01, 'Translation' and 'Who holds a capability'. Assumes nothing.
use Rattle.std.specs.Prelude.{ℕ, zero, suc, min, Bool, true, false, cond, ◌&&◌, eqb, Option, Some, None}
use Rattle.capability.specs.Sets.{holds}
use Rattle.idmap.specs.Good.{no_id}
use Rattle.records.specs.declared.Kind.{Kind}
use Rattle.records.specs.declared.Process.{Process}
use Rattle.records.specs.declared.Namespace.{Namespace}
use Rattle.tables.specs.Tables.{State, max_level, namespace_at}

-- how many steps lead from a namespace to the initial one: its level, which reaches `max_level` at most
unfoldable pub height_of : State → ℕ → ℕ
height_of s n = min (namespace_at s n).level max_level

-- ---- translation
-- a translation at one moment: by kind and namespace, the kernel ID (document 01: station-wide ID) that an ID of the
-- namespace stands for, the ID of the namespace that stands for a kernel ID, and whether so many IDs from one on lie
-- whole in one line of the namespace's map. The definitions of the calls take one. The papers' is `by_levels` of
-- claims/specs/Translation.antt
pub record Translation : Type 0 where
  pub out : Kind → ℕ → ℕ → Option ℕ
  pub back : Kind → ℕ → ℕ → Option ℕ
  pub whole : Kind → ℕ → ℕ → ℕ → Bool

-- in the initial namespace each ID but 'no ID' stands for itself
abbrev pub itself : ℕ → Option ℕ
itself x = cond (eqb x no_id) None (Some x)

-- ---- who holds a capability
-- the second rule: the namespace's parent is the process's own, and its owner is the process's effective user
unfoldable pub owned_by : ℕ → ℕ → Namespace → Bool
owned_by own euid n = eqb n.parent own && eqb n.owner euid

-- document 01: the walk goes up from the named namespace and stops at the first rule that decides. mine: the effective
-- set has it
unfoldable pub holds_in : State → ℕ → ℕ → Bool → ℕ → ℕ → Bool
holds_in s own euid mine zero n = cond (eqb n own) mine (cond (eqb n 0) false (owned_by own euid (namespace_at s n)))
holds_in s own euid mine (suc k) n =
    cond (eqb n own) mine
    (cond (eqb n 0) false
    (cond (owned_by own euid (namespace_at s n)) true (holds_in s own euid mine k (namespace_at s n).parent)))

-- whether process p holds capability c in namespace n
unfoldable pub capable_in : State → Process → ℕ → ℕ → Bool
capable_in s p n c = holds_in s p.namespace p.users.effective (holds p.effective.bits c) (height_of s n) n
