-- Fork, clone, unshare and setns: document 01, 'The calls, and the order in which each refuses'. Assumes nothing.
use Rattle.std.specs.Prelude.{ℕ, ◌+◌, Bool, true, ◌&&◌, leb, eqb, Option, is_some}
use Rattle.capability.specs.Sets.{cap_sys_admin, full_set}
use Rattle.records.specs.declared.Kind.TheVariants.{User, Group}
use Rattle.records.specs.declared.Process.{Process}
use Rattle.records.specs.declared.Namespace.{Namespace}
use Rattle.records.specs.Records.{free_map}
use Rattle.tables.specs.Tables.{State, max_level, process_at, namespace_at, put_process, put_namespace, clear_starts}
use Rattle.tables.specs.Find.{process_number, namespace_number, caller_named, namespace_named, free_process_place, free_namespace_place}
use Rattle.tables.specs.Reply.{done, child, child_in, new_namespace, Outcome, refuse, on_found, when, unless}
use Rattle.hierarchy.specs.Walks.{Translation, capable_in}

-- fork: copies all but the number
unfoldable pub fork_of : State → ℕ → Outcome
fork_of s c =
    on_found (caller_named s c) (refuse s 3) (λ p.
    on_found (free_process_place s) (refuse s 11) (λ q.
    record { reply = child (process_number q); tables = put_process s q (process_at s p) }))

-- ---- a new namespace
abbrev pub is_mapped : Option ℕ → Bool
is_mapped r = is_some r

-- the effective user and group ID of process p have a translation into its own namespace
unfoldable pub knows_itself : Translation → Process → Bool
knows_itself by p =
    is_mapped (by.back User p.namespace p.users.effective) && is_mapped (by.back Group p.namespace p.groups.effective)

-- the namespace that process p makes, where own is the namespace that p is in: the setgroups setting is copied, both
-- maps are unwritten
unfoldable pub below : Process → Namespace → Namespace
below p own = record {
  live = true;
  parent = p.namespace;
  level = own.level + 1;
  owner = p.users.effective;
  users = free_map;
  groups = free_map;
  deny = own.deny;
}

-- the tables with that namespace in place n. Nothing that the code kept beside maps there is left
abbrev pub with_namespace : State → ℕ → Process → Namespace → State
with_namespace s n p own = clear_starts (put_namespace s n (below p own)) n

-- process p as a member of namespace n: both sets full, its IDs unchanged
unfoldable pub entered : Process → ℕ → Process
entered p n = record {
  live = p.live;
  namespace = n;
  users = p.users;
  groups = p.groups;
  supplementary = p.supplementary;
  permitted = record { bits = full_set };
  effective = record { bits = full_set };
}

-- clone and unshare alike, up to the free namespace n of caller p: 87, 1 and 28 in that order
abbrev pub makes_namespace : Translation → State → ℕ → (ℕ → ℕ → Outcome) → Outcome
makes_namespace by s c next =
    on_found (caller_named s c) (refuse s 3) (λ p.
    when (leb max_level (namespace_at s (process_at s p).namespace).level) (refuse s 87)
    (unless (knows_itself by (process_at s p)) (refuse s 1)
    (on_found (free_namespace_place s) (refuse s 28) (λ n. next p n))))

-- the tables with namespace n made by process p
abbrev pub with_child : State → ℕ → ℕ → State
with_child s p n = with_namespace s n (process_at s p) (namespace_at s (process_at s p).namespace)

-- the child becomes a member
unfoldable pub clone_of : Translation → State → ℕ → Outcome
clone_of by s c =
    makes_namespace by s c (λ p n.
    on_found (free_process_place s) (refuse s 11) (λ q.
    record { reply = child_in (process_number q) (namespace_number n); tables = put_process (with_child s p n) q (entered (process_at s p) n) }))

-- the caller becomes a member
unfoldable pub unshare_of : Translation → State → ℕ → Outcome
unshare_of by s c =
    makes_namespace by s c (λ p n.
    record { reply = new_namespace (namespace_number n); tables = put_process (with_child s p n) p (entered (process_at s p) n) })

-- ---- setns
unfoldable pub setns_of : State → ℕ → ℕ → Outcome
setns_of s c name =
    on_found (caller_named s c) (refuse s 3) (λ p.
    on_found (namespace_named s p name) (refuse s 3) (λ n.
    when (eqb (process_at s p).namespace n) (refuse s 22)
    (unless (capable_in s (process_at s p) n cap_sys_admin) (refuse s 1)
    (record { reply = done; tables = put_process s p (entered (process_at s p) n) }))))
