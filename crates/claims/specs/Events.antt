-- What a call and its answer say: document 01, 'Lists of calls'. Every definition of demand 3's words goes over these.
-- Assumes nothing.
use Rattle.std.specs.Prelude.{ℕ, List}
use Rattle.records.specs.declared.Kind.{Kind}
use Rattle.records.specs.declared.Ids.{Ids}

pub data Event : Type 0 where
  -- a call that was refused, or that changes nothing of what is spoken of here
  other : Event
  -- fork: the caller, and the child that was answered
  forked : ℕ → ℕ → Event
  -- clone: the caller, the child and its new namespace
  cloned : ℕ → ℕ → ℕ → Event
  -- unshare: the caller, and its new namespace
  unshared : ℕ → ℕ → Event
  -- setns: the caller, and the namespace that it joined
  joined : ℕ → ℕ → Event
  -- a map write that was done: the kind, the process that it named, and the text
  mapped : Kind → ℕ → List ℕ → Event
  -- a change of IDs that was done: the kind, the caller and the three IDs given
  changed : Kind → ℕ → Ids → Event
  -- a setgroups that was done: the caller and the list given
  grouped : ℕ → List ℕ → Event
