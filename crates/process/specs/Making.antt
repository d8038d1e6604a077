-- What clone and unshare have in common, as the code answers it. NOT to be believed: that it is `makes_namespace` of
-- specs/Calls.antt is proved. Assumes nothing.
use Rattle.std.specs.Prelude.{ℕ, ◌<◌, ◌≡◌, Result, Ok, Err}
use Rattle.tables.specs.Tables.{State, max_level, process_at, namespace_at}
use Rattle.tables.specs.Find.{namespace_number}
use Rattle.tables.specs.Reply.{number_of, Outcome, refuse}
use Rattle.hierarchy.specs.Walks.{Translation}
use Rattle.tables.specs.declared.answer.Errno.{Errno}
use Rattle.process.specs.declared.Maker.{Maker}
use Rattle.process.specs.Calls.{makes_namespace}

-- what follows: the refusal, or what is next for the caller's place and the free one
abbrev pub following : State → (ℕ → ℕ → Outcome) → Result Maker Errno → Outcome
following s next (Err e) = refuse s (number_of e)
following s next (Ok m) = next m.place m.free

-- whatever is next, the definition comes to that
abbrev pub Makes : Translation → State → ℕ → Result Maker Errno → Type 0
Makes by s c r = (next : ℕ → ℕ → Outcome) → makes_namespace by s c next ≡ following s next r

-- there is room for the maker's namespace: its level is below the highest, and the number is that of the free place
abbrev pub HasRoom : State → Result Maker Errno → Type 0
HasRoom s (Err e) = Unit {0}
HasRoom s (Ok m) = ((namespace_at s (process_at s m.place).namespace).level < max_level) × (m.number ≡ namespace_number m.free)
