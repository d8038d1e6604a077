-- What the code does for speed does not show. It translates by kernel starts, document 01 level by level; and it tests a
-- range by one lookup's count, document 02 by the line that has both ends. On tables that a list of calls leaves it is
-- one, which `as_document` of proofs/AsDocument.antt proves of every list. And the papers' step reads no kernel start:
-- `unread` of proofs/Unread.antt. Assumes nothing.
use Rattle.std.specs.Prelude.{◌≡◌, List, []}
use Rattle.tables.specs.Tables.{State, initial_tables}
use Rattle.hierarchy.specs.KernelStarts.{by_kernel_starts}
use Rattle.calls.specs.Calls.{Request, Step}
use Rattle.claims.specs.Translation.{by_levels}
use Rattle.claims.specs.History.{step_of, run_from, history_from, run, history}

pub record AsDocument (rs : List Request) : Type 0 where
  -- every number of every namespace, of either kind, out and back, and every range
  pub translation : by_kernel_starts (run rs) ≡ by_levels (run rs)
  -- so every next call's answer, tables and buffer
  pub step : (r : Request) → step_of by_kernel_starts (run rs) r ≡ step_of by_levels (run rs) r
  -- and the whole run with its history
  pub tables : run_from by_kernel_starts initial_tables rs ≡ run rs
  pub told : history_from by_kernel_starts initial_tables [] rs ≡ history rs

-- ---- of any tables
-- what stands in them but for what the code keeps beside the maps
abbrev pub bare : State → State
bare s = record { processes = s.processes; namespaces = s.namespaces; user_starts = []; group_starts = [] }

abbrev pub bare_step : Step → Step
bare_step o = record { reply = o.reply; tables = bare o.tables; buffer = o.buffer }

-- what a call answers, and what it leaves but for that, is the same where nothing was kept
abbrev pub Unread : State → Request → Type 0
Unread s r = bare_step (step_of by_levels s r) ≡ bare_step (step_of by_levels (bare s) r)
