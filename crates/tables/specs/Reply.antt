-- The answers of document 01, by number and value. Assumes nothing.
use Rattle.std.specs.Prelude.{ℕ, ◌≡◌, Bool, true, false, cond, List, Option, Some, None, Result, Ok, Err}
use Rattle.tables.specs.declared.answer.Errno.{Errno}
use Rattle.tables.specs.declared.answer.Errno.TheVariants.{EPERM, ESRCH, EAGAIN, EINVAL, ENOSPC, ERANGE, EUSERS}
use Rattle.tables.specs.declared.answer.Answer.{Answer}
use Rattle.tables.specs.declared.answer.Answer.TheVariants.{Done, Child, ChildIn, NewNamespace, Yes, No, Length, Id, Unmapped}
use Rattle.tables.specs.Tables.{State, tables_of}

pub data Reply : Type 0 where
  refused : ℕ → Reply
  done : Reply
  child : ℕ → Reply
  child_in : ℕ → ℕ → Reply
  new_namespace : ℕ → Reply
  yes' no' : Reply
  bytes : ℕ → Reply
  -- a translation: an ID, or "unmapped", which is an answer and no refusal
  id : ℕ → Reply
  unmapped : Reply
  -- a process's own IDs: real, effective and saved user ID, the same of the group, then its groups in order
  ids : List ℕ → Reply

-- the numbers of document 01's table of refusals
abbrev pub number_of : Errno → ℕ
number_of EPERM = 1
number_of ESRCH = 3
number_of EAGAIN = 11
number_of EINVAL = 22
number_of ENOSPC = 28
number_of ERANGE = 34
number_of EUSERS = 87

-- an answer, and what a call answers or refuses
abbrev pub answered : Answer → Reply
answered Done = done
answered (Child p) = child p
answered (ChildIn p n) = child_in p n
answered (NewNamespace n) = new_namespace n
answered Yes = yes'
answered No = no'
answered (Length n) = bytes n
answered (Id x) = id x
answered Unmapped = unmapped

abbrev pub reply_of : Result Answer Errno → Reply
reply_of (Ok a) = answered a
reply_of (Err e) = refused (number_of e)

-- what a call answers, and the tables that it leaves
pub record Outcome : Type 0 where
  pub reply : Reply
  pub tables : State

-- a refusal changes no table
abbrev pub refuse : State → ℕ → Outcome
refuse s e = record { reply = refused e; tables = s }

abbrev pub is_refused : Reply → Bool
is_refused (refused e) = true
is_refused done = false
is_refused (child p) = false
is_refused (child_in p n) = false
is_refused (new_namespace n) = false
is_refused yes' = false
is_refused no' = false
is_refused (bytes n) = false
is_refused (id x) = false
is_refused unmapped = false
is_refused (ids l) = false

-- what a call that may store promises: its answer and the tables are the outcome's, and a refusal leaves every word of
-- the lent array as it was
pub record Promise (r : Result Answer Errno) (entry exit : List ℕ) (o : Outcome) : Type 0 where
  pub outcome : ◌≡◌ {A = Outcome} (record { reply = reply_of r; tables = tables_of exit }) o
  pub kept : is_refused (reply_of r) ≡ true → exit ≡ entry

-- ---- how definitions of calls are written: a test, its refusal, and what follows
-- what is found, or what follows where there is nothing
abbrev pub on_found : {A : Type 0} → Option ℕ → A → (ℕ → A) → A
on_found (Some i) other next = next i
on_found None other next = other

abbrev pub when : {A : Type 0} → Bool → A → A → A
when t other next = cond t other next

abbrev pub unless : {A : Type 0} → Bool → A → A → A
unless t other next = cond t next other
