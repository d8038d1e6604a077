-- Demand 1's second sentence, of any tables and any translation: a refusal has a number of document 01's table, changes
-- no table and writes nothing into the buffer. `refusals` of proofs/Refusals.antt proves it of every call. Assumes
-- nothing.
use Rattle.std.specs.Prelude.{ℕ, ◌≡◌, List, [], ◌∷◌}
use Rattle.tables.specs.Tables.{State}
use Rattle.tables.specs.Reply.{refused}
use Rattle.hierarchy.specs.Walks.{Translation}
use Rattle.calls.specs.Calls.{Request, Step, answer_of}
use Rattle.claims.specs.TopLevel.{Has}

-- document 01, 'When the desk says no'
abbrev pub refusal_numbers : List ℕ
refusal_numbers = 1 ∷ 3 ∷ 11 ∷ 22 ∷ 28 ∷ 34 ∷ 87 ∷ []

abbrev pub Refuses : State → List ℕ → Step → Type 0
Refuses s buffer o = (e : ℕ) → o.reply ≡ refused e → Has e refusal_numbers × (o.tables ≡ s) × (o.buffer ≡ buffer)

abbrev pub RefusesWell : Translation → State → Request → Type 0
RefusesWell by s r = Refuses s r.buffer (answer_of by s r)
