-- What holds of journals: a list of calls has one journal, and reading it gives the calls back. Assumes nothing.
use Rattle.std.specs.Prelude.{ℕ, ◌≤◌, ◌<◌, ◌^◌, ◌≡◌, ◌⊎◌, List, [], ◌∷◌, ◌++◌, map, length, take, replicate}
use Rattle.calls.specs.Calls.{Request}
use Rattle.journal.specs.declared.layout.Lent.{Lent}
use Rattle.journal.specs.declared.layout.Lent.TheVariants.{Nothing, Text, Groups, Buffer}
use Rattle.journal.specs.declared.read.Stop.{Stop}
use Rattle.journal.specs.declared.read.Stop.TheVariants.{Version, Cut}
use Rattle.journal.specs.Layout.{max_size, form_of, names_of, numbers_of}
use Rattle.journal.specs.Journal.{body_of, request_record, journal_of}
use Rattle.journal.specs.Reading.{ended, stopped, read_journal}

-- ---- calls that can be written
-- every element is below a bound
abbrev pub AllBelow : ℕ → List ℕ → Type 0
AllBelow n [] = Unit {0}
AllBelow n (x ∷ xs) = (x < n) × AllBelow n xs

-- a call's numbers fit the bytes that the format has for them: what the types of the interface give, and that a read's
-- buffer has fewer than 2 ^ 32 bytes
abbrev pub Typed : Request → Type 0
Typed r =
    AllBelow (2 ^ 64) (names_of r.call)
    × AllBelow (2 ^ 32) (numbers_of r.call (length r.buffer))
    × AllBelow 256 r.text
    × AllBelow (2 ^ 32) r.list

-- and its record is not longer than its length field can say
abbrev pub Writable : Request → Type 0
Writable r = Typed r × (length (body_of r.call r.text r.list (length r.buffer)) ≤ max_size)

abbrev pub AllWritable : List Request → Type 0
AllWritable [] = Unit {0}
AllWritable (r ∷ rs) = Writable r × AllWritable rs

-- ---- what a journal keeps of a call
-- its text where it is lent one, its list where it is lent one, and of a read's buffer the length: it holds zeros then
abbrev pub recorded_by : Lent → Request → Request
recorded_by Nothing r = record { call = r.call; text = []; list = []; buffer = [] }
recorded_by Text r = record { call = r.call; text = r.text; list = []; buffer = [] }
recorded_by Groups r = record { call = r.call; text = []; list = r.list; buffer = [] }
recorded_by Buffer r = record { call = r.call; text = []; list = []; buffer = replicate (length r.buffer) 0 }

abbrev pub recorded : Request → Request
recorded r = recorded_by (form_of r.call).lent r

-- ---- reading what was written: `reads_back` of proofs/Whole.antt proves it of all calls that can be written
pub record ReadsBack (rs : List Request) : Type 0 where
  -- a journal is read to its end, and gives its calls
  pub whole : read_journal (journal_of rs) ≡ record { calls = map recorded rs; ending = ended }
  -- whatever stands behind a journal, its calls stand
  pub stand : (rest : List ℕ) → (more : List Request) × ((read_journal (journal_of rs ++ rest)).calls ≡ map recorded rs ++ more)
  -- a next record that is cut at any byte stops the reading with the offset where it starts
  pub cut : (r : Request) (k : ℕ) → Writable r → 0 < k → k < length (request_record r)
      → read_journal (journal_of rs ++ take k (request_record r)) ≡ record { calls = map recorded rs; ending = stopped (length (journal_of rs)) Cut }

-- ---- what any bytes are read as: `one_journal` of proofs/Whole.antt proves it of all of them
pub record OneJournal (l : List ℕ) : Type 0 where
  -- read to their end, they are the journal of what was read
  pub is_journal : (read_journal l).ending ≡ ended → l ≡ journal_of (read_journal l).calls
  -- stopped, those before the offset are the journal of what was read, and there are more; or no known version stands
  -- there, and nothing was read
  pub stops : (o : ℕ) (why : Stop) → (read_journal l).ending ≡ stopped o why
      → ((o ≡ 0) × (why ≡ Version) × ((read_journal l).calls ≡ [])) ⊎ ((o < length l) × (take o l ≡ journal_of (read_journal l).calls))
  -- all that was read can be written
  pub writable : AllWritable (read_journal l).calls
