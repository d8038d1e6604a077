-- What holds after every list of calls: demand 3, sentence by sentence. `theorem` of proofs/Theorem.antt proves it of
-- every list. Assumes nothing.
use Rattle.std.specs.Prelude.{ℕ, ◌<◌, ◌^◌, ◌≡◌, true, false, List, ◌∷◌, ◌++◌, ◌⊎◌, ◌↔◌, Some}
use Rattle.records.specs.declared.Kind.{Kind}
use Rattle.tables.specs.Reply.{Reply, id, unmapped, is_refused}
use Rattle.credentials.specs.declared.translate.Way.{Way}
use Rattle.credentials.specs.declared.translate.Way.TheVariants.{Out, Back}
use Rattle.calls.specs.declared.Call.{Call}
use Rattle.calls.specs.declared.Call.TheVariants.{Fork, Clone, Unshare, Setns, WriteMap, WriteSetgroups, ReadMap, ReadSetgroups, SetIds, SetGroups, Capable, Drop, OwnIdsOf, Translate}
use Rattle.calls.specs.Calls.{Request}
use Rattle.claims.specs.Events.{Event}
use Rattle.claims.specs.Words.{is_process, place_of, written_lines, stands_for, held_of, held}
use Rattle.claims.specs.TopLevel.{TopLevel, IsUnder, OutOf, BackOf, Stands, OnParentSide, Has, Descends, Entered}
use Rattle.claims.specs.History.{Entry, run, history, events}
use Rattle.claims.specs.Agreement.{Agreed}

-- an answer that is no refusal is an ID exactly where the translation has that ID, and 'unmapped' exactly where it has
-- none
abbrev pub Answers : Reply → (ℕ → Type 0) → Type 0
Answers r R = is_refused r ≡ false → ((y : ℕ) → (r ≡ id y) ↔ R y) × ((r ≡ unmapped) ↔ ((y : ℕ) → R y → ⊥))

abbrev pub TranslatesTo : List Event → Kind → Way → ℕ → ℕ → ℕ → Type 0
TranslatesTo h k Out n x y = OutOf k h n x y
TranslatesTo h k Back n x y = BackOf k h n x y

-- a translate answers by the translation with the maps of that moment; h is what happened before it
abbrev pub TranslatesBy : List Event → Call → Reply → Type 0
TranslatesBy h (Fork c) r = Unit {0}
TranslatesBy h (Clone c) r = Unit {0}
TranslatesBy h (Unshare c) r = Unit {0}
TranslatesBy h (Setns c n) r = Unit {0}
TranslatesBy h (WriteMap k c p) r = Unit {0}
TranslatesBy h (WriteSetgroups c p) r = Unit {0}
TranslatesBy h (ReadMap k c p) r = Unit {0}
TranslatesBy h (ReadSetgroups c p) r = Unit {0}
TranslatesBy h (SetIds k c i) r = Unit {0}
TranslatesBy h (SetGroups c) r = Unit {0}
TranslatesBy h (Capable c n number) r = Unit {0}
TranslatesBy h (Drop c p e) r = Unit {0}
TranslatesBy h (OwnIdsOf c) r = Unit {0}
TranslatesBy h (Translate k w c n x) r = Answers r (TranslatesTo h k w n x)

abbrev pub Translates : List Event → Entry → Type 0
Translates h e = TranslatesBy h e.request.call e.reply

module _ (rs : List Request) where
  -- what happened by the calls of the list
  abbrev h : List Event
  h = events (history rs)

  -- everything is meant of user IDs by the user maps and, separately, of group IDs, supplementary groups included, by
  -- the group maps: k is the kind
  pub record Holds : Type 0 where
    -- after the list the tables give each namespace its parent and its maps, each process its namespace and its IDs,
    -- and have no other
    pub tables_agree : Agreed (run rs) h
    -- processes are numbered from 1
    pub numbered : is_process h 0 ≡ false
    -- each translate in the list that is not refused answers by the translation, with the maps of that moment
    pub translates : (new old : List Entry) (e : Entry) → history rs ≡ new ++ (e ∷ old) → Translates (events old) e
    -- what an ID is looked up to stand for, where an ID change or a setgroups says what a process carries, is what it
    -- stands for
    pub looked_up : (k : Kind) (n x y : ℕ) → x < 2 ^ 32 → (stands_for k h n x ≡ Some y) ↔ OutOf k h n x y
    -- in every namespace two different mapped IDs never stand for one kernel ID
    pub one_to_one : (k : Kind) (n x x' y : ℕ) → OutOf k h n x y → OutOf k h n x' y → x ≡ x'
    -- going out gives one kernel ID, and coming back one ID
    pub out_once : (k : Kind) (n x y y' : ℕ) → OutOf k h n x y → OutOf k h n x y' → y ≡ y'
    pub back_once : (k : Kind) (n y x x' : ℕ) → BackOf k h n y x → BackOf k h n y x' → x ≡ x'
    -- going out and back returns the mapped ID we began with
    pub out_back : (k : Kind) (n x y : ℕ) → OutOf k h n x y → BackOf k h n y x
    -- coming back from a kernel ID mapped there and going out returns that one
    pub back_out : (k : Kind) (n x y : ℕ) → BackOf k h n y x → OutOf k h n x y
    -- if two top-level namespaces' written maps share no kernel ID, then none that is mapped in one, or in any
    -- namespace nested at any depth under it, is mapped in the other or in any namespace under that
    pub disjoint : (k : Kind) (a b : ℕ) → (a ≡ b → ⊥) → TopLevel h a → TopLevel h b
        → ((y : ℕ) → OnParentSide (written_lines k h a) y → OnParentSide (written_lines k h b) y → ⊥)
        → (m n y : ℕ) → IsUnder h a m → IsUnder h b n → Stands k h m y → Stands k h n y → ⊥
    -- if a process was in a top-level namespace, or in anything nested under it, after any call of the list, it is
    -- still in it or under it at the list's end, and that is a top-level namespace still. The histories after the calls
    -- of the list are the parts that the whole history ends in, since the newest stands first
    pub stays : (new old : List Event) → h ≡ new ++ old → (p b : ℕ) → is_process old p ≡ true → TopLevel old b
        → IsUnder old b (place_of old p) → TopLevel h b × IsUnder h b (place_of h p)
    -- each kernel ID that it carries is mapped there, or was carried into it by that process or by one that it descends
    -- from
    pub carried : (k : Kind) (p b y : ℕ) → is_process h p ≡ true → TopLevel h b → IsUnder h b (place_of h p) → Has y (held (held_of k h p))
        → Stands k h b y ⊎ ((q : ℕ) × ((q ≡ p) ⊎ Descends h p q) × Entered k h b q y)
