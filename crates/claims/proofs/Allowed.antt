-- What allowed an event: the facts that its call had tested. Every theorem over lists of calls goes by these and opens
-- no call. Assumes nothing.
use Rattle.std.specs.Prelude.{Some, None}
use Prim.Native.Nat.{ℕ, ◌≤◌, ◌<◌, ◌^◌}
use mathlib.Core.Path.{◌≡◌, refl}
use mathlib.Core.Bool.{true, false}
use mathlib.Core.List.{List, [], ◌∷◌}
use native.Mathlib.Omega.{arith}
use lib.Dec.{eqb}
use lib.ListN.{length}
use borrow.Author.Tests.{eq-eqb, eqb-true}
use Rattle.records.specs.Records.{max_groups}
use Rattle.idmap.specs.Ranges.{one_has, lies_whole}
use Rattle.idmap.specs.Text.{map_lines}
use Rattle.idmap.specs.Good.{good_of, bounded_of, fits_of, all_apart}
use Rattle.records.specs.declared.Kind.{Kind}
use Rattle.records.specs.declared.Kind.TheVariants.{Group}
use Rattle.records.specs.declared.Ids.{Ids}
use Rattle.tables.specs.Tables.{max_level}
use Rattle.mapping.specs.Calls.{all_whole}
use Rattle.prelude.proofs.Tests.{by_test}
use Rattle.prelude.proofs.Made.{some_none}
use Rattle.claims.specs.Events.{Event, other, forked, cloned, unshared, joined, mapped, changed, grouped}
use Rattle.claims.specs.Words.{is_process, is_namespace, place_of, parent_of, level_of, written_of, or_none, written_lines, stands_for, chosen_of, held_of}
use Rattle.claims.specs.TopLevel.{IsUnder}
use Rattle.claims.proofs.Sound.{Sound, moves, begins, makes, writes}

-- caller c got child q
pub record NewProcess (h : List Event) (c q : ℕ) : Type 0 where
  pub caller : is_process h c ≡ true
  pub unused : is_process h q ≡ false
  pub named : q ≡ 0 → ⊥

-- caller c made namespace n
pub record NewNamespace (h : List Event) (c n : ℕ) : Type 0 where
  pub caller : is_process h c ≡ true
  pub unused : is_namespace h n ≡ false
  pub room : level_of h (place_of h c) < max_level

-- a process joins a namespace under its own
pub record Joins (h : List Event) (c n : ℕ) : Type 0 where
  pub caller : is_process h c ≡ true
  pub target : is_namespace h n ≡ true
  pub inward : IsUnder h (place_of h c) n

-- a map that was not written is, below one that was, and each line's parent side lies whole in one line of that one
pub record Maps (h : List Event) (k : Kind) (q : ℕ) (text : List ℕ) : Type 0 where
  pub process : is_process h q ≡ true
  pub unwritten : written_of k h (place_of h q) ≡ None
  pub parent_written : written_of k h (parent_of h (place_of h q)) ≡ None → ⊥
  pub whole : all_whole (lies_whole (written_lines k h (parent_of h (place_of h q)))) (or_none (map_lines text)) ≡ true

-- an ID that was given is left as it is, or stands for one
pub record Chosen (h : List Event) (k : Kind) (n x old : ℕ) : Type 0 where
  pub small : x < 2 ^ 32
  pub given : ℕ
  pub stands : chosen_of k h n x old ≡ Some given

pub record Changes (h : List Event) (k : Kind) (c : ℕ) (new : Ids) : Type 0 where
  pub caller : is_process h c ≡ true
  pub real : Chosen h k (place_of h c) new.real (held_of k h c).three.real
  pub effective : Chosen h k (place_of h c) new.effective (held_of k h c).three.effective
  pub saved : Chosen h k (place_of h c) new.saved (held_of k h c).three.saved

-- each of a list stands for an ID in namespace n
unfoldable pub AllStand : List Event → ℕ → List ℕ → Type 0
AllStand h n [] = Unit {0}
AllStand h n (x ∷ l) = (x < 2 ^ 32) × ((y : ℕ) × (stands_for Group h n x ≡ Some y)) × AllStand h n l

pub record Groups (h : List Event) (c : ℕ) (list : List ℕ) : Type 0 where
  pub caller : is_process h c ≡ true
  pub few : length list ≤ max_groups
  pub each : AllStand h (place_of h c) list

abbrev pub Allowed : List Event → Event → Type 0
Allowed h other = Unit {0}
Allowed h (forked c q) = NewProcess h c q
Allowed h (cloned c q n) = NewProcess h c q × NewNamespace h c n
Allowed h (unshared c n) = NewNamespace h c n
Allowed h (joined c n) = Joins h c n
Allowed h (mapped k q text) = Maps h k q text
Allowed h (changed k c new) = Changes h k c new
Allowed h (grouped c list) = Groups h c list

-- each event was allowed when it came
unfoldable pub Valid : List Event → Type 0
Valid [] = Unit {0}
Valid (e ∷ h) = Allowed h e × Valid h

abbrev pub SoundAt : List Event → Type 0
SoundAt h = Sound (is_process h) (is_namespace h) (place_of h) (parent_of h) (level_of h) (λ (k : Kind). written_of k h)

sound_start : SoundAt []
unfolding is_process is_namespace place_of parent_of level_of written_of good_of bounded_of fits_of all_apart all_whole lies_whole one_has
sound_start = record {
  no_zero = refl;
  root = refl;
  root_level = refl;
  placed = λ p e. refl;
  parented = λ m e. refl;
  levelled = λ m e h. absurd (h (eqb-true m 0 e));
  shallow = λ m. omega arith;
  good = λ k m. by_test (eqb m 0) (λ t. rw t) (λ t. rw t);
  counted = λ k m. by_test (eqb m 0) (λ t. rw t (omega arith, omega arith)) (λ t. rw t tt);
  whole = λ k m. by_test (eqb m 0) (λ t. rw t) (λ t. rw t);
  made = λ k m f. rw f;
  root_written = λ k e. some_none e;
}

sound_step : (e : Event) (h : List Event) → Allowed h e → SoundAt h → SoundAt (e ∷ h)
unfolding is_process is_namespace place_of parent_of level_of written_of
sound_step other h a s = s
sound_step (forked c q) h a s = begins _ _ _ _ _ _ s q (place_of h c) a.named (s.placed c a.caller)
sound_step (cloned c q n) h a s =
    begins _ _ _ _ _ _ (makes _ _ _ _ _ _ s n (place_of h c) a.1.unused (s.placed c a.1.caller) a.1.room) q n a.0.named (rw (eq-eqb n n refl))
sound_step (unshared c n) h a s =
    moves _ _ _ _ _ _ (makes _ _ _ _ _ _ s n (place_of h c) a.unused (s.placed c a.caller) a.room) c n (rw (eq-eqb n n refl))
sound_step (joined c n) h a s = moves _ _ _ _ _ _ s c n a.target
sound_step (mapped k q text) h a s = writes _ _ _ _ _ _ s k (place_of h q) text (s.placed q a.process) a.unwritten a.whole
sound_step (changed k c new) h a s = s
sound_step (grouped c list) h a s = s

pub sound : (h : List Event) → Valid h → SoundAt h
unfolding Valid
sound [] v = sound_start
sound (e ∷ h) v = sound_step e h v.0 (sound h v.1)
