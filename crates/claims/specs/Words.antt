-- The words of demand 3, each by the calls and their answers alone: document 01, 'Lists of calls'. A list of events has
-- the newest first, so each definition says what the newest does and leaves the rest to the events before it. Assumes
-- nothing.
use Rattle.std.specs.Prelude.{ℕ, suc, Bool, true, false, cond, ◌&&◌, List, [], ◌∷◌, map, eqb, Option, Some, None}
use Rattle.idmap.specs.declared.Line.{Line}
use Rattle.idmap.specs.Good.{no_id}
use Rattle.idmap.specs.Lookup.{or_no_id}
use Rattle.idmap.specs.Text.{map_lines}
use Rattle.records.specs.declared.Kind.{Kind}
use Rattle.records.specs.declared.Kind.TheVariants.{User, Group}
use Rattle.records.specs.declared.Ids.{Ids}
use Rattle.records.specs.Records.{zero_ids}
use Rattle.tables.specs.Tables.{fixed_line}
use Rattle.claims.specs.Translation.{out_by}
use Rattle.claims.specs.Events.{Event, other, forked, cloned, unshared, joined, mapped, changed, grouped}

-- p is a process: it is 1, or a fork or clone was answered with it
unfoldable pub is_process : List Event → ℕ → Bool
is_process [] p = eqb p 1
is_process (other ∷ h) p = is_process h p
is_process (forked c q ∷ h) p = cond (eqb p q) true (is_process h p)
is_process (cloned c q n ∷ h) p = cond (eqb p q) true (is_process h p)
is_process (unshared c n ∷ h) p = is_process h p
is_process (joined c n ∷ h) p = is_process h p
is_process (mapped k q text ∷ h) p = is_process h p
is_process (changed k c new ∷ h) p = is_process h p
is_process (grouped c list ∷ h) p = is_process h p

-- m is a namespace: it is 0, or a clone or unshare was answered with it
unfoldable pub is_namespace : List Event → ℕ → Bool
is_namespace [] m = eqb m 0
is_namespace (other ∷ h) m = is_namespace h m
is_namespace (forked c q ∷ h) m = is_namespace h m
is_namespace (cloned c q n ∷ h) m = cond (eqb m n) true (is_namespace h m)
is_namespace (unshared c n ∷ h) m = cond (eqb m n) true (is_namespace h m)
is_namespace (joined c n ∷ h) m = is_namespace h m
is_namespace (mapped k q text ∷ h) m = is_namespace h m
is_namespace (changed k c new ∷ h) m = is_namespace h m
is_namespace (grouped c list ∷ h) m = is_namespace h m

-- a process is where the last unshare or setns that moved it put it, else where its fork (its caller's namespace) or
-- clone did; process 1 starts in namespace 0
unfoldable pub place_of : List Event → ℕ → ℕ
place_of [] p = 0
place_of (other ∷ h) p = place_of h p
place_of (forked c q ∷ h) p = cond (eqb p q) (place_of h c) (place_of h p)
place_of (cloned c q n ∷ h) p = cond (eqb p q) n (place_of h p)
place_of (unshared c n ∷ h) p = cond (eqb p c) n (place_of h p)
place_of (joined c n ∷ h) p = cond (eqb p c) n (place_of h p)
place_of (mapped k q text ∷ h) p = place_of h p
place_of (changed k c new ∷ h) p = place_of h p
place_of (grouped c list ∷ h) p = place_of h p

-- a namespace's parent is where the caller of the clone or unshare that made it was just before that call
unfoldable pub parent_of : List Event → ℕ → ℕ
parent_of [] m = 0
parent_of (other ∷ h) m = parent_of h m
parent_of (forked c q ∷ h) m = parent_of h m
parent_of (cloned c q n ∷ h) m = cond (eqb m n) (place_of h c) (parent_of h m)
parent_of (unshared c n ∷ h) m = cond (eqb m n) (place_of h c) (parent_of h m)
parent_of (joined c n ∷ h) m = parent_of h m
parent_of (mapped k q text ∷ h) m = parent_of h m
parent_of (changed k c new ∷ h) m = parent_of h m
parent_of (grouped c list ∷ h) m = parent_of h m

-- how many parents lead from a namespace to namespace 0
unfoldable pub level_of : List Event → ℕ → ℕ
level_of [] m = 0
level_of (other ∷ h) m = level_of h m
level_of (forked c q ∷ h) m = level_of h m
level_of (cloned c q n ∷ h) m = cond (eqb m n) (suc (level_of h (place_of h c))) (level_of h m)
level_of (unshared c n ∷ h) m = cond (eqb m n) (suc (level_of h (place_of h c))) (level_of h m)
level_of (joined c n ∷ h) m = level_of h m
level_of (mapped k q text ∷ h) m = level_of h m
level_of (changed k c new ∷ h) m = level_of h m
level_of (grouped c list ∷ h) m = level_of h m

abbrev pub same_kind : Kind → Kind → Bool
same_kind User User = true
same_kind User Group = false
same_kind Group User = false
same_kind Group Group = true

-- a namespace's map is the lines of the map write for it answered 'done', unwritten until then; namespace 0's is its
-- fixed line
unfoldable pub written_of : Kind → List Event → ℕ → Option (List Line)
written_of k [] m = cond (eqb m 0) (Some (fixed_line ∷ [])) None
written_of k (other ∷ h) m = written_of k h m
written_of k (forked c q ∷ h) m = written_of k h m
written_of k (cloned c q n ∷ h) m = written_of k h m
written_of k (unshared c n ∷ h) m = written_of k h m
written_of k (joined c n ∷ h) m = written_of k h m
written_of k (mapped j q text ∷ h) m = cond (same_kind k j && eqb m (place_of h q)) (map_lines text) (written_of k h m)
written_of k (changed j c new ∷ h) m = written_of k h m
written_of k (grouped c list ∷ h) m = written_of k h m

-- the lines of a map: none while it is unwritten
abbrev pub or_none : Option (List Line) → List Line
or_none None = []
or_none (Some ls) = ls

abbrev pub written_lines : Kind → List Event → ℕ → List Line
written_lines k h m = or_none (written_of k h m)

-- what an ID of a namespace stands for, with the maps of the moment
abbrev pub stands_for : Kind → List Event → ℕ → ℕ → Option ℕ
stands_for k h n x = out_by (parent_of h) (written_lines k h) (level_of h n) n x

-- the IDs of a kind that a process carries, all station-wide: real, effective and saved, and the supplementary ones,
-- which only groups have
pub record Held : Type 0 where
  pub three : Ids
  pub supplementary : List ℕ

abbrev pub held : Held → List ℕ
held c = c.three.real ∷ c.three.effective ∷ c.three.saved ∷ c.supplementary

-- one of the three IDs of an ID change: 'no ID' leaves it as it is, another is what it stands for in the caller's
-- namespace
abbrev pub chosen_of : Kind → List Event → ℕ → ℕ → ℕ → Option ℕ
chosen_of k h n x old = cond (eqb x no_id) (Some old) (stands_for k h n x)

abbrev pub changed_ids : Kind → List Event → ℕ → Ids → Ids → Ids
changed_ids k h n new old = record {
  real = or_no_id (chosen_of k h n new.real old.real);
  effective = or_no_id (chosen_of k h n new.effective old.effective);
  saved = or_no_id (chosen_of k h n new.saved old.saved);
}

-- a process carries the IDs that its start and its own calls not refused left it: process 1 starts with 0, 0, 0 and no
-- groups; a fork or a clone gives the child the caller's
unfoldable pub held_of : Kind → List Event → ℕ → Held
held_of k [] p = record { three = zero_ids; supplementary = [] }
held_of k (other ∷ h) p = held_of k h p
held_of k (forked c q ∷ h) p = cond (eqb p q) (held_of k h c) (held_of k h p)
held_of k (cloned c q n ∷ h) p = cond (eqb p q) (held_of k h c) (held_of k h p)
held_of k (unshared c n ∷ h) p = held_of k h p
held_of k (joined c n ∷ h) p = held_of k h p
held_of k (mapped j q text ∷ h) p = held_of k h p
held_of k (changed j c new ∷ h) p =
    cond (same_kind k j && eqb p c)
    (record { three = changed_ids k h (place_of h c) new (held_of k h c).three; supplementary = (held_of k h c).supplementary })
    (held_of k h p)
held_of k (grouped c list ∷ h) p =
    cond (same_kind k Group && eqb p c)
    (record { three = (held_of k h c).three; supplementary = map (λ (x : ℕ). or_no_id (stands_for Group h (place_of h c) x)) list })
    (held_of k h p)
