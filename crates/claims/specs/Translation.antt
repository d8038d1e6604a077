-- Translation level by level, as document 01 has it: over any parents and any lines, and `by_levels` over those of the
-- tables, with document 02's ranges. Assumes nothing.
use Rattle.std.specs.Prelude.{ℕ, zero, suc, ◌+◌, ◌<◌, ◌≡◌, cond, List, eqb, length, get_or, Option, None}
use Rattle.idmap.specs.declared.Line.{Line}
use Rattle.idmap.specs.Line.{no_line}
use Rattle.idmap.specs.Lookup.{out, then_id, back}
use Rattle.idmap.specs.Ranges.{lies_whole}
use Rattle.idmap.specs.Good.{no_id}
use Rattle.records.specs.declared.Kind.{Kind}
use Rattle.records.specs.Records.{map_in, lines_of}
use Rattle.tables.specs.Tables.{State, namespace_at}
use Rattle.hierarchy.specs.Walks.{Translation, height_of, itself}

-- an ID x inside and an ID z on the parent side belong together: some line has both, at the same offset
pub record Pairs (ls : List Line) (x z : ℕ) : Type 0 where
  pub which : ℕ
  pub which_in_range : which < length ls
  pub offset : ℕ
  pub below_count : offset < (get_or ls which no_line).count
  pub inside_is : x ≡ (get_or ls which no_line).inside + offset
  pub parent_is : z ≡ (get_or ls which no_line).parent + offset

-- `up n` is the parent of namespace n, and `lines n` the lines of its map
module _ (up : ℕ → ℕ) (lines : ℕ → List Line) where
  -- going out: ID x of namespace n stands for kernel ID (document 01: station-wide ID) y
  pub data GoesOut : ℕ → ℕ → ℕ → Type 0 where
    top : {n x y : ℕ} → n ≡ 0 → x ≡ y → x < no_id → GoesOut n x y
    through : {n x y : ℕ} → (n ≡ 0 → ⊥) → (z : ℕ) → Pairs (lines n) x z → GoesOut (up n) z y → GoesOut n x y

  -- coming back: kernel ID y is ID x of namespace n
  pub data ComesBack : ℕ → ℕ → ℕ → Type 0 where
    bottom : {n x y : ℕ} → n ≡ 0 → x ≡ y → x < no_id → ComesBack n y x
    down : {n x y : ℕ} → (n ≡ 0 → ⊥) → (z : ℕ) → ComesBack (up n) y z → Pairs (lines n) x z → ComesBack n y x

  -- the same two as lookups, in k steps at most
  unfoldable pub out_by : ℕ → ℕ → ℕ → Option ℕ
  out_by zero n x = cond (eqb n 0) (itself x) None
  out_by (suc k) n x = cond (eqb n 0) (itself x) (then_id (out (lines n) x) (λ y. out_by k (up n) y))

  unfoldable pub back_by : ℕ → ℕ → ℕ → Option ℕ
  back_by zero n y = cond (eqb n 0) (itself y) None
  back_by (suc k) n y = cond (eqb n 0) (itself y) (then_id (back_by k (up n) y) (λ z. back (lines n) z))

-- the papers' translation: by the parents and the written lines that the tables have, in as many steps as the level
-- says; and whether some line of a namespace's map has both ends of a range
unfoldable pub by_levels : State → Translation
by_levels s = record {
  out = λ (kind : Kind) (n x : ℕ). out_by (λ (m : ℕ). (namespace_at s m).parent) (λ (m : ℕ). lines_of (map_in kind (namespace_at s m))) (height_of s n) n x;
  back = λ (kind : Kind) (n y : ℕ). back_by (λ (m : ℕ). (namespace_at s m).parent) (λ (m : ℕ). lines_of (map_in kind (namespace_at s m))) (height_of s n) n y;
  whole = λ (kind : Kind) (n : ℕ). lies_whole (lines_of (map_in kind (namespace_at s n)));
}

-- namespace n is b, or its parent is under b
pub data Under (up : ℕ → ℕ) (b : ℕ) : ℕ → Type 0 where
  here : {n : ℕ} → n ≡ b → Under up b n
  deeper : {n : ℕ} → (n ≡ 0 → ⊥) → Under up b (up n) → Under up b n
