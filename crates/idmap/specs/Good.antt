-- Whether lines make a good map. Assumes nothing.
use Rattle.std.specs.Prelude.{ℕ, ◌+◌, ◌<◌, ◌≤◌, min, max, Bool, true, ◌&&◌, List, [], ◌∷◌, length, nat_le, nat_lt, slice_index_or}
use Rattle.idmap.specs.declared.Line.{Line}
use Rattle.idmap.specs.Line.{no_line}

-- document 01: the most lines that a map has
abbrev pub max_lines : ℕ
max_lines = 5

-- document 01: the value that means 'no ID', which is also the most that a start and a count may add up to
abbrev pub no_id : ℕ
no_id = 4294967295

-- document 01: each start plus the count is at most 4,294,967,295
unfoldable pub fits_of : Line → Bool
fits_of l = nat_le (l.inside + l.count) no_id && nat_le (l.parent + l.count) no_id

-- document 01: the count is over 0
unfoldable pub bounded_of : Line → Bool
bounded_of l = nat_lt 0 l.count && fits_of l

-- the c IDs from a on and the d IDs from b on have none in common: the first end is at or before the second start
unfoldable pub apart_side : ℕ → ℕ → ℕ → ℕ → Bool
apart_side a c b d = nat_le (min (a + c) (b + d)) (max a b)

-- document 01: two lines overlap neither on the inside nor on the parent side
unfoldable pub apart_of : Line → Line → Bool
apart_of l m =
    apart_side l.inside l.count m.inside m.count && apart_side l.parent l.count m.parent m.count

unfoldable pub all_apart : Line → List Line → Bool
all_apart l [] = true
all_apart l (m ∷ ms) = apart_of l m && all_apart l ms

-- each line is bounded, and no two overlap
unfoldable pub good_of : List Line → Bool
good_of [] = true
good_of (l ∷ ls) = bounded_of l && (all_apart l ls && good_of ls)

-- ---- the same in document 01's words, of each line and of every pair; that `good_of` is this is a law
-- x is one of the c IDs from a on
abbrev pub Within : ℕ → ℕ → ℕ → Type 0
Within x a c = (a ≤ x) × (x < a + c)

pub record Bounded (l : Line) : Type 0 where
  pub some : 0 < l.count
  pub inside_fits : l.inside + l.count ≤ no_id
  pub parent_fits : l.parent + l.count ≤ no_id

-- no ID is in both lines, on the inside or on the parent side
pub record Apart (l m : Line) : Type 0 where
  pub on_inside : (x : ℕ) → Within x l.inside l.count → Within x m.inside m.count → ⊥
  pub on_parent : (y : ℕ) → Within y l.parent l.count → Within y m.parent m.count → ⊥

pub record Good (ls : List Line) : Type 0 where
  pub bounded : (i : ℕ) → i < length ls → Bounded (slice_index_or ls i no_line)
  pub apart : (i j : ℕ) → i < j → j < length ls → Apart (slice_index_or ls i no_line) (slice_index_or ls j no_line)
