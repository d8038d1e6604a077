-- The written lines of a namespace's map, and their kernel starts, where they stand in the tables. Assumes nothing.
use Prim.Native.Nat.{ℕ, ◌+◌, ◌*◌, ◌≤◌, ◌<◌}
use mathlib.Core.Path.{◌≡◌, refl, sym, ap, ◌∙◌}
use mathlib.Core.List.{List, [], zip_with}
use native.Mathlib.Omega.{arith}
use lib.ListN.{length, take, drop}
use borrow.Author.Rules.{rules}
use Rattle.prelude.specs.Parts.{part}
use Rattle.prelude.proofs.Parts.{length_part, part_part}
use Rattle.idmap.specs.Line.{lines_by}
use Rattle.rows.proofs.Rows.{row_get, row_none}
use Rattle.records.proofs.Records.{map_whole, starts_whole}
use Rattle.records.specs.declared.Kind.{Kind}
use Rattle.records.specs.declared.Kind.TheVariants.{User, Group}
use Rattle.records.specs.Records.{map_width, map_at, map_of, map_from, namespace_width, namespace_of, free_namespace, map_in, lines_of, starts_in, starts_of, starts_from, no_starts, on_kernels, LinesOf}
use Rattle.tables.specs.Tables.{namespace_places, namespaces_at, tables_width, tables_of, namespace_at, starts_at}
use Rattle.tables.proofs.Tables.{starts_rows, map_within, map_fits}

-- ---- map_lines
-- a namespace past the table has no lines, of either kind
no_lines : (k : Kind) (ys : List ℕ) → LinesOf [] (map_in k free_namespace) ys
unfolding lines_by zip_with
no_lines User ys = record { written = refl; kernel = refl }
no_lines Group ys = record { written = refl; kernel = refl }

-- a map of a kind is read from its own words of the namespace's row
map_words : (k : Kind) (r : List ℕ) → map_in k (namespace_of r) ≡ map_of (take map_width (drop (map_at k) r))
map_words User r = refl
map_words Group r = refl

module _ (l : List ℕ) (place : ℕ) (k : Kind) (r : List ℕ) where
  pub lines_past : namespace_places ≤ place → r ≡ part 0 0 l → LinesOf r (map_in k (namespace_at (tables_of l) place)) (starts_at (tables_of l) k place)
  unfolding part tables_of namespace_at
  lines_past h q = rw (q, row_none namespace_of namespace_width namespace_places namespaces_at l place free_namespace h) (no_lines k (starts_at (tables_of l) k place))

  pub lines_at_lem : length l ≡ tables_width → place < namespace_places → (w : List ℕ) (row a : ℕ) → row ≡ namespaces_at + place * namespace_width → a ≡ map_at k → w ≡ part map_width (row + a) l
      → LinesOf r (map_from w) (starts_from w) → LinesOf r (map_in k (namespace_at (tables_of l) place)) (starts_at (tables_of l) k place)
  unfolding tables_of namespace_at starts_at
  lines_at_lem long h w row a start at e read =
      let there : w ≡ take map_width (drop (map_at k) (part namespace_width row l)) = e ∙ rw at (sym (part_part map_width (map_at k) namespace_width row l (map_within k))) in
      let whole : length w ≡ map_width = rw (e, at) (length_part map_width (row + map_at k) l (omega (arith, map_within k))) in
      let map_is : map_from w ≡ map_in k (namespace_at (tables_of l) place) = map_whole w whole ∙ ap map_of there ∙ sym (map_words k (part namespace_width row l)) ∙ sym (rw (row_get namespace_of namespace_width namespace_places namespaces_at l place free_namespace row start h)) in
      let starts-are : starts_from w ≡ starts_at (tables_of l) k place = starts_whole w whole ∙ ap starts_in there ∙ sym (rw (starts_rows k l) (row_get (starts_of k) namespace_width namespace_places namespaces_at l place no_starts row start h)) in
      record { written = read.written ∙ ap lines_of map_is; kernel = read.kernel ∙ (λ i. on_kernels (lines_of (map_is i)) (starts-are i)) }

pub ruleset lines = (lines_past, lines_at_lem, map_fits, rules)
