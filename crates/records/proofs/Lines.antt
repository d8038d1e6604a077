-- The written lines of a map, read where their words stand. Assumes nothing.
use Prim.Native.Nat.{ℕ, zero, suc, ◌+◌, ◌*◌, ◌≤◌, ◌<◌, min}
use mathlib.Core.Path.{◌≡◌, refl, sym, ap, ap₂, ◌∙◌}
use mathlib.Core.List.{List, [], ◌∷◌, ◌++◌, zip_with}
use native.Mathlib.Nat.{suc-mul}
use native.Mathlib.Omega.{arith}
use lib.ListN.{length, get_or, take, drop}
use lib.Seq.{drop-cons}
use borrow.Author.Rules.{rules}
use borrow.Author.Tests.{eq-eqb, ne_eqb, ltb-true, ltb-false}
use lib.Dec.{ltb}
use Rattle.prelude.proofs.Tests.{by_test}
use Rattle.prelude.specs.Parts.{part}
use Rattle.prelude.specs.Lists.{tab}
use Rattle.prelude.proofs.Lists.{zip_take}
use Rattle.prelude.proofs.Made.{tab_same, tab_next, tab_front, tab_whole}
use Rattle.idmap.specs.declared.Line.{Line}
use Rattle.idmap.specs.Line.{line_words, inside_column, parent_column, kernel_column, line_at, lines_by, lines_in, kernel_lines_in}
use Rattle.idmap.specs.Good.{max_lines}
use Rattle.idmap.proofs.Words.{four_at, line_is}
use Rattle.records.specs.Records.{first_line_at, map_width, map_of, map_from, lines_of, starts_in, starts_from, on_kernel, on_kernels, LinesOf}
use Rattle.records.proofs.Records.{map_whole, map_other, starts_whole}

-- ---- the lines that words hold, one by one
module _ (from to : ℕ) (f : from < line_words) (t : to < line_words) (ws : List ℕ) where
  pub lines_words : (n k : ℕ) → k + n * line_words ≤ length ws → lines_by from to (take (n * line_words) (drop k ws)) ≡ tab (λ (j : ℕ). line_at from to ws (k + line_words * j)) n 0
  unfolding lines_by
  lines_words zero k h = refl
  lines_words (suc n) k h =
      let m = suc-mul n line_words in
      let shorter : take (suc n * line_words) (drop k ws) ≡ four_at ws k ++ take (n * line_words) (drop (k + line_words) ws) =
      ap (λ (c : ℕ). take c (drop k ws)) front
      ∙ rw (drop-cons ws k 0 (omega arith), drop-cons ws (suc k) 0 (omega arith), drop-cons ws (suc (suc k)) 0 (omega arith), drop-cons ws (suc (suc (suc k))) 0 (omega arith))
      (ap (λ (c : ℕ). four_at ws k ++ take (n * line_words) (drop c ws)) past) in
      rw shorter
      (ap₂ (λ (x : Line) (xs : List Line). x ∷ xs)
      (line_is from to ws k f t ∙ ap (line_at from to ws) (omega arith))
      (lines_words n (k + line_words) (omega arith) ∙ tab_same (λ (j : ℕ). line_at from to ws (k + line_words + line_words * j)) (λ (j : ℕ). line_at from to ws (k + line_words * suc j)) n 0 step ∙ tab_next (λ (j : ℕ). line_at from to ws (k + line_words * j)) n 0))
    where
      front : suc n * line_words ≡ suc (suc (suc (suc (n * line_words))))
      front = omega (arith, suc-mul n line_words)

      past : suc (suc (suc (suc k))) ≡ k + line_words
      past = omega arith

      step : (j : ℕ) → line_at from to ws (k + line_words + line_words * j) ≡ line_at from to ws (k + line_words * suc j)
      step j = ap (line_at from to ws) (omega arith)

-- ---- written_lines
-- the places of a map's lines, from one column to another
abbrev places : ℕ → List ℕ → List Line
places to ws = tab (λ (j : ℕ). line_at inside_column to ws (first_line_at + line_words * j)) max_lines 0

kernel_places : (ws : List ℕ) → places kernel_column ws ≡ on_kernels (map_of ws).lines (starts_in ws)
unfolding zip_with
kernel_places ws = refl

module _ (ws r : List ℕ) (long : length ws ≡ map_width) where
  -- the first n of them, all of them, none
  some_lines : (n to : ℕ) → to < line_words → n < max_lines → r ≡ part (n * line_words) first_line_at ws → lines_by inside_column to r ≡ take n (places to ws)
  unfolding part
  some_lines n to t h q =
      ap (lines_by inside_column to) q ∙ lines_words inside_column to (omega arith) t ws n first_line_at (omega arith)
      ∙ sym (tab_front (λ (j : ℕ). line_at inside_column to ws (first_line_at + line_words * j)) n max_lines 0 (omega arith))

  all_lines : (n to : ℕ) → to < line_words → max_lines ≤ n → r ≡ part (line_words * max_lines) first_line_at ws → lines_by inside_column to r ≡ take n (places to ws)
  unfolding part
  all_lines n to t h q =
      ap (lines_by inside_column to) q ∙ lines_words inside_column to (omega arith) t ws max_lines first_line_at (omega arith)
      ∙ sym (tab_whole (λ (j : ℕ). line_at inside_column to ws (first_line_at + line_words * j)) n max_lines 0 h)

  -- as many as the map says, and as there are places for
  module _ (n m : ℕ) (e : n ≡ get_or ws 1 0) (t : get_or ws 0 0 ≡ 1) where
    both_columns : (lines_by inside_column parent_column r ≡ take n (places parent_column ws)) → (lines_by inside_column kernel_column r ≡ take n (places kernel_column ws)) → LinesOf r (map_of ws) (starts_in ws)
    both_columns p k = record {
      written = p ∙ rw (eq-eqb (get_or ws 0 0) 1 t, ← e);
      kernel = k ∙ rw (eq-eqb (get_or ws 0 0) 1 t, ← e) (ap (take n) (kernel_places ws) ∙ zip_take on_kernel n (map_of ws).lines (starts_in ws));
    }

    pub written_some : m ≡ min n max_lines → r ≡ part (m * line_words) first_line_at ws → LinesOf r (map_of ws) (starts_in ws)
    written_some h q =
        by_test (ltb n max_lines)
        (λ s.
        let below = ltb-true n max_lines s in
        let same : m ≡ n = omega arith in
        let r' : r ≡ part (n * line_words) first_line_at ws = rw same at q in
        both_columns (some_lines n parent_column (omega arith) below r') (some_lines n kernel_column (omega arith) below r'))
        (λ s.
        let past = ltb-false n max_lines s in
        let all : m * line_words ≡ line_words * max_lines = omega arith in
        let r' : r ≡ part (line_words * max_lines) first_line_at ws = rw all at q in
        both_columns (all_lines n parent_column (omega arith) past r') (all_lines n kernel_column (omega arith) past r'))

  pub written_none : (get_or ws 0 0 ≡ 1 → ⊥) → r ≡ part 0 first_line_at ws → LinesOf r (map_of ws) (starts_in ws)
  unfolding part lines_by zip_with
  written_none t q = record {
    written = ap lines_in q ∙ rw (ne_eqb (get_or ws 0 0) 1 t);
    kernel = ap kernel_lines_in q ∙ rw (ne_eqb (get_or ws 0 0) 1 t);
  }

-- ---- lines_of
pub lines_whole : (ws r : List ℕ) → length ws ≡ map_width → LinesOf r (map_of ws) (starts_in ws) → LinesOf r (map_from ws) (starts_from ws)
lines_whole ws r h e = record { written = e.written ∙ ap lines_of (sym (map_whole ws h)); kernel = e.kernel ∙ sym (λ i. on_kernels (lines_of (map_whole ws h i)) (starts_whole ws h i)) }

pub lines_other : (ws : List ℕ) → (length ws ≡ map_width → ⊥) → LinesOf [] (map_from ws) (starts_from ws)
unfolding lines_by zip_with
lines_other ws h = record { written = ap lines_of (sym (map_other ws h)); kernel = sym (λ i. on_kernels (lines_of (map_other ws h i)) (starts_from ws)) }

pub ruleset lines = (written_some, written_none, lines_whole, lines_other, rules)
