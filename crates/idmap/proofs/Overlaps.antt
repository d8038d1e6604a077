-- The tests of a map's lines, a turn of the loop at a time: the first of the lines that are left, and those after it.
-- Assumes nothing.
use Rattle.std.proofs.Common.{◌≡◌, ◌-◌, ◌<◌, ◌≤◌, true, false, ◌&&◌, List, [], ◌∷◌, length, get_or, take, drop, refl, ap, ◌∙◌, arith}
use Rattle.std.specs.List.{list_all}
use Rattle.idmap.specs.declared.Line.{Line}
use Rattle.idmap.specs.Line.{no_line}
use Rattle.idmap.specs.Good.{bounded_of, apart_of, all_apart, good_of}
use Rattle.prelude.proofs.Lists.{rest_is}

pub all_apart_list : (l : Line) (ls : List Line) → list_all (λ m. apart_of l m) ls ≡ all_apart l ls
unfolding all_apart
all_apart_list l [] = refl
all_apart_list l (m ∷ ms) = ap (λ t. apart_of l m && t) (all_apart_list l ms)

module _ (ls : List Line) where
  pub good_none : length ls < 1 → good_of ls ≡ true
  unfolding good_of
  good_none h = by_length ls h
    where
      by_length : (l : List Line) → length l < 1 → good_of l ≡ true
      by_length [] h = refl
      by_length (x ∷ l) h = absurd (omega arith)

  module _ (more : 1 ≤ length ls) where
    abbrev first : Line
    first = get_or ls 0 no_line

    abbrev rest : List Line
    rest = take (length ls - 1) (drop 1 ls)

    good_at : good_of ls ≡ (bounded_of first && (all_apart first rest && good_of rest))
    unfolding good_of
    good_at = by_lines ls more ∙ rw (rest_is ls 1)
      where
        by_lines : (l : List Line) → 1 ≤ length l → good_of l ≡ (bounded_of (get_or l 0 no_line) && (all_apart (get_or l 0 no_line) (drop 1 l) && good_of (drop 1 l)))
        by_lines [] h = absurd (omega arith)
        by_lines (x ∷ l) h = refl

    pub good_unbounded : bounded_of first ≡ false → good_of ls ≡ false
    good_unbounded b = good_at ∙ rw b

    module _ (b : bounded_of first ≡ true) where
      pub good_unclear : all_apart first rest ≡ false → good_of ls ≡ false
      good_unclear a = good_at ∙ rw (b, a)

      pub good_next : all_apart first rest ≡ true → good_of ls ≡ good_of rest
      good_next a = good_at ∙ rw (b, a)
