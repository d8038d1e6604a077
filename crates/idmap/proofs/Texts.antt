-- The reader's loop over the lines of a text, turn by turn, in the words of the code. Assumes nothing.
use Rattle.std.proofs.Common.{◌≡◌, ℕ, ◌+◌, ◌-◌, ◌<◌, ◌≤◌, true, false, cond, ◌&&◌, leb, List, [], ◌∷◌, ◌++◌, length, take, drop, set, replicate, sym, refl, ap, ◌∙◌, append_assoc, append-nil, add-one, arith, length-append, length-take-le, take-suc-set, le-leb, Option, Some, None}
use mathlib.Core.Bool.{and-false}
use borrow.Author.Tests.{lt-leb}
use Rattle.prelude.specs.Lists.{cons_of, all_of}
use Rattle.prelude.proofs.Lists.{rest_is, made_so_far, rest_empty}
use Rattle.idmap.specs.declared.Line.{Line}
use Rattle.idmap.specs.declared.MapLines.{MapLines}
use Rattle.idmap.specs.Line.{no_line}
use Rattle.idmap.specs.Good.{max_lines, good_of}
use Rattle.idmap.specs.Text.{pieces, text_lines, checked, map_lines, padded, map_text}
use Rattle.idmap.specs.Scan.{scan_line}
use Rattle.idmap.proofs.FirstLine.{after_line, text_step, line_takes}

-- ---- lines in front of the lines of a text
prepended : List Line → Option (List Line) → Option (List Line)
prepended ls None = None
prepended ls (Some ms) = Some (ls ++ ms)

prepended_nothing : (o : Option (List Line)) → prepended [] o ≡ o
unfolding prepended
prepended_nothing None = refl
prepended_nothing (Some ms) = refl

prepended_next : (ls : List Line) (l : Line) (o : Option (List Line)) → prepended ls (cons_of (Some l) o) ≡ prepended (ls ++ (l ∷ [])) o
unfolding prepended cons_of
prepended_next ls l None = refl
prepended_next ls l (Some ms) = ap Some (sym (append_assoc ls (l ∷ []) ms))

-- ---- the text's lines, of which the first n are in ls, and those of the text left are the others
pub lines_from : List ℕ → List Line → ℕ → Option (List Line)
lines_from left ls n = prepended (take n ls) (text_lines left)

pub lines_start : (s : List ℕ) (ls : List Line) → text_lines s ≡ lines_from s ls 0
unfolding lines_from
lines_start s ls = sym (prepended_nothing (text_lines s))

-- too many lines
too_many : (ls : List Line) → length ls ≡ max_lines → (l : Line) (o : Option (List Line)) → checked (prepended ls (cons_of (Some l) o)) ≡ None
unfolding checked prepended cons_of
too_many ls e l None = refl
too_many ls e l (Some ms) =
    let k = length-append ls (l ∷ ms) in
    rw (lt-leb (length (ls ++ (l ∷ ms))) max_lines (omega arith), and-false)

sixth : (ls : List Line) (t : List ℕ) (r : Option (Line × ℕ)) → length ls ≡ max_lines → checked (prepended ls (after_line r t)) ≡ None
unfolding checked prepended
sixth ls t (Some (l, u)) e = too_many ls e l (text_lines (drop u t))
sixth ls t None e = refl

none_of : (l : List ℕ) → length l ≡ 0 → l ≡ []
none_of [] e = refl
none_of (x ∷ l) e = absurd (omega arith)

no_lines : text_lines [] ≡ Some []
unfolding text_lines pieces all_of
no_lines = refl

none_read : map_text None ≡ None
unfolding map_text
none_read = refl

module _ (s left : List ℕ) (ls : List Line) (n : ℕ) (inv : text_lines s ≡ lines_from left ls n) where
  pub lines_full : 0 < length left → n ≡ max_lines → length ls ≡ max_lines → None ≡ map_text (map_lines s)
  unfolding lines_from map_lines
  lines_full h e k =
      sym (ap map_text (rw (inv, text_step left h) (sixth (take n ls) left (scan_line left) (length-take-le n ls (omega arith) ∙ e))) ∙ none_read)

  module _ (end : length left ≡ 0) (small : n ≤ max_lines) (k : length ls ≡ max_lines) where
    all_read : text_lines s ≡ Some (take n ls)
    unfolding lines_from prepended
    all_read = inv ∙ rw (none_of left end, no_lines, append-nil)

    -- the test of the lines read
    tested : checked (text_lines s) ≡ cond (leb 1 n && good_of (take n ls)) (Some (take n ls)) None
    unfolding checked
    tested = rw (all_read, length-take-le n ls (omega arith), le-leb n max_lines small)

    pub lines_none : n ≡ 0 → None ≡ map_text (map_lines s)
    unfolding map_lines
    lines_none z = sym (ap map_text (tested ∙ rw (lt-leb 1 n (omega arith))) ∙ none_read)

    pub lines_bad : (n ≡ 0 → ⊥) → good_of (take n ls) ≡ false → None ≡ map_text (map_lines s)
    unfolding map_lines
    lines_bad z g = sym (ap map_text (tested ∙ rw (le-leb 1 n (omega arith), g)) ∙ none_read)

    pub lines_good : drop n ls ≡ replicate (max_lines - n) no_line → (n ≡ 0 → ⊥) → good_of (take n ls) ≡ true → ◌≡◌ {A = Option MapLines} (Some (record { count = n; lines = ls })) (map_text (map_lines s))
    unfolding map_lines map_text padded
    lines_good d z g =
        rw (tested, le-leb 1 n (omega arith), g, length-take-le n ls (omega arith), (made_so_far ls n max_lines no_line d k small).1)

-- a turn
module _ (s left : List ℕ) (ls : List Line) (n : ℕ) (inv : text_lines s ≡ lines_from left ls n) (r : Option (Line × ℕ)) (f : r ≡ scan_line left) (h : 0 < length left) where
  next : text_lines s ≡ prepended (take n ls) (after_line r left)
  unfolding lines_from
  next = inv ∙ rw (text_step left h, sym f)

  pub line_broken : r ≡ None → None ≡ map_text (map_lines s)
  unfolding map_lines checked prepended
  line_broken e = sym (ap map_text (ap checked (rw e at next)) ∙ none_read)

  pub line_fits : (l : Line) (u : ℕ) → r ≡ Some (l, u) → u ≤ length left
  line_fits l u b = rw (sym f ∙ b) at (line_takes left)

  module _ (small : n ≤ max_lines) (more : n ≡ max_lines → ⊥) (k : length ls ≡ max_lines) (l : Line) (u : ℕ) (b : r ≡ Some (l, u)) where
    pub line_next : text_lines s ≡ lines_from (take (length left - u) (drop u left)) (set ls n l) (n + 1)
    unfolding lines_from
    line_next = (rw b at next) ∙ rw (prepended_next (take n ls) l (text_lines (drop u left)), add-one n, take-suc-set ls n l (omega arith), rest_is left u)

    pub rest_padded : drop n ls ≡ replicate (max_lines - n) no_line → drop (n + 1) (set ls n l) ≡ replicate (max_lines - (n + 1)) no_line
    rest_padded d = rest_empty ls n max_lines no_line d l (omega arith)
