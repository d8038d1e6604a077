-- What is written as text is read back as the same lines. Assumes nothing.
use Rattle.std.proofs.Common.{◌≡◌, ℕ, zero, suc, ◌+◌, ◌-◌, ◌*◌, ◌/◌, ◌%◌, ◌^◌, ◌<◌, ◌≤◌, true, cond, eqb, leb, List, [], ◌∷◌, ◌++◌, length, drop, sym, refl, ◌∙◌, append-nil, arith, length-append, ne_eqb, eqb-true, le-leb, Option, Some, None}
use lib.Seq.{append_snoc}
use Rattle.idmap.specs.declared.Line.{Line}
use Rattle.idmap.specs.Good.{max_lines, no_id, good_of}
use Rattle.idmap.specs.Text.{is_digit, pieces, numbers_of, three_of, line_of, text_lines, checked, map_lines}
use Rattle.idmap.specs.Scan.{span, value}
use Rattle.idmap.specs.Show.{last_digit, column_of, shown, number_text, line_columns, line_text, lines_text}
use Rattle.prelude.proofs.Tests.{by_test}
use Rattle.prelude.specs.Lists.{cons_of, all_of}
use Rattle.idmap.proofs.FirstLine.{Solid, at_newline, first_piece}
use Rattle.idmap.proofs.Fields.{number_front, numbers_skip, numbers_front, numbers_none}
use Rattle.idmap.proofs.Words.{Narrow, AllNarrow}

-- ---- a number's columns
-- a column is a digit, or a space where nothing is left
by_column : {P : Type 0} (v : ℕ) → (v ≡ 0 → column_of v ≡ 32 → P) → (column_of v ≡ last_digit v → P) → P
by_column v f g =
    by_test (eqb v 0)
    (λ t. f (eqb-true v 0 t) (rw t))
    (λ t. g (rw t))

last_digit_lem : (v : ℕ) → is_digit (last_digit v) ≡ true
last_digit_lem v = rw (le-leb 48 (last_digit v) (omega arith), le-leb (last_digit v) 57 (omega arith))

-- a space at the front does not count
numbers_space : (s : List ℕ) → numbers_of (32 ∷ s) ≡ numbers_of s
unfolding span
numbers_space s = numbers_skip (32 ∷ s) ∙ sym (numbers_skip s)

-- nor do the columns of zero
numbers_blank : (k : ℕ) (s : List ℕ) → numbers_of (shown k 0 ++ s) ≡ numbers_of s
unfolding shown
numbers_blank zero s = refl
numbers_blank (suc k) s = rw (append_snoc (shown k 0) 32 s) (numbers_blank k (32 ∷ s) ∙ numbers_space s)

-- v and then the digits at the front are one number, before the others
read_from : ℕ → List ℕ → Option (List ℕ)
read_from v s = cons_of (cond (leb (value v s) no_id) (Some (value v s)) None) (numbers_of (drop (span is_digit s) s))

reads_zero : (s : List ℕ) → 0 < span is_digit s → numbers_of s ≡ read_from 0 s
unfolding read_from
reads_zero s d = numbers_front s d ∙ rw (number_front s)

reads_digit : (v : ℕ) (s : List ℕ) → read_from (v / 10) (last_digit v ∷ s) ≡ read_from v s
unfolding read_from value span
reads_digit v s = let e : v / 10 * 10 + (48 + v % 10 - 48) ≡ v = omega arith in rw (last_digit_lem v, e)

span_digit : (v : ℕ) (s : List ℕ) → 0 < span is_digit (last_digit v ∷ s)
unfolding span
span_digit v s = rw (last_digit_lem v) (omega arith)

-- the columns of v are the higher digits of the number
shown_reads : (k v : ℕ) (s : List ℕ) → v < 10 ^ k → 0 < span is_digit s → numbers_of (shown k v ++ s) ≡ read_from v s
unfolding shown
shown_reads zero v s h d = let e : v ≡ 0 = omega arith in rw e (reads_zero s d)
shown_reads (suc k) v s h d =
    by_column v
    (λ e c. rw e (numbers_blank (suc k) s ∙ reads_zero s d))
    (λ c.
    rw (c, append_snoc (shown k (v / 10)) (last_digit v) s)
    (shown_reads k (v / 10) (last_digit v ∷ s) (omega arith) (span_digit v s) ∙ reads_digit v s))

-- no digit follows
value_none : (v : ℕ) (s : List ℕ) → span is_digit s ≡ 0 → value v s ≡ v
unfolding span value
value_none v [] e = refl
value_none v (c ∷ s) e = by_test (is_digit c) (λ t. absurd (let z : suc (span is_digit s) ≡ 0 = rw t at e in omega arith)) (λ t. rw t)

reads_none : (v : ℕ) (s : List ℕ) → v ≤ no_id → span is_digit s ≡ 0 → read_from v s ≡ cons_of (Some v) (numbers_of s)
unfolding read_from
reads_none v s h e = rw (value_none v s e, le-leb v no_id h, e)

-- the text of a number before what starts with no digit is that number
pub number_reads : (n : ℕ) (s : List ℕ) → n ≤ no_id → span is_digit s ≡ 0 → numbers_of (number_text n ++ s) ≡ cons_of (Some n) (numbers_of s)
unfolding number_text
number_reads n s h e =
    rw (append_snoc (shown 9 (n / 10)) (last_digit n) s)
    (shown_reads 9 (n / 10) (last_digit n ∷ s) (omega arith) (span_digit n s) ∙ reads_digit n s ∙ reads_none n s h e)

-- ---- a line's columns
pub line_reads : (l : Line) → Narrow l → line_of (line_columns l) ≡ Some l
unfolding line_of three_of cons_of line_columns span
line_reads l h =
    let a = l.inside in
    let b = l.parent in
    let c = l.count in
    rw (number_reads a (32 ∷ (number_text b ++ 32 ∷ number_text c)) (omega arith) refl, numbers_space (number_text b ++ 32 ∷ number_text c))
    (rw (number_reads b (32 ∷ number_text c) (omega arith) refl, numbers_space (number_text c))
    (rw (← append-nil (number_text c)) (rw (number_reads c [] (omega arith) refl, numbers_none))))

-- ---- no column is a newline
solid_append : (s t : List ℕ) → Solid s → Solid t → Solid (s ++ t)
solid_append [] t p q = q
solid_append (c ∷ s) t p q = (p.0, solid_append s t p.1 q)

solid_digit : (v : ℕ) → Solid (last_digit v ∷ [])
solid_digit v = (ne_eqb (last_digit v) 10 (omega arith), tt)

solid_column : (v : ℕ) → Solid (column_of v ∷ [])
solid_column v = by_column v (λ e c. rw c (refl, tt)) (λ c. rw c (solid_digit v))

solid_shown : (k v : ℕ) → Solid (shown k v)
unfolding shown
solid_shown zero v = tt
solid_shown (suc k) v = solid_append (shown k (v / 10)) (column_of v ∷ []) (solid_shown k (v / 10)) (solid_column v)

solid_number : (n : ℕ) → Solid (number_text n)
unfolding number_text
solid_number n = solid_append (shown 9 (n / 10)) (last_digit n ∷ []) (solid_shown 9 (n / 10)) (solid_digit n)

solid_line : (l : Line) → Solid (line_columns l)
unfolding line_columns
solid_line l =
    let b = number_text l.parent in
    let c = number_text l.count in
    solid_append (number_text l.inside) (32 ∷ (b ++ 32 ∷ c)) (solid_number l.inside)
    (refl, solid_append b (32 ∷ c) (solid_number l.parent) (refl, solid_number l.count))

-- ---- the lines of a text, and of a map
longer_text : (l : Line) (ls : List Line) → 0 < length (line_columns l ++ (10 ∷ lines_text ls))
longer_text l ls = rw length-append (omega arith)

pub lines_read_back : (ls : List Line) → AllNarrow ls → text_lines (lines_text ls) ≡ Some ls
unfolding text_lines lines_text line_text all_of cons_of pieces
lines_read_back [] h = refl
lines_read_back (l ∷ ls) h =
    rw (append_snoc (line_columns l) 10 (lines_text ls), first_piece (line_columns l) (10 ∷ lines_text ls) (solid_line l) (at_newline (lines_text ls)) (longer_text l ls), line_reads l h.0)
    (rw (lines_read_back ls h.1))

pub map_reads_back : (ls : List Line) → AllNarrow ls → good_of ls ≡ true → 1 ≤ length ls → length ls ≤ max_lines → map_lines (lines_text ls) ≡ Some ls
unfolding map_lines checked
map_reads_back ls h g low high =
    rw (lines_read_back ls h, le-leb 1 (length ls) low, le-leb (length ls) max_lines high, g)
