-- How many bytes the reader reads of a text: never more than there are, and all of a good one. Assumes nothing.
use Rattle.std.proofs.Common.{◌≡◌, ℕ, zero, suc, ◌<◌, ◌≤◌, ◌&&◌, leb, List, [], ◌∷◌, length, drop, sym, refl, ap, ◌∙◌, arith, length-drop, leb-true, Option, Some, None, Result, Ok, Err}
use Rattle.prelude.proofs.Tests.{by_test, both}
use Rattle.prelude.proofs.Made.{some_none, cons_some}
use Rattle.idmap.specs.declared.Line.{Line}
use Rattle.map_reader.specs.declared.text.Seen.{Seen}
use Rattle.idmap.specs.Good.{max_lines, good_of}
use Rattle.idmap.specs.Text.{text_lines, checked, map_lines}
use Rattle.map_reader.specs.Scan.{scan_line, line_then, bytes_from, bytes_read, ReadOnce}
use Rattle.idmap.proofs.FirstLine.{after_line, text_step}
use Rattle.map_reader.proofs.Scans.{Places, seen_within, line_places}
use Rattle.map_reader.proofs.Same.{told_line, line_told}

-- the lines of a text whose first line was scanned
pub lines_step : (t : List ℕ) → 0 < length t → text_lines t ≡ after_line (told_line (scan_line t)) t
lines_step t h = text_step t h ∙ rw (line_told t)

-- a line, and what it leaves over
pub bytes_step : (k : ℕ) (t : List ℕ) → 0 < length t → bytes_from (suc k) t ≡ line_then (scan_line t) (λ u. bytes_from k (drop u t))
unfolding bytes_from
bytes_step k [] h = absurd (omega arith)
bytes_step k (c ∷ s) h = refl

-- nothing is read of no more lines, or of no text
pub bytes_none : (t : List ℕ) → bytes_from 0 t ≡ 0
unfolding bytes_from
bytes_none t = refl

pub bytes_end : (k : ℕ) → bytes_from k [] ≡ 0
unfolding bytes_from
bytes_end zero = refl
bytes_end (suc k) = refl

-- ---- never more than there are
line_within : (t : List ℕ) (r : Result (Line × Seen) Seen) (rest : ℕ → ℕ) → Places t r → ((u : ℕ) → rest u ≤ length (drop u t)) → line_then r rest ≤ length t
line_within t (Ok (l, c)) rest p h =
    let k = seen_within t c p in
    let m = h c.bytes in
    let d = length-drop c.bytes t in
    omega arith
line_within t (Err c) rest p h = seen_within t c p

bytes_within : (k : ℕ) (t : List ℕ) → bytes_from k t ≤ length t
bytes_within zero t = rw (bytes_none t) (omega arith)
bytes_within (suc k) [] = rw (bytes_end (suc k)) (omega arith)
bytes_within (suc k) (c ∷ s) =
    let t = c ∷ s in
    rw (bytes_step k t (omega arith)) (line_within t (scan_line t) (λ u. bytes_from k (drop u t)) (line_places t) (λ u. bytes_within k (drop u t)))

-- ---- all of a text that is lines, if these are no more than are looked at
-- the lines after the first
others : (t : List ℕ) (ls : List Line) (r : Result (Line × Seen) Seen) → after_line (told_line r) t ≡ Some ls
    → (l : Line) × (c : Seen) × (ms : List Line) × (r ≡ Ok (l, c)) × (text_lines (drop c.bytes t) ≡ Some ms) × (length ls ≡ suc (length ms))
others t ls (Ok (l, c)) e =
    let m = cons_some (Some l) (text_lines (drop c.bytes t)) ls e in
    (l, c, m.1, refl, m.3, ap length m.4)
others t ls (Err c) e = absurd (some_none (sym e))

line_whole : (k : ℕ) (t : List ℕ) (ls : List Line) (r : Result (Line × Seen) Seen) → Places t r → length ls ≤ suc k → after_line (told_line r) t ≡ Some ls
    → ((u : ℕ) (ms : List Line) → length ms ≤ k → text_lines (drop u t) ≡ Some ms → bytes_from k (drop u t) ≡ length (drop u t))
    → line_then r (λ u. bytes_from k (drop u t)) ≡ length t
line_whole k t ls r p few e rest =
    let o = others t ls r e in
    let h = seen_within t o.1 (rw o.3 at p) in
    let d = length-drop o.1.bytes t in
    let m = o.5 in
    let n = rest o.1.bytes o.2 (omega arith) o.4 in
    rw o.3 (omega arith)

bytes_whole : (k : ℕ) (t : List ℕ) (ls : List Line) → length ls ≤ k → text_lines t ≡ Some ls → bytes_from k t ≡ length t
bytes_whole zero [] ls few e = bytes_none []
bytes_whole zero (c ∷ s) ls few e =
    let t = c ∷ s in
    let o = others t ls (scan_line t) (sym (lines_step t (omega arith)) ∙ e) in
    absurd (let m = o.5 in omega arith)
bytes_whole (suc k) [] ls few e = bytes_end (suc k)
bytes_whole (suc k) (c ∷ s) ls few e =
    let t = c ∷ s in
    rw (bytes_step k t (omega arith))
    (line_whole k t ls (scan_line t) (line_places t) few (sym (lines_step t (omega arith)) ∙ e) (λ u ms h f. bytes_whole k (drop u t) ms h f))

-- a good text is lines, and no more of them than a map has
checked_some : (o : Option (List Line)) (ls : List Line) → checked o ≡ Some ls → (o ≡ Some ls) × (length ls ≤ max_lines)
unfolding checked
checked_some None ls e = absurd (some_none (sym e))
checked_some (Some ms) ls e =
    let test = leb 1 (length ms) && (leb (length ms) max_lines && good_of ms) in
    by_test test
    (λ t.
    let few = leb-true (length ms) max_lines (both (leb (length ms) max_lines) (good_of ms) (both (leb 1 (length ms)) (leb (length ms) max_lines && good_of ms) t).1).0 in
    let same : Some ms ≡ Some ls = rw t at e in
    let list : ms ≡ ls = cc in
    (same, rw list at few))
    (λ t. absurd (let none-some : None ≡ Some ls = rw t at e in some_none (sym none-some)))

-- ---- document 02, L2
pub read_once : (text : List ℕ) → ReadOnce text
unfolding bytes_read map_lines
read_once text = record {
  within = bytes_within max_lines text;
  whole = λ ls e. let c = checked_some (text_lines text) ls e in bytes_whole max_lines text ls c.1 c.0;
}
