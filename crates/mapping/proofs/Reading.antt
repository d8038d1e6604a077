-- The read of a map: the lines that are put, line by line, and the text that they are. Assumes nothing.
use Rattle.records.specs.declared.MapState.{MapState}
use Rattle.records.specs.declared.MapState.TheVariants.{Unwritten, Written}
use Prim.Native.Nat.{ℕ, ◌+◌, ◌*◌, ◌≤◌, ◌<◌, min}
use mathlib.Core.Path.{◌≡◌, refl, sym, ap, ◌∙◌}
use mathlib.Core.List.{List, [], ◌∷◌, ◌++◌, map, append_assoc, append-nil}
use native.Mathlib.Numerals.{add-one}
use native.Mathlib.Omega.{arith}
use lib.Dec.{leb}
use lib.ListN.{length, get_or, take, drop, length-append, length-map}
use lib.Seq.{drop-append-add, drop-drop, length-take-le, take_all, take-append_seam, take-suc}
use borrow.Author.Tests.{leb-true, leb-false}
use Rattle.prelude.proofs.Tests.{by_test}
use Rattle.prelude.specs.Parts.{put_at}
use Rattle.prelude.proofs.Parts.{fits_inside, fits_outside, put_inside, put_outside, length_put}
use Rattle.idmap.specs.declared.Line.{Line}
use Rattle.idmap.specs.Good.{max_lines}
use Rattle.idmap.specs.Show.{line_bytes, line_text, lines_text}
use Rattle.idmap.proofs.Shows.{length_line_text, length_lines_text}
use Rattle.records.specs.declared.Kind.{Kind}
use Rattle.records.specs.declared.IdMap.{IdMap}
use Rattle.records.specs.Records.{map_in, lines_if}
use Rattle.tables.specs.Tables.{State, namespace_at}
use Rattle.tables.specs.Reply.{refused, bytes}
use Rattle.hierarchy.specs.Walks.{Translation}
use Rattle.mapping.specs.Calls.{ReadOutcome, read_text, shown_line, line_count, map_text_of}

pub count_bounded : (st : MapState) (k : ℕ) → k ≡ line_count st → k ≤ 5
count_bounded Unwritten k e = omega arith
count_bounded (Written n) k e = omega arith

-- ---- put_lines
-- what is put after what stands at the front is put with it
module _ (b x y : List ℕ) (fits : length x + length y ≤ length b) where
  put_front : put_at b 0 x ≡ x ++ drop (length x) b
  put_front = let z : 0 + length x ≡ length x = omega arith in put_inside b 0 x (omega arith) ∙ rw z

  put_next : put_at (put_at b 0 x) (length x) y ≡ put_at b 0 (x ++ y)
  put_next =
      let z : 0 + length (x ++ y) ≡ length x + length y = omega (arith, length-append x y) in
      put_inside (put_at b 0 x) (length x) y (rw length_put fits)
      ∙ rw (put_front, take-append_seam x (drop (length x) b), drop-append-add x (drop (length x) b) (length y), drop-drop (length y) (length x) b)
      (sym (put_inside b 0 (x ++ y) (omega (arith, length-append x y)) ∙ rw z))

lines_text_snoc : (ls : List Line) (l : Line) → lines_text (ls ++ (l ∷ [])) ≡ lines_text ls ++ line_text l
unfolding lines_text
lines_text_snoc [] l = append-nil (line_text l)
lines_text_snoc (k ∷ ls) l = rw (lines_text_snoc ls l) (sym (append_assoc (line_text k) (lines_text ls) (line_text l)))

map_snoc : (f : Line → Line) (ls : List Line) (l : Line) → map f (ls ++ (l ∷ [])) ≡ map f ls ++ (f l ∷ [])
map_snoc f [] l = refl
map_snoc f (k ∷ ls) l = ap (λ (r : List Line). f k ∷ r) (map_snoc f ls l)

module _ (by : Translation) (s : State) (kind : Kind) (n v : ℕ) (b : List ℕ) (ls : List Line) where
  -- the first i lines are in place
  pub Stored : List ℕ → ℕ → Type 0
  Stored t i = t ≡ put_at b 0 (lines_text (map (shown_line by s kind n v) (take i ls)))

  pub lines_start : Stored b 0
  unfolding Stored lines_text
  lines_start = sym (put_front b [] [] (omega arith))

  module _ (t : List ℕ) (i : ℕ) (inv : Stored t i) where
    pub lines_step : (d l : Line) (t' : List ℕ) → length ls * line_bytes ≤ length b → i < length ls
        → l ≡ shown_line by s kind n v (get_or ls i d) → t' ≡ put_at t (i * line_bytes) (line_text l) → Stored t' (i + 1)
    unfolding Stored
    lines_step d l t' room h e q =
        let before = map (shown_line by s kind n v) (take i ls) in
        let k : length (take i ls) ≡ i = length-take-le i ls (omega arith) in
        let z : length (lines_text before) ≡ i * line_bytes = omega (arith, length_lines_text before, length-map (take i ls) (shown_line by s kind n v)) in
        let f : length (lines_text before) + length (line_text l) ≤ length b = omega (arith, length_line_text l) in
        let text : lines_text (map (shown_line by s kind n v) (take (i + 1) ls)) ≡ lines_text before ++ line_text l =
        rw (add-one, take-suc ls i d (omega arith), map_snoc, lines_text_snoc, e) in
        rw (q, inv, ← z, text) (put_next b (lines_text before) (line_text l) f)

    pub lines_end : i ≡ length ls → t ≡ put_at b 0 (lines_text (map (shown_line by s kind n v) ls))
    unfolding Stored
    lines_end e = inv ∙ ap (λ (l : List Line). put_at b 0 (lines_text (map (shown_line by s kind n v) l))) (take_all i ls (omega arith))

  pub length_stored : (t : List ℕ) (i : ℕ) → Stored t i → length t ≡ length b
  unfolding Stored
  length_stored t i e = ap length e ∙ length_put b 0 _

-- ---- read_map
-- a map's lines are the first of its places
lines_counted : (st : MapState) (ls : List Line) → length ls ≡ max_lines → lines_if st ls ≡ take (line_count st) ls
lines_counted Unwritten ls e = refl
lines_counted (Written n) ls e = by_test (leb n 5)
    (λ t. let h = leb-true n max_lines t in let k : n ≡ min n max_lines = omega arith in rw (← k))
    (λ t. let h = leb-false n max_lines t in take_all n ls (omega arith) ∙ sym (take_all (min n max_lines) ls (omega arith)))

module _ (by : Translation) (s : State) (kind : Kind) (n v : ℕ) (m : IdMap) (read : m ≡ map_in kind (namespace_at s n)) (long : length m.lines ≡ max_lines) (k : ℕ) (count : k ≡ line_count m.state) (b : List ℕ) where
  text_lem : map_text_of by s kind n v ≡ lines_text (map (shown_line by s kind n v) (take k m.lines))
  unfolding map_text_of
  text_lem = rw (← read, lines_counted m.state m.lines long, ← count)

  length_text : length (lines_text (map (shown_line by s kind n v) (take k m.lines))) ≡ k * line_bytes
  length_text =
      let bound = count_bounded m.state k count in
      let front : length (take k m.lines) ≡ k = length-take-le k m.lines (omega arith) in
      omega (arith, length_lines_text (map (shown_line by s kind n v) (take k m.lines)), length-map (take k m.lines) (shown_line by s kind n v))

  -- a buffer that is too short, and one that is not
  pub map_short : length b < k * line_bytes → ◌≡◌ {A = ReadOutcome} (record { reply = refused 34; buffer = b }) (read_text (map_text_of by s kind n v) b)
  unfolding read_text
  map_short h =
      let text = lines_text (map (shown_line by s kind n v) (take k m.lines)) in
      let over : length b < 0 + length text = omega (arith, length_text) in
      rw (text_lem, fits_outside b 0 text over, put_outside b 0 text over)

  pub map_read : (b' : List ℕ) → k * line_bytes ≤ length b → b' ≡ put_at b 0 (lines_text (map (shown_line by s kind n v) (take k m.lines)))
      → ◌≡◌ {A = ReadOutcome} (record { reply = bytes (k * line_bytes); buffer = b' }) (read_text (map_text_of by s kind n v) b)
  unfolding read_text
  map_read b' h q =
      let text = lines_text (map (shown_line by s kind n v) (take k m.lines)) in
      let under : 0 + length text ≤ length b = omega (arith, length_text) in
      rw (text_lem, fits_inside b 0 text under, length_text, ← q)
