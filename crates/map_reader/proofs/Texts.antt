-- The reader's loop over the lines of a text, turn by turn, in the words of the code: the lines are read as `idmap` reads
-- them, and the bytes beside them. Assumes nothing.
use Rattle.std.proofs.Common.{◌≡◌, ℕ, suc, ◌+◌, ◌-◌, ◌^◌, ◌<◌, ◌≤◌, true, false, List, [], ◌∷◌, length, take, drop, set, replicate, sym, refl, ap, ◌∙◌, arith, length-drop, w64, Fits, Option, Some, None, Result, Ok, Err}
use Rattle.prelude.proofs.Lists.{rest_is}
use Rattle.idmap.specs.declared.Line.{Line}
use Rattle.idmap.specs.declared.MapLines.{MapLines}
use Rattle.map_reader.specs.declared.text.Seen.{Seen}
use Rattle.map_reader.specs.declared.text.TextRead.{TextRead}
use Rattle.idmap.specs.Line.{no_line}
use Rattle.idmap.specs.Good.{max_lines, good_of}
use Rattle.idmap.specs.Text.{text_lines, map_lines, map_text}
use Rattle.map_reader.specs.Scan.{scan_line, line_then, bytes_from, bytes_read, text_read}
use Rattle.idmap.specs.Scan as Plain
use Rattle.idmap.proofs.Texts as Lines
use Rattle.idmap.proofs.Texts.{lines_from}
use Rattle.map_reader.proofs.Scans.{Places, seen_within, line_places}
use Rattle.map_reader.proofs.Same.{told_line, line_told}
use Rattle.map_reader.proofs.ReadOnce.{bytes_step, bytes_none, bytes_end}

-- the bytes that are read of a text, of which n were read for k lines and those left follow
pub bytes_left : List ℕ → ℕ → ℕ → ℕ
bytes_left left k n = n + bytes_from (max_lines - k) left

pub bytes_start : (s : List ℕ) → bytes_read s ≡ bytes_left s 0 0
unfolding bytes_read bytes_left
bytes_start s = omega arith

-- what is answered is what the map is and how many bytes are read
read_is : (s : List ℕ) (map : Option MapLines) (bytes : ℕ) → map ≡ map_text (map_lines s) → bytes ≡ bytes_read s → ◌≡◌ {A = TextRead} (record { map = map; bytes = bytes }) (text_read s)
unfolding text_read
read_is s map bytes e f = rw (e, f)

none_of : (l : List ℕ) → length l ≡ 0 → l ≡ []
none_of [] e = refl
none_of (x ∷ l) e = absurd (omega arith)

-- so many bytes more
module _ (s left : List ℕ) (at u : ℕ) (cut : at + length left ≡ length s) (h : u ≤ length left) where
  pub bytes_fit : length s < 2 ^ 64 → Fits w64 (at + u)
  bytes_fit room = omega arith

  pub cut_next : at + u + length (take (length left - u) (drop u left)) ≡ length s
  cut_next = let d = length-drop u left in rw (rest_is left u) (omega arith)

module _ (s left : List ℕ) (ls : List Line) (n at : ℕ) (inv : text_lines s ≡ lines_from left ls n) (count : bytes_read s ≡ bytes_left left n at) where
  pub read_full : 0 < length left → n ≡ max_lines → length ls ≡ max_lines → ◌≡◌ {A = TextRead} (record { map = None; bytes = at }) (text_read s)
  unfolding bytes_left
  read_full h e k =
      let m : max_lines - n ≡ 0 = omega arith in
      let x : bytes_read s ≡ at + bytes_from 0 left = rw m at count in
      let y = bytes_none left in
      read_is s None at (Lines.lines_full s left ls n inv h e k) (omega arith)

  -- nothing is left
  module _ (end : length left ≡ 0) (small : n ≤ max_lines) (k : length ls ≡ max_lines) where
    all_bytes : at ≡ bytes_read s
    unfolding bytes_left
    all_bytes =
        let x : bytes_read s ≡ at + bytes_from (max_lines - n) [] = rw (none_of left end) at count in
        let y = bytes_end (max_lines - n) in
        omega arith

    pub read_none : n ≡ 0 → ◌≡◌ {A = TextRead} (record { map = None; bytes = at }) (text_read s)
    read_none z = read_is s None at (Lines.lines_none s left ls n inv end small k z) all_bytes

    pub read_bad : (n ≡ 0 → ⊥) → good_of (take n ls) ≡ false → ◌≡◌ {A = TextRead} (record { map = None; bytes = at }) (text_read s)
    read_bad z g = read_is s None at (Lines.lines_bad s left ls n inv end small k z g) all_bytes

    pub read_good : drop n ls ≡ replicate (max_lines - n) no_line → (n ≡ 0 → ⊥) → good_of (take n ls) ≡ true
        → ◌≡◌ {A = TextRead} (record { map = Some (record { count = n; lines = ls }); bytes = at }) (text_read s)
    read_good d z g = read_is s _ at (Lines.lines_good s left ls n inv end small k d z g) all_bytes

  -- a turn
  module _ (r : Result (Line × Seen) Seen) (f : r ≡ scan_line left) (h : 0 < length left) where
    told : told_line r ≡ Plain.scan_line left
    told = ap told_line f ∙ line_told left

    places : Places left r
    places = rw f (line_places left)

    pub end_within : (l : Line) (c : Seen) → r ≡ Ok (l, c) → c.bytes ≤ length left
    end_within l c e = seen_within left c (rw e at places)

    pub broken_within : (c : Seen) → r ≡ Err c → c.bytes ≤ length left
    broken_within c e = seen_within left c (rw e at places)

    module _ (small : n ≤ max_lines) (more : n ≡ max_lines → ⊥) where
      bytes_next : bytes_read s ≡ at + line_then r (λ u. bytes_from (max_lines - (n + 1)) (drop u left))
      unfolding bytes_left
      bytes_next =
          let m : max_lines - n ≡ suc (max_lines - (n + 1)) = omega arith in
          count ∙ rw (m, bytes_step (max_lines - (n + 1)) left h, ← f)

      pub read_broken : (c : Seen) → r ≡ Err c → ◌≡◌ {A = TextRead} (record { map = None; bytes = at + c.bytes }) (text_read s)
      read_broken c e = read_is s None (at + c.bytes) (Lines.line_broken s left ls n inv (told_line r) told h (ap told_line e)) (sym (rw e at bytes_next))

      module _ (l : Line) (c : Seen) (e : r ≡ Ok (l, c)) where
        pub line_next : length ls ≡ max_lines → text_lines s ≡ lines_from (take (length left - c.bytes) (drop c.bytes left)) (set ls n l) (n + 1)
        line_next k = Lines.line_next s left ls n inv (told_line r) told h small more k l c.bytes (ap told_line e)

        pub bytes_again : bytes_read s ≡ bytes_left (take (length left - c.bytes) (drop c.bytes left)) (n + 1) (at + c.bytes)
        unfolding bytes_left
        bytes_again = (rw e at bytes_next) ∙ rw (rest_is left c.bytes) (let a = at in omega arith)
