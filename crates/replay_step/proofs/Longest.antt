-- A buffer of the longest text serves for any longer one. Assumes nothing.
use Rattle.std.specs.Prelude.{Option, Some, None}
use Prim.Native.Nat.{ℕ, ◌+◌, ◌*◌, ◌≤◌, min}
use mathlib.Core.Path.{◌≡◌, refl, sym, ap, ◌∙◌}
use mathlib.Core.Bool.{Bool, true, false}
use mathlib.Core.List.{List, [], ◌∷◌, ◌++◌, map, append_assoc, append-nil}
use native.Mathlib.Omega.{arith}
use lib.Dec.{leb}
use lib.ListN.{length, take, drop, replicate, length-take, length-append, length-map, length-replicate}
use lib.Seq.{take-append_seam}
use borrow.Author.Tests.{le-leb, lt-leb, leb-true, leb-false}
use Rattle.prelude.specs.Parts.{part, fits_at, put_at}
use Rattle.prelude.proofs.Tests.{by_test}
use Rattle.prelude.proofs.Parts.{put_inside}
use Rattle.idmap.specs.declared.Line.{Line}
use Rattle.idmap.specs.Show.{shown, number_text, line_columns, line_text, lines_text}
use Rattle.records.specs.declared.Kind.{Kind}
use Rattle.records.specs.Records.{map_in, lines_of}
use Rattle.tables.specs.Tables.{State, process_at, namespace_at}
use Rattle.tables.specs.Find.{caller_named, process_named}
use Rattle.tables.specs.Reply.{refused, bytes, on_found}
use Rattle.hierarchy.specs.KernelStarts.{by_kernel_starts, quick}
use Rattle.mapping.specs.Calls.{ReadOutcome, read_text, view_of, shown_line, map_text_of, read_map_of, setting_text, read_setgroups_of}
use Rattle.calls.specs.declared.Call.{Call}
use Rattle.calls.specs.declared.Call.TheVariants.{Fork, Clone, Unshare, Setns, WriteMap, WriteSetgroups, ReadMap, ReadSetgroups, SetIds, SetGroups, Capable, Drop, OwnIdsOf, Translate}
use Rattle.calls.specs.Calls.{Step, answer_by}
use Rattle.journal.specs.declared.layout.Lent.TheVariants.{Buffer}
use Rattle.journal.specs.Layout.{form_of}
use Rattle.journal.specs.declared.read.Record.{Record}
use Rattle.journal.specs.Reading.{ids_at}
use Rattle.replay_step.specs.Replay.{max_read, replay_of, FewLines, SameAnswer}

-- ---- the texts of reads are short
line_long : (x : Line) → length (line_text x) ≡ 33
unfolding line_text line_columns number_text shown
line_long x = refl

lines_long : (ls : List Line) → length (lines_text ls) ≡ length ls * 33
unfolding lines_text
lines_long [] = refl
lines_long (x ∷ ls) = length-append (line_text x) (lines_text ls) ∙ omega (arith, line_long x, lines_long ls)

map_short : (s : State) (k : Kind) (n v : ℕ) → FewLines s → length (map_text_of (by_kernel_starts s) s k n v) ≤ max_read
unfolding map_text_of
map_short s k n v few =
    let ls = lines_of (map_in k (namespace_at s n)) in
    let f = shown_line (by_kernel_starts s) s k n v in
    omega (arith, lines_long (map f ls), length-map ls f, few k n)

setting_short : (deny : Bool) → length (setting_text deny) ≤ max_read
unfolding setting_text
setting_short true = omega arith
setting_short false = omega arith

-- ---- a text is read into two buffers, of which the one is the other's beginning or has max_read bytes
bytes_same : (a b : ℕ) → bytes a ≡ bytes b → a ≡ b
bytes_same a b e = cc

refused_bytes : (e n : ℕ) → refused e ≡ bytes n → ⊥
refused_bytes e n p = let z : ◌≡◌ {A = ℕ} 0 1 = cc in omega arith

module _ (text b b' : List ℕ) (m : ℕ) (short : length text ≤ max_read) (one : length b ≡ min m max_read) (other : length b' ≡ m) where
  fit_same : fits_at b 0 text ≡ fits_at b' 0 text
  unfolding fits_at
  fit_same =
      by_test (leb (0 + length text) (length b))
      (λ t. let h = leb-true (0 + length text) (length b) t in t ∙ sym (le-leb (0 + length text) (length b') (omega arith)))
      (λ t. let h = leb-false (0 + length text) (length b) t in t ∙ sym (lt-leb (0 + length text) (length b') (omega arith)))

  pub reply_same : (read_text text b).reply ≡ (read_text text b').reply
  unfolding read_text
  reply_same = rw fit_same

-- what was read stands at the buffer's start
front : (text b rest : List ℕ) → fits_at b 0 text ≡ true → take (length text) (put_at b 0 text ++ rest) ≡ text
unfolding fits_at
front text b rest t =
    let h = leb-true (0 + length text) (length b) t in
    let z : 0 + length text ≡ length text = omega arith in
    rw (put_inside b 0 text h, append_assoc text (drop (0 + length text) b) rest) (take-append_seam text (drop (0 + length text) b ++ rest))

pub text_there : (text b rest : List ℕ) (n : ℕ) → (read_text text b).reply ≡ bytes n → take n ((read_text text b).buffer ++ rest) ≡ text
unfolding read_text
text_there text b rest n e =
    by_test (fits_at b 0 text)
    (λ t. let q : length text ≡ n = bytes_same (length text) n (rw t at e) in rw (← q) (front text b rest t))
    (λ t. absurd (refused_bytes 34 n (rw t at e)))

-- ---- a read finds its caller, what this names, and the text
abbrev reading_of : Option ℕ → (ℕ → Option ℕ) → (ℕ → ℕ → List ℕ) → List ℕ → ReadOutcome
reading_of x y text b =
    on_found x (record { reply = refused 3; buffer = b }) (λ r. on_found (y r) (record { reply = refused 3; buffer = b }) (λ p. read_text (text r p) b))

-- of two readings the answers are the same, and the bytes read
Alike : ReadOutcome → ReadOutcome → List ℕ → Type 0
Alike o o' rest = (o.reply ≡ o'.reply) × ((n : ℕ) → o.reply ≡ bytes n → take n (o.buffer ++ rest) ≡ take n o'.buffer)

module _ (b b' rest : List ℕ) (m : ℕ) (one : length b ≡ min m max_read) (other : length b' ≡ m) where
  refused_alike : Alike (record { reply = refused 3; buffer = b }) (record { reply = refused 3; buffer = b' }) rest
  unfolding Alike
  refused_alike = (refl, λ n e. absurd (refused_bytes 3 n e))

  text_alike : (text : List ℕ) → length text ≤ max_read → Alike (read_text text b) (read_text text b') rest
  unfolding Alike
  text_alike text short =
      let same = reply_same text b b' m short one other in (
        same,
        λ n e.
            text_there text b rest n e ∙ sym (ap (take n) (sym (append-nil (read_text text b').buffer)) ∙ text_there text b' [] n (sym same ∙ e)),
      )

  named_alike : (x : Option ℕ) (text : ℕ → List ℕ) → ((p : ℕ) → length (text p) ≤ max_read)
      → Alike (on_found x (record { reply = refused 3; buffer = b }) (λ p. read_text (text p) b)) (on_found x (record { reply = refused 3; buffer = b' }) (λ p. read_text (text p) b')) rest
  named_alike (Some p) text short = text_alike (text p) (short p)
  named_alike None text short = refused_alike

  reading_alike : (x : Option ℕ) (y : ℕ → Option ℕ) (text : ℕ → ℕ → List ℕ) → ((r p : ℕ) → length (text r p) ≤ max_read)
      → Alike (reading_of x y text b) (reading_of x y text b') rest
  reading_alike (Some r) y text short = named_alike (y r) (text r) (short r)
  reading_alike None y text short = refused_alike

-- ---- the call of a record
module _ (s : State) (l : List ℕ) (few : FewLines s) (buffer : List ℕ) (full : length buffer ≡ max_read) where
  module _ (r : Record) where
    abbrev short : List ℕ
    short = take r.buffer buffer

    abbrev whole : List ℕ
    whole = replicate r.buffer 0

    short_long : length short ≡ min r.buffer max_read
    short_long = length-take r.buffer buffer ∙ ap (min r.buffer) full

    whole_long : length whole ≡ r.buffer
    whole_long = length-replicate r.buffer 0

    map_alike : (k : Kind) (c p : ℕ) → Alike (read_map_of (by_kernel_starts s) s k c p short) (read_map_of (by_kernel_starts s) s k c p whole) (drop r.buffer buffer)
    unfolding read_map_of
    map_alike k c p =
        reading_alike short whole (drop r.buffer buffer) r.buffer short_long whole_long (caller_named s c) (λ (i : ℕ). process_named s i p)
        (λ (i j : ℕ). map_text_of (by_kernel_starts s) s k (process_at s j).namespace (view_of s (process_at s i) (process_at s j).namespace))
        (λ i j. map_short s k (process_at s j).namespace (view_of s (process_at s i) (process_at s j).namespace) few)

    setting_alike : (c p : ℕ) → Alike (read_setgroups_of s c p short) (read_setgroups_of s c p whole) (drop r.buffer buffer)
    unfolding read_setgroups_of
    setting_alike c p =
        reading_alike short whole (drop r.buffer buffer) r.buffer short_long whole_long (caller_named s c) (λ (i : ℕ). process_named s i p)
        (λ (i j : ℕ). setting_text (namespace_at s (process_at s j).namespace).deny)
        (λ i j. setting_short (namespace_at s (process_at s j).namespace).deny)

    -- what the record's call is answered with the lent buffer, and with its own
    abbrev lent : Call → Step
    lent c = quick answer_by s c (part r.text r.tail l) (ids_at l r) short

    abbrev own : Call → Step
    own c = quick answer_by s c (part r.text r.tail l) (ids_at l r) whole

    SameBy : Call → Type 0
    SameBy c =
        ((lent c).reply ≡ (own c).reply)
        × ((lent c).tables ≡ (own c).tables)
        × ((form_of c).lent ≡ Buffer → (n : ℕ) → (lent c).reply ≡ bytes n → take n ((lent c).buffer ++ drop r.buffer buffer) ≡ take n (own c).buffer)

    same_by : (c : Call) → SameBy c
    unfolding SameBy answer_by form_of Alike
    same_by (Fork c) = (refl, refl, λ q. cc)
    same_by (Clone c) = (refl, refl, λ q. cc)
    same_by (Unshare c) = (refl, refl, λ q. cc)
    same_by (Setns c n) = (refl, refl, λ q. cc)
    same_by (WriteMap k c p) = (refl, refl, λ q. cc)
    same_by (WriteSetgroups c p) = (refl, refl, λ q. cc)
    same_by (SetIds k c i) = (refl, refl, λ q. cc)
    same_by (SetGroups c) = (refl, refl, λ q. cc)
    same_by (Capable c n number) = (refl, refl, λ q. cc)
    same_by (Drop c p e) = (refl, refl, λ q. cc)
    same_by (OwnIdsOf c) = (refl, refl, λ q. cc)
    same_by (Translate k w c n x) = (refl, refl, λ q. cc)
    same_by (ReadMap k c p) = let h = map_alike k c p in (h.0, refl, λ q. h.1)
    same_by (ReadSetgroups c p) = let h = setting_alike c p in (h.0, refl, λ q. h.1)

    pub same_answer : SameAnswer s l r buffer
    unfolding SameBy replay_of
    same_answer = let h = same_by r.call in record { reply = h.0; tables = h.1; text = h.2 }
