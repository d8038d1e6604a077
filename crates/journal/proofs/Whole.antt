-- A journal is read as the calls that it was written from, and any bytes as one journal or none. Assumes nothing.
use Prim.Native.Nat.{ℕ, zero, suc, ◌+◌, ◌-◌, ◌≤◌, ◌<◌}
use mathlib.Core.Path.{◌≡◌, refl, sym, ap, ap₂, ◌∙◌}
use mathlib.Core.Bool.{false}
use mathlib.Core.List.{List, [], ◌∷◌, ◌++◌, map, append_assoc, append-nil}
use mathlib.Core.Logic.{◌⊎◌, inl, inr, ⊎_elim}
use native.Mathlib.Omega.{arith}
use lib.Dec.{ltb, eqb}
use lib.ListN.{length, take, drop, length-append, length-drop, drop_of_length-le}
use lib.Seq.{take_at, drop_at, drop-drop, take-append-add, length-take-le}
use borrow.Author.Tests.{lt-ltb, ne_eqb, ltb-true, ltb-false, eqb-true}
use Rattle.std.specs.Prelude.{Some, None, Ok, Err}
use Rattle.prelude.proofs.Tests.{by_test}
use Rattle.calls.specs.Calls.{Request}
use Rattle.journal.specs.declared.read.Stop.{Stop}
use Rattle.journal.specs.declared.read.Stop.TheVariants.{Version, Cut}
use Rattle.journal.specs.Numbers.{big_endian}
use Rattle.journal.specs.Layout.{version, call_by}
use Rattle.journal.specs.Journal.{body_of, record_of, request_record, records_of, journal_of}
use Rattle.journal.specs.Reading.{Read, stopped_at, Ending, ended, stopped, Reading, record_in, record_at, read_at, request_at, before, go_on, read_from, read_journal}
use Rattle.journal.specs.Laws.{AllBelow, Writable, AllWritable, recorded, ReadsBack, OneJournal}
use Rattle.journal.proofs.Puts.{length_number}
use Rattle.journal.proofs.Records.{at_end, at_cut}
use Rattle.journal.proofs.BigEndian.{below_append}
use Rattle.journal.proofs.Written.{length_record, record_bytes, record_found, record_cut, request_found}
use Rattle.journal.proofs.Found.{StandsAt, stands}

-- ---- the record at an offset, and what follows it
read_later : (l : List ℕ) (at : ℕ) → 0 < at → read_at l at ≡ record_at l at
unfolding read_at
read_later l at h = rw (lt-ltb 0 at h)

read_step : (n : ℕ) (l : List ℕ) (at : ℕ) (x : Read) → 0 < at → record_at l at ≡ x → read_from (suc n) l at ≡ go_on l x (λ (next : ℕ). read_from n l next)
unfolding read_from
read_step n l at x h e = ap (λ (y : Read). go_on l y (λ (next : ℕ). read_from n l next)) (read_later l at h ∙ e)

-- behind the version byte
read_version : (n : ℕ) (l : List ℕ) → read_from n (version ∷ l) 0 ≡ read_from n (version ∷ l) 1
unfolding read_from read_at
read_version zero l = refl
read_version (suc n) l = let e : eqb (suc (length l)) 0 ≡ false = ne_eqb (suc (length l)) 0 (λ z. omega arith) in rw e

-- ---- records that were written
abbrev behind : List Request → Reading → Reading
behind rs x = record { calls = rs ++ x.calls; ending = x.ending }

-- the reading goes on behind them
reads_on : (rs : List Request) → AllWritable rs → (n : ℕ) (l rest : List ℕ) (at : ℕ) → 0 < at → drop at l ≡ records_of rs ++ rest
    → read_from (length rs + n) l at ≡ behind (map recorded rs) (read_from n l (at + length (records_of rs)))
unfolding records_of
reads_on [] ok n l rest at h e = let z : 0 + n ≡ n = omega arith in let a : at + 0 ≡ at = omega arith in rw (z, a)
reads_on (r ∷ rs) ok n l rest at h e =
    let b = body_of r.call r.text r.list (length r.buffer) in
    let found = record_in at b (call_by r.call [] []) in
    let here : drop at l ≡ request_record r ++ (records_of rs ++ rest) = e ∙ append_assoc (request_record r) (records_of rs) rest in
    let long = length_record r ok.0 in
    let s : suc (length rs) + n ≡ suc (length rs + n) = omega arith in
    let a : at + length (request_record r ++ records_of rs) ≡ at + 2 + length b + length (records_of rs) =
    omega (arith, length-append (request_record r) (records_of rs)) in
    let after : drop (at + 2 + length b) l ≡ records_of rs ++ rest =
    let k : at + length (request_record r) ≡ at + 2 + length b = omega arith in
    rw (← k) (sym (drop-drop (length (request_record r)) at l) ∙ ap (drop (length (request_record r))) here ∙ drop_at (request_record r) (records_of rs ++ rest) (length (request_record r)) refl) in
    rw (s, a)
    (read_step (length rs + n) l at (Ok (Some found)) h (record_found r ok.0 l (records_of rs ++ rest) at here)
    ∙ ap₂ before (request_found r ok.0 l (records_of rs ++ rest) at here) (reads_on rs ok.1 n l rest (at + 2 + length b) (omega arith) after))

-- they have no fewer bytes than calls
many_bytes : (rs : List Request) → AllWritable rs → length rs ≤ length (records_of rs)
unfolding records_of
many_bytes [] ok = omega arith
many_bytes (r ∷ rs) ok = omega (arith, length-append (request_record r) (records_of rs), length_record r ok.0, many_bytes rs ok.1)

-- what is written is bytes
records_bytes : (rs : List Request) → AllWritable rs → AllBelow 256 (records_of rs)
unfolding records_of
records_bytes [] ok = tt
records_bytes (r ∷ rs) ok = below_append 256 (request_record r) (records_of rs) (record_bytes r ok.0) (records_bytes rs ok.1)

pub journal_bytes : (rs : List Request) → AllWritable rs → AllBelow 256 (journal_of rs)
journal_bytes rs ok = (omega arith, records_bytes rs ok)

-- a journal with bytes behind it
module _ (rs : List Request) (ok : AllWritable rs) (rest : List ℕ) where
  abbrev l : List ℕ
  l = journal_of rs ++ rest

  abbrev past : ℕ
  past = length (journal_of rs)

  -- so much is left to read with
  abbrev left : ℕ
  left = length (records_of rs) + length rest + 1 - length rs

  reads_past : read_journal l ≡ behind (map recorded rs) (read_from (suc left) l past)
  reads_past =
      let few = many_bytes rs ok in
      let fuel : suc (suc (length (records_of rs ++ rest))) ≡ length rs + suc left = omega (arith, length-append (records_of rs) rest) in
      let p : 1 + length (records_of rs) ≡ past = omega arith in
      read_version (suc (length l)) (records_of rs ++ rest)
      ∙ ap (λ (k : ℕ). read_from k l 1) fuel
      ∙ reads_on rs ok (suc left) l rest 1 (omega arith) refl
      ∙ ap (λ (k : ℕ). behind (map recorded rs) (read_from (suc left) l k)) p

  past_here : drop past l ≡ rest
  past_here = drop_at (journal_of rs) rest past refl

  reads_end : (x : Read) → record_at l past ≡ x → read_journal l ≡ behind (map recorded rs) (go_on l x (λ (next : ℕ). read_from left l next))
  reads_end x e = reads_past ∙ ap (behind (map recorded rs)) (read_step left l past x (omega arith) e)

-- a record that is cut
cut_record : (r : Request) (k : ℕ) (l : List ℕ) (at : ℕ) → Writable r → 0 < k → k < length (request_record r) → drop at l ≡ take k (request_record r)
    → record_at l at ≡ stopped_at at Cut
unfolding record_of
cut_record r k l at ok h short e =
    let b = body_of r.call r.text r.list (length r.buffer) in
    let size = big_endian 2 (length b) in
    let wide = length_number 2 (length b) in
    let long = length_record r ok in
    let left : length l - at ≡ k = sym (length-drop at l) ∙ ap length e ∙ length-take-le k (request_record r) (omega arith) in
    by_test (ltb k 2) (λ t. let m = ltb-true k 2 t in sym (at_cut l at (omega arith) (omega arith)))
    (λ t.
    let m = ltb-false k 2 t in
    let s : k ≡ length size + (k - 2) = omega arith in
    let split : drop at l ≡ size ++ take (k - 2) b = e ∙ ap (λ (i : ℕ). take i (size ++ b)) s ∙ take-append-add size b (k - 2) in
    record_cut r ok l (take (k - 2) b) at split (omega (arith, length-take-le (k - 2) b (omega arith))))

pub reads_back : (rs : List Request) → AllWritable rs → ReadsBack rs
reads_back rs ok = record {
  whole =
      let j = journal_of rs in
      let e : j ++ [] ≡ j = append-nil j in
      let full : length (j ++ []) ≡ length j = ap length e in
      ap read_journal (sym e) ∙ reads_end rs ok [] (Ok None) (sym (at_end (j ++ []) (length j) (omega arith))) ∙ rw (append-nil (map recorded rs));
  stand = λ rest. ((read_from (suc (left rs ok rest)) (l rs ok rest) (past rs ok rest)).calls, ap (λ (x : Reading). x.calls) (reads_past rs ok rest));
  cut = λ r k w h short.
      let rest = take k (request_record r) in
      reads_end rs ok rest (stopped_at (length (journal_of rs)) Cut) (cut_record r k (journal_of rs ++ rest) (length (journal_of rs)) w h short (past_here rs ok rest))
      ∙ rw (append-nil (map recorded rs));
}

-- ---- any bytes
-- where a reading ends
abbrev EndsAt : List ℕ → ℕ → Ending → Type 0
EndsAt l to ended = length l ≤ to
EndsAt l to (stopped o why) = (o ≡ to) × (to < length l)

-- the bytes from an offset on, up to where the reading ends, are the records of what was read
record ReadTo (l : List ℕ) (at : ℕ) (x : Reading) : Type 0 where
  to : ℕ
  to_is : to ≡ at + length (records_of x.calls)
  same_bytes_lem : drop at l ≡ records_of x.calls ++ drop to l
  ends : EndsAt l to x.ending
  fits : AllWritable x.calls

reads_next : (l : List ℕ) (at : ℕ) (next : ℕ → Reading) → ((k : ℕ) → at < k → k ≤ length l → ReadTo l k (next k)) → (x : Read) → StandsAt l at x
    → ReadTo l at (go_on l x next)
unfolding records_of
reads_next l at next then (Ok (Some f)) s =
    let t = then f.next s.goes_on s.inside in
    let r = request_record (request_at l f) in
    let rs = records_of (next f.next).calls in
    record {
      to = t.to;
      to_is = omega (arith, length-append r rs, s.next_is, t.to_is);
      same_bytes_lem = s.same_bytes_lem ∙ ap (λ (y : List ℕ). r ++ y) t.same_bytes_lem ∙ sym (append_assoc r rs (drop t.to l));
      ends = t.ends;
      fits = (s.fits, t.fits);
    }
reads_next l at next then (Ok None) s = record { to = at; to_is = omega arith; same_bytes_lem = refl; ends = s; fits = tt }
reads_next l at next then (Err stop) s = record { to = at; to_is = omega arith; same_bytes_lem = refl; ends = s; fits = tt }

reads_to : (n : ℕ) (l : List ℕ) (at : ℕ) → AllBelow 256 l → 0 < at → length l - at < n → ReadTo l at (read_from n l at)
reads_to zero l at b h few = absurd (omega arith)
reads_to (suc n) l at b h few =
    rw (read_step n l at (record_at l at) h refl)
    (reads_next l at (λ (k : ℕ). read_from n l k) (λ k p q. reads_to n l k b (omega arith) (omega arith)) (record_at l at) (stands l at b))

-- what a reading must have
one_by : (l : List ℕ) (x : Reading) → read_journal l ≡ x → (x.ending ≡ ended → l ≡ journal_of x.calls)
    → ((o : ℕ) (why : Stop) → x.ending ≡ stopped o why
    → ((o ≡ 0) × (why ≡ Version) × (x.calls ≡ [])) ⊎ ((o < length l) × (take o l ≡ journal_of x.calls))) → AllWritable x.calls → OneJournal l
one_by l x e f g w = record { is_journal = rw e f; stops = rw e g; writable = rw e w }

no_version : (l : List ℕ) → read_journal l ≡ record { calls = []; ending = stopped 0 Version } → OneJournal l
no_version l e =
    one_by l (record { calls = []; ending = stopped 0 Version }) e (λ q. cc) (λ o why q. inl (cc, cc, refl)) tt

module _ (l : List ℕ) (bytes : AllBelow 256 (version ∷ l)) where
  abbrev read : Reading
  read = read_from (suc (suc (length l))) (version ∷ l) 1

  read_to : ReadTo (version ∷ l) 1 read
  read_to = reads_to (suc (suc (length l))) (version ∷ l) 1 bytes (omega arith) (omega arith)

  all_bytes : version ∷ l ≡ journal_of read.calls ++ drop read_to.to (version ∷ l)
  all_bytes = ap (λ (y : List ℕ). version ∷ y) read_to.same_bytes_lem

  known_version : OneJournal (version ∷ l)
  known_version =
      one_by (version ∷ l) read (read_version (suc (suc (length l))) l)
      (λ q.
      let full : length (version ∷ l) ≤ read_to.to = rw q at read_to.ends in
      all_bytes ∙ rw (drop_of_length-le (version ∷ l) {i = read_to.to} full) (append-nil (journal_of read.calls)))
      (λ o why q.
      let here : (o ≡ read_to.to) × (read_to.to < length (version ∷ l)) = rw q at read_to.ends in
      inr (
        omega arith,
        ap (take o) all_bytes ∙ take_at (journal_of read.calls) (drop read_to.to (version ∷ l)) o (omega (arith, read_to.to_is)),
      ))
      read_to.fits

-- either the version byte is there, or nothing is read
starts : (l : List ℕ) → ((others : List ℕ) × (l ≡ version ∷ others)) ⊎ (read_at l 0 ≡ stopped_at 0 Version)
unfolding read_at
starts [] = inr refl
starts (x ∷ l) =
    let e : eqb (suc (length l)) 0 ≡ false = ne_eqb (suc (length l)) 0 (λ z. omega arith) in
    by_test (eqb x version) (λ t. inl (l, ap (λ (y : ℕ). y ∷ l) (eqb-true x version t))) (λ t. inr (rw (e, t)))

stops_first : (n : ℕ) (l : List ℕ) → read_at l 0 ≡ stopped_at 0 Version → read_from (suc n) l 0 ≡ record { calls = []; ending = stopped 0 Version }
unfolding read_from
stops_first n l e = ap (λ (x : Read). go_on l x (λ (next : ℕ). read_from n l next)) e

pub one_journal : (l : List ℕ) → AllBelow 256 l → OneJournal l
one_journal l b =
    ⊎_elim {C = OneJournal l}
    (λ s. rw s.1 (known_version s.0 (rw s.1 at b)))
    (λ e. no_version l (stops_first (length l) l e))
    (starts l)

-- two journals that are read to their end as the same calls are one
pub same_journal : (l l' : List ℕ) → AllBelow 256 l → AllBelow 256 l' → (read_journal l).ending ≡ ended → (read_journal l').ending ≡ ended
    → (read_journal l).calls ≡ (read_journal l').calls → l ≡ l'
same_journal l l' b b' e e' same = (one_journal l b).is_journal e ∙ ap journal_of same ∙ sym ((one_journal l' b').is_journal e')

-- what a journal does not keep of its calls makes no difference to it
pub recorded_journal : (rs : List Request) → AllWritable rs → journal_of (map recorded rs) ≡ journal_of rs
recorded_journal rs ok =
    let back = (reads_back rs ok).whole in
    let is : journal_of rs ≡ journal_of (read_journal (journal_of rs)).calls =
    (one_journal (journal_of rs) (journal_bytes rs ok)).is_journal (ap (λ (x : Reading). x.ending) back) in
    sym (is ∙ ap (λ (x : Reading). journal_of x.calls) back)

-- ---- all of a journal is read: more steps read nothing more
same_next : (l : List ℕ) (at : ℕ) (f g : ℕ → Reading) → ((k : ℕ) → at < k → k ≤ length l → f k ≡ g k) → (x : Read) → StandsAt l at x
    → go_on l x f ≡ go_on l x g
same_next l at f g e (Ok (Some r)) s = ap (before (request_at l r)) (e r.next s.goes_on s.inside)
same_next l at f g e (Ok None) s = refl
same_next l at f g e (Err stop) s = refl

more_steps : (n m : ℕ) (l : List ℕ) (at : ℕ) → AllBelow 256 l → 0 < at → length l - at < n → length l - at < m → read_from n l at ≡ read_from m l at
more_steps zero m l at b h p q = absurd (omega arith)
more_steps (suc n) zero l at b h p q = absurd (omega arith)
more_steps (suc n) (suc m) l at b h p q =
    read_step n l at (record_at l at) h refl
    ∙ same_next l at (λ (k : ℕ). read_from n l k) (λ (k : ℕ). read_from m l k)
    (λ k j i. more_steps n m l k b (omega arith) (omega arith) (omega arith)) (record_at l at) (stands l at b)
    ∙ sym (read_step m l at (record_at l at) h refl)

pub reads_all : (n : ℕ) (l : List ℕ) → AllBelow 256 l → length l < n → read_from n l 0 ≡ read_journal l
reads_all zero l b h = absurd (omega arith)
reads_all (suc n) l b h =
    ⊎_elim {C = read_from (suc n) l 0 ≡ read_journal l}
    (λ s.
    let j = version ∷ s.0 in
    let e = s.1 in
    let long : length l ≡ length j = ap length e in
    ap (λ (x : List ℕ). read_from (suc n) x 0) e
    ∙ read_version (suc n) s.0
    ∙ more_steps (suc n) (suc (length j)) j 1 (rw e at b) (omega arith) (omega arith) (omega arith)
    ∙ sym (read_version (suc (length j)) s.0)
    ∙ ap read_journal (sym e))
    (λ e. stops_first n l e ∙ sym (stops_first (length l) l e))
    (starts l)
