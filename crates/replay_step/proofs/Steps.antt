-- What the step makes a call with is what the record says. Assumes nothing.
use Prim.Native.Nat.{ℕ, ◌+◌, ◌*◌, ◌-◌, ◌≤◌, min}
use mathlib.Core.Path.{◌≡◌, refl, sym, ap, ◌∙◌}
use mathlib.Core.List.{List, ◌++◌}
use native.Mathlib.Omega.{arith}
use lib.Dec.{leb}
use lib.ListN.{length, take, drop, drop_of_length-le}
use borrow.Author.Tests.{leb-true, leb-false}
use Rattle.std.specs.Prelude.{Some, None, Result, Ok, Err}
use Rattle.prelude.specs.Parts.{part, put_at}
use Rattle.prelude.proofs.Tests.{by_test}
use Rattle.prelude.proofs.Lists.{take_min}
use Rattle.prelude.proofs.Parts.{part_range, part_put_same, length_put}
use Rattle.tables.specs.Tables.{State, tables_of}
use Rattle.tables.specs.declared.answer.Answer.TheVariants.{Done}
use Rattle.hierarchy.specs.KernelStarts.{quick}
use Rattle.credentials.specs.Calls.{group_list}
use Rattle.tables.specs.declared.answer.Errno.{Errno}
use Rattle.tables.specs.Reply.{done}
use Rattle.calls.specs.declared.Response.{Response}
use Rattle.calls.specs.declared.Response.TheVariants.{Plain}
use Rattle.calls.specs.Calls.{Step, answer_by, CallPromise}
use Rattle.journal.specs.Numbers.{number_at}
use Rattle.journal.specs.declared.read.Stopped.{Stopped}
use Rattle.journal.specs.declared.read.Record.{Record}
use Rattle.journal.specs.Reading.{Read, read_at, list_after, ids_at}
use Rattle.journal.proofs.Gets.{length_tab}
use Rattle.journal.proofs.Inside.{found_inside}
use Rattle.replay_step.specs.Replay.{behind, made_of, replay_of}

-- ---- the buffer behind what is lent of it
drop_min : (k : ℕ) (l : List ℕ) → drop (min k (length l)) l ≡ drop k l
drop_min k l =
    by_test (leb k (length l))
    (λ t. let h = leb-true k (length l) t in let e : min k (length l) ≡ k = omega arith in ap (λ (n : ℕ). drop n l) e)
    (λ t.
    let h = leb-false k (length l) t in
    drop_of_length-le l {i = min k (length l)} (omega arith) ∙ sym (drop_of_length-le l {i = k} (omega arith)))

-- ---- the call of a record
pub call_made : (p : Result Response Errno) (a a' after l list buffer : List ℕ) (r : Record) (s : State) (n : ℕ) → n ≡ min r.buffer (length buffer)
    → CallPromise p a a' after (quick answer_by s r.call (take (r.tail + r.text - r.tail) (drop r.tail l)) (take r.ids list) (take n buffer))
    → CallPromise p a a' (after ++ drop n buffer) (made_of s r l list buffer)
call_made p a a' after l list buffer r s n e h =
    let text = part_range r.text r.tail l in
    let front : take n buffer ≡ take r.buffer buffer = rw e (sym (take_min r.buffer buffer)) in
    let rest : drop n buffer ≡ drop r.buffer buffer = rw e (drop_min r.buffer buffer) in
    let made = rw (text, front) at h in
    rw rest (record { outcome = ap (λ (o : Step). behind o (drop r.buffer buffer)) made.outcome; whole = made.whole; kept = made.kept })

-- ---- a record that was found
module _ (l : List ℕ) (at : ℕ) (read : Read) (e : read ≡ read_at l at) (r : Record) (p : read ≡ Ok (Some r)) where
  found_is : read_at l at ≡ Ok (Some r)
  found_is = sym e ∙ p

  pub found_text : r.tail + r.text ≤ length l
  found_text = (found_inside l at r found_is).text_inside

  pub found_few : (n : ℕ) → n ≡ 16381 → r.ids ≤ n
  found_few n q = rw q (found_inside l at r found_is).few_ids

  pub found_both : (n : ℕ) → n ≡ 16381 → (r.tail + r.text ≤ length l) × (r.ids ≤ n)
  found_both n q = (found_text, found_few n q)

  module _ (list list' : List ℕ) (full : length list' ≡ 16381) (q : list' ≡ list_after l (read_at l at) list) where
    put : list' ≡ put_at list 0 (ids_at l r)
    put = rw found_is at q

    ids_taken : take r.ids list' ≡ ids_at l r
    unfolding part
    ids_taken =
        let long : length (ids_at l r) ≡ r.ids = length_tab (λ (i : ℕ). number_at 4 (r.tail + 4 * i) l) r.ids 0 in
        let few = (found_inside l at r found_is).few_ids in
        let kept : length list ≡ 16381 = sym (ap length put ∙ length_put list 0 (ids_at l r)) ∙ full in
        rw put (rw long at (part_put_same list 0 (ids_at l r) (omega arith)))

    pub found_made : (m : Result Response Errno) (a a' after buffer : List ℕ) (s : State) → CallPromise m a a' after (made_of s r l list' buffer)
        → CallPromise m a a' after (replay_of s l (read_at l at) buffer)
    unfolding replay_of
    found_made m a a' after buffer s h = rw (found_is, ← ids_taken) h

-- ---- no record
nothing_made : (a buffer : List ℕ) (step : Step) → step ≡ record { reply = done; tables = tables_of a; buffer = buffer } → CallPromise (Ok (Plain Done)) a a buffer step
unfolding group_list
nothing_made a buffer step q = rw q (record { outcome = refl; whole = refl; kept = λ t. refl })

module _ (l : List ℕ) (at : ℕ) (a buffer : List ℕ) where
  pub end_made : read_at l at ≡ Ok None → CallPromise (Ok (Plain Done)) a a buffer (replay_of (tables_of a) l (read_at l at) buffer)
  unfolding replay_of
  end_made p = nothing_made a buffer (replay_of (tables_of a) l (read_at l at) buffer) (rw p)

  pub stop_made : (stop : Stopped) → read_at l at ≡ Err stop → CallPromise (Ok (Plain Done)) a a buffer (replay_of (tables_of a) l (read_at l at) buffer)
  unfolding replay_of
  stop_made stop p = nothing_made a buffer (replay_of (tables_of a) l (read_at l at) buffer) (rw p)
