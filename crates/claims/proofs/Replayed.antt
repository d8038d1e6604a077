-- The calls of a journal are calls as any others, and a loop that replays them is document 01's run. Assumes nothing.
use Prim.Native.Nat.{ℕ, zero, suc, ◌+◌, ◌≤◌, ◌<◌}
use mathlib.Core.Path.{◌≡◌, refl, sym, ap, ◌∙◌}
use mathlib.Core.List.{List, [], ◌∷◌, ◌++◌, map, append_assoc, append-nil}
use native.Mathlib.Omega.{arith}
use lib.ListN.{length}
use Rattle.std.specs.Prelude.{Some, None, Ok, Err, Result}
use Rattle.tables.specs.Tables.{tables_of, initial_tables}
use Rattle.tables.specs.Reply.{Reply}
use Rattle.tables.specs.declared.answer.Errno.{Errno}
use Rattle.calls.specs.declared.Response.{Response}
use Rattle.calls.specs.Calls.{Request, call_reply, CallPromise, Step}
use Rattle.journal.specs.declared.read.Record.{Record}
use Rattle.journal.specs.Reading.{Read, Reading, read_at, request_at, go_on, read_from, read_journal}
use Rattle.journal.proofs.Inside.{found_inside}
use Rattle.replay_step.specs.Replay.{max_read, replay_of}
use Rattle.claims.specs.Translation.{by_levels}
use Rattle.claims.specs.History.{Entry, run_from, history_from, run, history, AllFit}
use Rattle.claims.specs.Replaying.{Replayed, Replay, began, stepped, IsRun}
use Rattle.claims.proofs.Theorem.{theorem}
use Rattle.claims.proofs.Bounds.{bounds}
use Rattle.claims.proofs.RecordCalls.{read_fits, from_fits, reply_document, tables_document}
use Rattle.claims.proofs.Executes.{run_more, history_more, fits_more}

pub replayed : (l : List ℕ) → Replayed l
replayed l = let f = from_fits (suc (length l)) l 0 in record { all_holds = theorem (read_journal l).calls f; bounds = bounds (read_journal l).calls f }

-- ---- a loop so far
record Chain (l a : List ℕ) (at : ℕ) (rs : List Request) (replies : List Reply) : Type 0 where
  tables : tables_of a ≡ run rs
  told : replies ≡ map (λ (e : Entry). e.reply) (history rs)
  fit : AllFit rs
  -- the calls that are left, fewer than n
  n : ℕ
  enough : length l < n + at
  inside : at ≤ length l
  rest : (read_journal l).calls ≡ rs ++ (read_from n l at).calls

start : (l a : List ℕ) → tables_of a ≡ initial_tables → Chain l a 0 [] []
unfolding run_from history_from AllFit
start l a e = record { tables = e; told = refl; fit = tt; n = suc (length l); enough = omega arith; inside = omega arith; rest = refl }

-- one step more
module _ (l a b after lent : List ℕ) (at : ℕ) (rs : List Request) (replies : List Reply) (r : Record) (response : Result Response Errno) (c : Chain l a at rs replies)
    (found : read_at l at ≡ Ok (Some r)) (full : length lent ≡ max_read) (p : CallPromise response a b after (replay_of (tables_of a) l (read_at l at) lent)) where
  abbrev q : Request
  q = request_at l r

  read_on : (n : ℕ) → (read_from (suc n) l at).calls ≡ q ∷ (read_from n l r.next).calls
  unfolding read_from
  read_on n = ap (λ (x : Read). (go_on l x (λ (next : ℕ). read_from n l next)).calls) found

  link_by : (n : ℕ) → n ≡ c.n → Chain l b r.next (rs ++ (q ∷ [])) (call_reply response ∷ replies)
  link_by zero e = absurd (omega (arith, c.enough, c.inside, e))
  link_by (suc m) e =
      let i = found_inside l at r found in
      record {
        tables = ap (λ (s : Step). s.tables) p.outcome ∙ tables_document l a lent at rs r c.tables c.fit found full ∙ sym (run_more by_levels q initial_tables rs);
        told =
            (λ i. (ap (λ (s : Step). s.reply) p.outcome ∙ reply_document l a lent at rs r c.tables c.fit found full) i ∷ c.told i) ∙ sym (ap (λ (h : List Entry). map (λ (e : Entry). e.reply) h) (history_more by_levels q initial_tables [] rs));
        fit = fits_more rs q c.fit (read_fits l at r found);
        n = m;
        enough = omega (arith, c.enough, e, i.next_past);
        inside = i.next_inside;
        rest =
            c.rest
            ∙ ap (λ (k : ℕ). rs ++ (read_from k l at).calls) (sym e)
            ∙ ap (λ (x : List Request). rs ++ x) (read_on m)
            ∙ sym (append_assoc rs (q ∷ []) (read_from m l r.next).calls);
      }

chain : (l a : List ℕ) (at : ℕ) (rs : List Request) (replies : List Reply) → Replay l a at rs replies → Chain l a at rs replies
chain l a at rs replies (began e) = start l a e
chain l b next qs told (stepped {a = a} {after = after} {at = at} {rs = rs} {replies = replies} {r = r} {response = response} x found lent full p) =
    let c = chain l a at rs replies x in link_by l a b after lent at rs replies r response c found full p c.n refl

-- where no record is found, nothing is left
none_left : (l : List ℕ) (at : ℕ) (x : Read) → read_at l at ≡ x → ((r : Record) → read_at l at ≡ Ok (Some r) → ⊥) → (rest : ℕ → Reading) → (go_on l x rest).calls ≡ []
none_left l at (Ok (Some r)) e none rest = absurd (none r e)
none_left l at (Ok None) e none rest = refl
none_left l at (Err s) e none rest = refl

from_none : (n : ℕ) (l : List ℕ) (at : ℕ) → ((r : Record) → read_at l at ≡ Ok (Some r) → ⊥) → (read_from n l at).calls ≡ []
unfolding read_from
from_none zero l at none = refl
from_none (suc n) l at none = none_left l at (read_at l at) refl none (λ (next : ℕ). read_from n l next)

pub replays : (l a : List ℕ) (at : ℕ) (rs : List Request) (replies : List Reply) → Replay l a at rs replies → IsRun l a at rs replies
replays l a at rs replies x =
    let c = chain l a at rs replies x in
    record {
      tables = c.tables;
      told = c.told;
      whole = λ none. sym (c.rest ∙ ap (λ (y : List Request). rs ++ y) (from_none c.n l at none) ∙ append-nil rs);
      all_holds = theorem rs c.fit;
    }
