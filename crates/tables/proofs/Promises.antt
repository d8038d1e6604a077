-- Promises: of a call that refuses, and of one that does not. Assumes nothing.
use Rattle.std.specs.Prelude.{Option, Some, None, Result, Ok, Err, ok_or}
use Prim.Native.Nat.{ℕ, ◌+◌, ◌<◌}
use mathlib.Core.Path.{◌≡◌, refl, sym, ap, ◌∙◌}
use mathlib.Core.Bool.{Bool, false, false≢true}
use mathlib.Core.List.{List, [], ◌∷◌}
use native.Mathlib.Omega.{arith}
use lib.ListN.{length}
use Rattle.std.proofs.lemmas.Option.{some_pair_parts}
use Rattle.prelude.proofs.Tests.{by_test}
use Rattle.records.specs.declared.Process.{Process}
use Rattle.records.specs.declared.Namespace.{Namespace}
use Rattle.tables.specs.declared.answer.Errno.{Errno}
use Rattle.tables.specs.declared.answer.Answer.{Answer}
use Rattle.tables.specs.Tables.{process_places, namespace_places, tables_of}
use Rattle.tables.specs.Find.{free_from, free_process_place, free_namespace_place, free_as}
use Rattle.tables.specs.Reply.{number_of, answered, Outcome, refuse, is_refused, Promise}
use Rattle.tables.proofs.Tables.{length_processes, length_namespaces}

-- a refusal: nothing is stored
pub refuses : (e : Errno) (l : List ℕ) (o : Outcome) → refuse (tables_of l) (number_of e) ≡ o → Promise (Err e) l l o
refuses e l o q = record { outcome = q; kept = λ t. refl }

-- an answer
pub answers : (a : Answer) (l l' : List ℕ) (o : Outcome) → is_refused (answered a) ≡ false → ◌≡◌ {A = Outcome} (record { reply = answered a; tables = tables_of l' }) o → Promise (Ok a) l l' o
answers a l l' o n q = record { outcome = q; kept = λ t. absurd (false≢true (sym n ∙ t)) }

-- ---- a place that is found free lies in its table
free_below : {A : Type 0} (live : A → Bool) (k i : ℕ) (l : List A) → free_from live k l ≡ Some i → i < k + length l
unfolding free_from
free_below live k i [] e = let z : ◌≡◌ {A = ℕ} 0 1 = cc in absurd (omega arith)
free_below live k i (x ∷ l) e =
    by_test (live x)
    (λ t. let h = free_below live (ℕ.suc k) i l (rw t at e) in omega arith)
    (λ t. let h : Some k ≡ Some i = rw t at e in let z : k ≡ i = cc in omega arith)

pub free_process_below : (l : List ℕ) (i : ℕ) → free_process_place (tables_of l) ≡ Some i → i < process_places
unfolding free_process_place
free_process_below l i e =
    let h = free_below (λ (p : Process). p.live) 0 i (tables_of l).processes e in
    let k = length_processes l in
    omega arith

pub free_namespace_below : (l : List ℕ) (i : ℕ) → free_namespace_place (tables_of l) ≡ Some i → i < namespace_places
unfolding free_namespace_place
free_namespace_below l i e =
    let h = free_below (λ (n : Namespace). n.live) 0 i (tables_of l).namespaces e in
    let k = length_namespaces l in
    omega arith

-- ---- what is free, as the code is told, with its number
module _ (number : ℕ → ℕ) where
  pub none_free : (f : Option ℕ) → None ≡ free_as number f → f ≡ None
  none_free None e = refl
  none_free (Some i) e = let z : ◌≡◌ {A = ℕ} 0 1 = cc in absurd (omega arith)

  pub free_at : (f : Option ℕ) (i n : ℕ) → Some (i, n) ≡ free_as number f → (f ≡ Some i) × (n ≡ number i)
  free_at None i n e = let z : ◌≡◌ {A = ℕ} 0 1 = cc in absurd (omega arith)
  free_at (Some j) i n e = let p = some_pair_parts i j n (number j) e in (ap Some (sym p.0), p.1 ∙ ap number (sym p.0))

-- ---- `o.ok_or(e)?`: what o is where the code goes on, and where it refuses
module _ {A : Type 0} (o : Option A) (e : Errno) (r : Result A Errno) (given : r ≡ ok_or o e) where
  pub ok_given : (x : A) → r ≡ Ok x → o ≡ Some x
  ok_given x q = by_cases o (sym given ∙ q)
    where
      by_cases : (p : Option A) → ok_or p e ≡ Ok x → p ≡ Some x
      by_cases None h = absurd (let z : ◌≡◌ {A = ℕ} 0 1 = cc in omega arith)
      by_cases (Some y) h = let same : y ≡ x = cc in ap Some same

  pub err_given : (d : Errno) → r ≡ Err d → (o ≡ None) × (d ≡ e)
  err_given d q = by_cases o (sym given ∙ q)
    where
      by_cases : (p : Option A) → ok_or p e ≡ Err d → (p ≡ None) × (d ≡ e)
      by_cases None h = (refl, let same : e ≡ d = cc in sym same)
      by_cases (Some y) h = absurd (let z : ◌≡◌ {A = ℕ} 0 1 = cc in omega arith)
