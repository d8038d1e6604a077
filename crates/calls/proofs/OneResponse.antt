-- What the entry point promises pins its whole response: two responses with that promise are one. Assumes nothing.
use Prim.Native.Nat.{ℕ}
use Rattle.std.specs.Prelude.{Result, Ok, Err}
use mathlib.Core.Path.{◌≡◌, refl, sym, ap, ap₂, ◌∙◌}
use mathlib.Core.Bool.{cond}
use mathlib.Core.List.{List, [], ◌∷◌}
use lib.Dec.{eqb}
use Rattle.tables.specs.declared.answer.Errno.{Errno}
use Rattle.tables.specs.declared.answer.Errno.TheVariants.{EPERM, ESRCH, EAGAIN, EINVAL, ENOSPC, ERANGE, EUSERS}
use Rattle.tables.specs.declared.answer.Answer.TheVariants.{Done, Child, ChildIn, NewNamespace, Yes, No, Length, Id, Unmapped}
use Rattle.tables.specs.Reply.{Reply, refused, done, child, child_in, new_namespace, yes', no', bytes, ids, id, unmapped, number_of}
use Rattle.credentials.specs.declared.own.OwnIds.{OwnIds}
use Rattle.calls.specs.Calls.{Step, call_reply, ids_held, CallPromise}
use Rattle.calls.specs.declared.Response.{Response}
use Rattle.calls.specs.declared.Response.TheVariants.{Plain, Own}

-- the refusal that has a number
with_number : ℕ → List Errno → Errno
with_number n [] = EPERM
with_number n (e ∷ es) = cond (eqb n (number_of e)) e (with_number n es)

errno_of : ℕ → Errno
errno_of n = with_number n (EPERM ∷ ESRCH ∷ EAGAIN ∷ EINVAL ∷ ENOSPC ∷ ERANGE ∷ EUSERS ∷ [])

errno_back : (e : Errno) → errno_of (number_of e) ≡ e
unfolding errno_of with_number
errno_back EPERM = refl
errno_back ESRCH = refl
errno_back EAGAIN = refl
errno_back EINVAL = refl
errno_back ENOSPC = refl
errno_back ERANGE = refl
errno_back EUSERS = refl

-- the response that has a reply, with the IDs that it holds
response_of : Reply → OwnIds → Result Response Errno
response_of (refused e) o = Err (errno_of e)
response_of done o = Ok (Plain Done)
response_of (child p) o = Ok (Plain (Child p))
response_of (child_in p n) o = Ok (Plain (ChildIn p n))
response_of (new_namespace n) o = Ok (Plain (NewNamespace n))
response_of yes' o = Ok (Plain Yes)
response_of no' o = Ok (Plain No)
response_of (bytes n) o = Ok (Plain (Length n))
response_of (id x) o = Ok (Plain (Id x))
response_of unmapped o = Ok (Plain Unmapped)
response_of (ids l) o = Ok (Own o)

response_back : (r : Result Response Errno) → response_of (call_reply r) (ids_held r) ≡ r
unfolding response_of
response_back (Err e) = ap Err (errno_back e)
response_back (Ok (Own o)) = refl
response_back (Ok (Plain Done)) = refl
response_back (Ok (Plain (Child p))) = refl
response_back (Ok (Plain (ChildIn p n))) = refl
response_back (Ok (Plain (NewNamespace n))) = refl
response_back (Ok (Plain Yes)) = refl
response_back (Ok (Plain No)) = refl
response_back (Ok (Plain (Length n))) = refl
response_back (Ok (Plain (Id x))) = refl
response_back (Ok (Plain Unmapped)) = refl

pub one_response : (r r' : Result Response Errno) (entry exit exit' after after' : List ℕ) (step : Step) → CallPromise r entry exit after step → CallPromise r' entry exit' after' step → r ≡ r'
one_response r r' entry exit exit' after after' step p q =
    let e : call_reply r ≡ call_reply r' = ap (λ (s : Step). s.reply) (p.outcome ∙ sym q.outcome) in
    let o : ids_held r ≡ ids_held r' = p.whole ∙ sym q.whole in
    sym (response_back r) ∙ ap₂ response_of e o ∙ response_back r'
