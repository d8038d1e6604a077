-- The reply that a result of the own-ID question is. Assumes nothing.
use Rattle.std.specs.Prelude.{ℕ, List, ◌∷◌, take, Result, Ok, Err}
use Rattle.tables.specs.declared.answer.Errno.{Errno}
use Rattle.tables.specs.Reply.{Reply, refused, ids, number_of}
use Rattle.credentials.specs.declared.own.OwnIds.{OwnIds}

-- real, effective and saved user ID, the same of the group, then the groups in order
abbrev pub ids_list : OwnIds → List ℕ
ids_list o =
    o.users.real ∷ o.users.effective ∷ o.users.saved ∷ o.groups.real ∷ o.groups.effective ∷ o.groups.saved
    ∷ take o.supplementary.count o.supplementary.ids

abbrev pub own_reply : Result OwnIds Errno → Reply
own_reply (Ok o) = ids (ids_list o)
own_reply (Err e) = refused (number_of e)
