-- ID changes, setgroups, own IDs, the capability question, drop and translate: document 01, 'The calls, and the order
-- in which each refuses'. Assumes nothing.
use Rattle.std.specs.Prelude.{ℕ, ◌-◌, Bool, false, cond, not, ◌&&◌, ◌||◌, List, ◌++◌, map, eqb, ltb, length, take, replicate, Option, Some, None, option_map, Result, Ok, Err}
use Rattle.prelude.specs.Lists.{all_of}
use Rattle.capability.specs.Sets.{cap_setgid, cap_last_cap, empty_set, is_within}
use Rattle.idmap.specs.Good.{no_id}
use Rattle.idmap.specs.Lookup.{id_or, overflow_id}
use Rattle.records.specs.declared.Kind.{Kind}
use Rattle.records.specs.declared.Kind.TheVariants.{User, Group}
use Rattle.records.specs.declared.Ids.{Ids}
use Rattle.records.specs.declared.GroupList.{GroupList}
use Rattle.records.specs.declared.Process.{Process}
use Rattle.records.specs.Records.{max_groups, ids_in, set_id_of, is_written}
use Rattle.tables.specs.Tables.{State, process_at, namespace_at, put_process}
use Rattle.tables.specs.Find.{caller_named, namespace_named}
use Rattle.tables.specs.Reply.{Reply, refused, done, yes', no', id, unmapped, Outcome, refuse, on_found, when, unless}
use Rattle.tables.specs.declared.answer.Errno.{Errno}
use Rattle.tables.specs.declared.answer.Errno.TheVariants.{ESRCH}
use Rattle.credentials.specs.declared.own.OwnIds.{OwnIds}
use Rattle.hierarchy.specs.Walks.{Translation, capable_in}
use Rattle.credentials.specs.declared.translate.Way.{Way}
use Rattle.credentials.specs.declared.translate.Way.TheVariants.{Out, Back}

-- ---- set real, effective, saved IDs of a kind
-- what is given for one of the three: 4,294,967,295 leaves it as it is, another ID is translated out
abbrev pub chosen : Translation → Kind → ℕ → ℕ → ℕ → Option ℕ
chosen by kind n x old = cond (eqb x no_id) (Some old) (by.out kind n x)

-- what follows three kernel IDs, or other where one is not to be had
abbrev pub then_three : {A : Type 0} → Option ℕ → Option ℕ → Option ℕ → A → (ℕ → ℕ → ℕ → A) → A
then_three (Some a) (Some b) (Some c) other next = next a b c
then_three (Some a) (Some b) None other next = other
then_three (Some a) None c other next = other
then_three None b c other next = other

-- an ID is one of three
abbrev pub is_one_of : ℕ → Ids → Bool
is_one_of x i = eqb x i.real || (eqb x i.effective || eqb x i.saved)

unfoldable pub all_one_of : Ids → Ids → Bool
all_one_of new old = is_one_of new.real old && (is_one_of new.effective old && is_one_of new.saved old)

-- the sets after a change of user IDs, where zero is the namespace's ID 0: if one of the three was it and none is now,
-- both sets are emptied; if the effective ID was it and is not now, the effective set is emptied
abbrev pub loses_all : Option ℕ → Ids → Ids → Bool
loses_all None old new = false
loses_all (Some z) old new = is_one_of z old && not (is_one_of z new)

abbrev pub loses_effective : Option ℕ → Ids → Ids → Bool
loses_effective None old new = false
loses_effective (Some z) old new = eqb z old.effective && not (eqb z new.effective)

-- process p with new user IDs and the sets that this leaves it
unfoldable pub with_users : Option ℕ → Process → Ids → Process
with_users zero p new = record {
  live = p.live;
  namespace = p.namespace;
  users = new;
  groups = p.groups;
  supplementary = p.supplementary;
  permitted = cond (loses_all zero p.users new) (record { bits = empty_set }) p.permitted;
  effective = cond (loses_all zero p.users new || loses_effective zero p.users new) (record { bits = empty_set }) p.effective;
}

unfoldable pub with_groups : Process → Ids → Process
with_groups p new = record {
  live = p.live;
  namespace = p.namespace;
  users = p.users;
  groups = new;
  supplementary = p.supplementary;
  permitted = p.permitted;
  effective = p.effective;
}

abbrev pub with_ids : Translation → Kind → Process → Ids → Process
with_ids by User p new = with_users (by.out User p.namespace 0) p new
with_ids by Group p new = with_groups p new

-- with the capability in its own namespace any three; else each one of the present three
unfoldable pub may_take : State → Kind → Process → Ids → Ids → Bool
may_take s kind p new old = capable_in s p p.namespace (set_id_of kind) || all_one_of new old

unfoldable pub set_ids_of : Translation → State → Kind → ℕ → ℕ → ℕ → ℕ → Outcome
set_ids_of by s kind c real effective saved =
    on_found (caller_named s c) (refuse s 3) (λ i.
    then_three
    (chosen by kind (process_at s i).namespace real (ids_in kind (process_at s i)).real)
    (chosen by kind (process_at s i).namespace effective (ids_in kind (process_at s i)).effective)
    (chosen by kind (process_at s i).namespace saved (ids_in kind (process_at s i)).saved)
    (refuse s 22) (λ a b d.
    unless (may_take s kind (process_at s i) (record { real = a; effective = b; saved = d }) (ids_in kind (process_at s i)))
    (refuse s 1)
    (record { reply = done; tables = put_process s i (with_ids by kind (process_at s i) (record { real = a; effective = b; saved = d })) })))

-- ---- setgroups
-- groups in a list that has places for them
unfoldable pub group_list : List ℕ → GroupList
group_list ids = record { count = length ids; ids = ids ++ replicate (max_groups - length ids) 0 }

unfoldable pub with_list : Process → GroupList → Process
with_list p new = record {
  live = p.live;
  namespace = p.namespace;
  users = p.users;
  groups = p.groups;
  supplementary = new;
  permitted = p.permitted;
  effective = p.effective;
}

abbrev pub then_list : {A : Type 0} → Option (List ℕ) → A → (List ℕ → A) → A
then_list None other next = other
then_list (Some ids) other next = next ids

-- the kernel IDs of groups given in a namespace, or none where one is not mapped
unfoldable pub kernel_groups : Translation → ℕ → List ℕ → Option (List ℕ)
kernel_groups by n list = all_of (by.out Group n) list

-- the same as the code's answer
abbrev pub listed_of : Option (List ℕ) → Option GroupList
listed_of r = option_map group_list r

-- the new list replaces the old, in the order given, repeats kept
unfoldable pub set_groups_of : Translation → State → ℕ → List ℕ → Outcome
set_groups_of by s c list =
    on_found (caller_named s c) (refuse s 3) (λ i.
    unless (capable_in s (process_at s i) (process_at s i).namespace cap_setgid) (refuse s 1)
    (unless (is_written (namespace_at s (process_at s i).namespace).groups.state) (refuse s 1)
    (when (namespace_at s (process_at s i).namespace).deny (refuse s 1)
    (when (ltb max_groups (length list)) (refuse s 22)
    (then_list (kernel_groups by (process_at s i).namespace list) (refuse s 22) (λ ids.
    record { reply = done; tables = put_process s i (with_list (process_at s i) (group_list ids)) }))))))

-- ---- the capability question
unfoldable pub capable_reply : State → ℕ → ℕ → ℕ → Reply
capable_reply s c name number =
    on_found (caller_named s c) (refused 3) (λ i.
    on_found (namespace_named s i name) (refused 3) (λ n.
    when (ltb cap_last_cap number) (refused 22) (cond (capable_in s (process_at s i) n number) yes' no')))

-- ---- drop: it never adds a capability to the permitted set; the new effective set is any part of the new permitted
unfoldable pub with_sets : Process → ℕ → ℕ → Process
with_sets p permitted effective = record {
  live = p.live;
  namespace = p.namespace;
  users = p.users;
  groups = p.groups;
  supplementary = p.supplementary;
  permitted = record { bits = permitted };
  effective = record { bits = effective };
}

unfoldable pub drop_of : State → ℕ → ℕ → ℕ → Outcome
drop_of s c permitted effective =
    on_found (caller_named s c) (refuse s 3) (λ i.
    unless (is_within permitted (process_at s i).permitted.bits) (refuse s 1)
    (unless (is_within effective permitted) (refuse s 1)
    (record { reply = done; tables = put_process s i (with_sets (process_at s i) permitted effective) })))

-- ---- own IDs, as seen in the process's namespace; an untranslatable one shows as the overflow ID
abbrev pub shown_as : Option ℕ → ℕ
shown_as r = id_or overflow_id r

abbrev pub seen : Translation → Kind → ℕ → ℕ → ℕ
seen by kind n x = shown_as (by.back kind n x)

abbrev pub seen_ids : Translation → Kind → ℕ → Ids → Ids
seen_ids by kind n i = record { real = seen by kind n i.real; effective = seen by kind n i.effective; saved = seen by kind n i.saved }

-- the groups in order: the first of the list, as many as it has
unfoldable pub seen_groups : Translation → ℕ → GroupList → GroupList
seen_groups by n g = group_list (map (seen by Group n) (take g.count g.ids))

unfoldable pub own_ids_of : Translation → State → ℕ → Result OwnIds Errno
own_ids_of by s c =
    on_found (caller_named s c) (Err ESRCH) (λ i.
    Ok (record {
      users = seen_ids by User (process_at s i).namespace (process_at s i).users;
      groups = seen_ids by Group (process_at s i).namespace (process_at s i).groups;
      supplementary = seen_groups by (process_at s i).namespace (process_at s i).supplementary;
    }))

-- ---- translate, naming a namespace
-- out: the kernel ID that an ID of namespace n stands for; back: the ID of namespace n that stands for a kernel ID
abbrev pub turned : Translation → Kind → Way → ℕ → ℕ → Option ℕ
turned by kind Out n x = by.out kind n x
turned by kind Back n x = by.back kind n x

-- an ID, or "unmapped", which is an answer
abbrev pub translated : Option ℕ → Reply
translated (Some y) = id y
translated None = unmapped

unfoldable pub translate_reply : Translation → State → Kind → Way → ℕ → ℕ → ℕ → Reply
translate_reply by s kind way c name x =
    on_found (caller_named s c) (refused 3) (λ i.
    on_found (namespace_named s i name) (refused 3) (λ n.
    translated (turned by kind way n x)))
