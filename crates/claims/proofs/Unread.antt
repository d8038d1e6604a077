-- Document 01's step reads nothing of what the code keeps beside the maps, on any tables. Assumes nothing.
use Rattle.std.specs.Prelude.{Option, Some, None}
use Prim.Native.Nat.{ℕ, zero, suc}
use mathlib.Core.Path.{◌≡◌, refl, ap}
use mathlib.Core.Bool.{Bool, true, false, cond, ◌||◌}
use mathlib.Core.List.{List, [], ◌∷◌}
use lib.Dec.{eqb, leb, ltb}
use lib.ListN.{length}
use Rattle.records.specs.declared.Namespace.{Namespace}
use Rattle.capability.specs.Sets.{is_within, cap_sys_admin, cap_setgid, cap_last_cap}
use Rattle.idmap.specs.declared.Line.{Line}
use Rattle.idmap.specs.Text.{map_lines, max_text_bytes}
use Rattle.records.specs.declared.Kind.{Kind}
use Rattle.records.specs.declared.Ids.{Ids}
use Rattle.records.specs.declared.Process.{Process}
use Rattle.records.specs.Records.{ids_in, map_in, set_id_of, is_written, max_groups}
use Rattle.tables.specs.Tables.{State, process_at, namespace_at, put_map, max_level}
use Rattle.tables.specs.Find.{process_named, namespace_named, free_process_place, free_namespace_place, caller_named}
use Rattle.tables.specs.Reply.{Reply, yes', no', Outcome, on_found}
use Rattle.hierarchy.specs.Walks.{Translation, height_of, holds_in, capable_in}
use Rattle.process.specs.Calls.{fork_of, knows_itself, makes_namespace, clone_of, unshare_of, setns_of}
use Rattle.mapping.specs.Calls.{is_near, single_line, may_map, all_whole, mapped_tables, then_lines, write_lines_to, write_map_to, write_map_of, setting_in, then_setting, write_setgroups_to, write_setgroups_of}
use Rattle.mapping.specs.Calls.{view_of, shown_line, map_text_of, read_map_of, read_setgroups_of}
use Rattle.credentials.specs.Calls.{chosen, then_three, may_take, all_one_of, set_ids_of, then_list, kernel_groups, set_groups_of, capable_reply, drop_of, seen_groups, own_ids_of, translate_reply}
use Rattle.calls.specs.declared.Call.{Call}
use Rattle.calls.specs.declared.Call.TheVariants.{Fork, Clone, Unshare, Setns, WriteMap, WriteSetgroups, ReadMap, ReadSetgroups, SetIds, SetGroups, Capable, Drop, OwnIdsOf, Translate}
use Rattle.calls.specs.Calls.{Request, stored, asked, answer_by}
use Rattle.claims.specs.Translation.{by_levels}
use Rattle.claims.specs.AsDocument.{bare, bare_step, Unread}

-- ---- two definitions that go by the same tests come to the same
module _ {A : Type 0} {B : Type 0} (g : A → B) where
  found_same : (f : Option ℕ) {x x' : A} {n n' : ℕ → A} → g x ≡ g x' → ((i : ℕ) → g (n i) ≡ g (n' i)) → g (on_found f x n) ≡ g (on_found f x' n')
  found_same (Some i) p q = q i
  found_same None p q = p

  test_same : (t t' : Bool) {x x' y y' : A} → t ≡ t' → g x ≡ g x' → g y ≡ g y' → g (cond t x y) ≡ g (cond t' x' y')
  test_same true t' e p q = rw (← e) p
  test_same false t' e p q = rw (← e) q

  lines_same : (o : Option (List Line)) {x x' : A} {n n' : List Line → A} → g x ≡ g x' → ((ls : List Line) → g (n ls) ≡ g (n' ls)) → g (then_lines o x n) ≡ g (then_lines o x' n')
  lines_same None p q = p
  lines_same (Some ls) p q = q ls

  setting_same : (o : Option Bool) {x x' y y' z z' : A} → g x ≡ g x' → g y ≡ g y' → g z ≡ g z' → g (then_setting o x y z) ≡ g (then_setting o x' y' z')
  setting_same None p q r = p
  setting_same (Some true) p q r = q
  setting_same (Some false) p q r = r

  three_same : (t u v : Option ℕ) {x x' : A} {n n' : ℕ → ℕ → ℕ → A} → g x ≡ g x' → ((a b c : ℕ) → g (n a b c) ≡ g (n' a b c)) → g (then_three t u v x n) ≡ g (then_three t u v x' n')
  three_same (Some a) (Some b) (Some c) p q = q a b c
  three_same (Some a) (Some b) None p q = p
  three_same (Some a) None v p q = p
  three_same None u v p q = p

  list_same : (o : Option (List ℕ)) {x x' : A} {n n' : List ℕ → A} → g x ≡ g x' → ((l : List ℕ) → g (n l) ≡ g (n' l)) → g (then_list o x n) ≡ g (then_list o x' n')
  list_same None p q = p
  list_same (Some l) p q = q l

abbrev bare_out : Outcome → Outcome
bare_out o = record { reply = o.reply; tables = bare o.tables }

stored_same : (buffer : List ℕ) (o o' : Outcome) → bare_out o ≡ bare_out o' → bare_step (stored o buffer) ≡ bare_step (stored o' buffer)
stored_same buffer o o' e = λ i. record { reply = (e i).reply; tables = (e i).tables; buffer = buffer }

module _ (s : State) where
  -- ---- who holds a capability
  holds_same : (own euid : ℕ) (mine : Bool) (k n : ℕ) → holds_in s own euid mine k n ≡ holds_in (bare s) own euid mine k n
  unfolding holds_in namespace_at
  holds_same own euid mine zero n = refl
  holds_same own euid mine (suc k) n = rw (holds_same own euid mine k (namespace_at s n).parent)

  capable_same : (p : Process) (n c : ℕ) → capable_in s p n c ≡ capable_in (bare s) p n c
  unfolding capable_in height_of namespace_at
  capable_same p n c = holds_same _ _ _ (height_of s n) n

  abbrev by : Translation
  by = by_levels s

  abbrev by' : Translation
  by' = by_levels (bare s)

  fork_same : (c : ℕ) → bare_out (fork_of s c) ≡ bare_out (fork_of (bare s) c)
  unfolding fork_of caller_named process_at free_process_place
  fork_same c = found_same bare_out (caller_named s c) refl (λ i. found_same bare_out (free_process_place s) refl (λ q. refl))

  -- ---- clone, unshare, setns
  makes_same : (c : ℕ) (n n' : ℕ → ℕ → Outcome) → ((p m : ℕ) → bare_out (n p m) ≡ bare_out (n' p m)) → bare_out (makes_namespace by s c n) ≡ bare_out (makes_namespace by' (bare s) c n')
  unfolding caller_named process_at namespace_at free_namespace_place knows_itself by_levels height_of
  makes_same c n n' q =
      found_same bare_out (caller_named s c) refl (λ p.
      test_same bare_out (leb max_level (namespace_at s (process_at s p).namespace).level) _ refl refl
      (test_same bare_out (knows_itself by (process_at s p)) _ refl (found_same bare_out (free_namespace_place s) refl (λ m. q p m)) refl))

  clone_same : (c : ℕ) → bare_out (clone_of by s c) ≡ bare_out (clone_of by' (bare s) c)
  unfolding clone_of process_at namespace_at free_process_place
  clone_same c = makes_same c _ _ (λ p m. found_same bare_out (free_process_place s) refl (λ q. refl))

  unshare_same : (c : ℕ) → bare_out (unshare_of by s c) ≡ bare_out (unshare_of by' (bare s) c)
  unfolding unshare_of process_at namespace_at
  unshare_same c = makes_same c _ _ (λ p m. refl)

  setns_same : (c n : ℕ) → bare_out (setns_of s c n) ≡ bare_out (setns_of (bare s) c n)
  unfolding setns_of caller_named namespace_named process_at namespace_at
  setns_same c name =
      found_same bare_out (caller_named s c) refl (λ p.
      found_same bare_out (namespace_named s p name) refl (λ n.
      test_same bare_out (eqb (process_at s p).namespace n) _ refl refl
      (test_same bare_out (capable_in s (process_at s p) n cap_sys_admin) _ (capable_same (process_at s p) n cap_sys_admin) refl refl)))

  -- ---- the files
  may_same : (k : Kind) (w : Process) (n : Namespace) (ls : List Line) → may_map by s k w n ls ≡ may_map by' (bare s) k w n ls
  unfolding may_map single_line by_levels height_of namespace_at
  may_same k w n [] = rw (capable_same w n.parent (set_id_of k))
  may_same k w n (l ∷ []) = rw (capable_same w n.parent (set_id_of k))
  may_same k w n (l ∷ m ∷ ls) = rw (capable_same w n.parent (set_id_of k))

  module _ (k : Kind) (w : Process) (n : ℕ) (text : List ℕ) where
    write_lines_same : bare_out (write_lines_to by s k w n text) ≡ bare_out (write_lines_to by' (bare s) k w n text)
    unfolding write_lines_to namespace_at mapped_tables put_map by_levels
    write_lines_same =
        lines_same bare_out (map_lines text) refl (λ ls.
        test_same bare_out (may_map by s k w (namespace_at s n) ls) _ (may_same k w (namespace_at s n) ls)
        (test_same bare_out (all_whole (by.whole k (namespace_at s n).parent) ls) _ refl refl refl)
        refl)

    write_to_same : bare_out (write_map_to by s k w n text) ≡ bare_out (write_map_to by' (bare s) k w n text)
    unfolding write_map_to namespace_at is_near
    write_to_same =
        test_same bare_out (eqb n 0) _ refl refl
        (test_same bare_out (is_near w n (namespace_at s n)) _ refl
        (test_same bare_out (eqb (length text) 0) _ refl refl
        (test_same bare_out (ltb max_text_bytes (length text)) _ refl refl
        (test_same bare_out (is_written (map_in k (namespace_at s n)).state) _ refl refl
        (test_same bare_out (capable_in s w n (set_id_of k)) _ (capable_same w n (set_id_of k)) write_lines_same refl))))
        refl)

  write_map_same : (k : Kind) (c p : ℕ) (text : List ℕ) → bare_out (write_map_of by s k c p text) ≡ bare_out (write_map_of by' (bare s) k c p text)
  unfolding write_map_of caller_named process_named process_at
  write_map_same k c name text =
      found_same bare_out (caller_named s c) refl (λ i.
      found_same bare_out (process_named s i name) refl (λ p. write_to_same k (process_at s i) (process_at s p).namespace text))

  write_setgroups_same : (c p : ℕ) (text : List ℕ) → bare_out (write_setgroups_of s c p text) ≡ bare_out (write_setgroups_of (bare s) c p text)
  unfolding write_setgroups_of write_setgroups_to caller_named process_named process_at namespace_at
  write_setgroups_same c name text =
      found_same bare_out (caller_named s c) refl (λ i.
      found_same bare_out (process_named s i name) refl (λ p.
      let n = (process_at s p).namespace in
      test_same bare_out (capable_in s (process_at s i) n cap_sys_admin) _ (capable_same (process_at s i) n cap_sys_admin)
      (setting_same bare_out (setting_in text) refl
      (test_same bare_out (is_written (namespace_at s n).groups.state) _ refl refl refl)
      (test_same bare_out (namespace_at s n).deny _ refl refl refl))
      refl))

  -- ---- IDs
  set_ids_same : (k : Kind) (c : ℕ) (new : Ids) → bare_out (set_ids_of by s k c new.real new.effective new.saved) ≡ bare_out (set_ids_of by' (bare s) k c new.real new.effective new.saved)
  unfolding set_ids_of caller_named process_at namespace_at by_levels height_of may_take
  set_ids_same k c new =
      found_same bare_out (caller_named s c) refl (λ i.
      let p = process_at s i in
      three_same bare_out
      (chosen by k p.namespace new.real (ids_in k p).real)
      (chosen by k p.namespace new.effective (ids_in k p).effective)
      (chosen by k p.namespace new.saved (ids_in k p).saved)
      refl (λ x y z.
      let ids : Ids = record { real = x; effective = y; saved = z } in
      test_same bare_out (may_take s k p ids (ids_in k p)) _ (ap (λ (t : Bool). t || all_one_of ids (ids_in k p)) (capable_same p p.namespace (set_id_of k))) refl refl))

  set_groups_same : (c : ℕ) (list : List ℕ) → bare_out (set_groups_of by s c list) ≡ bare_out (set_groups_of by' (bare s) c list)
  unfolding set_groups_of caller_named process_at namespace_at by_levels height_of kernel_groups
  set_groups_same c list =
      found_same bare_out (caller_named s c) refl (λ i.
      let p = process_at s i in
      let n = namespace_at s p.namespace in
      test_same bare_out (capable_in s p p.namespace cap_setgid) _ (capable_same p p.namespace cap_setgid)
      (test_same bare_out (is_written n.groups.state) _ refl
      (test_same bare_out n.deny _ refl refl
      (test_same bare_out (ltb max_groups (length list)) _ refl refl
      (list_same bare_out (kernel_groups by p.namespace list) refl (λ l. refl))))
      refl)
      refl)

  drop_same : (c p e : ℕ) → bare_out (drop_of s c p e) ≡ bare_out (drop_of (bare s) c p e)
  unfolding drop_of caller_named process_at
  drop_same c permitted effective =
      found_same bare_out (caller_named s c) refl (λ i.
      test_same bare_out (is_within permitted (process_at s i).permitted.bits) _ refl
      (test_same bare_out (is_within effective permitted) _ refl refl refl)
      refl)

  -- ---- questions and reads
  capable_reply_same : (c n number : ℕ) → capable_reply s c n number ≡ capable_reply (bare s) c n number
  unfolding capable_reply caller_named namespace_named process_at namespace_at
  capable_reply_same c name number =
      found_same (λ (r : Reply). r) (caller_named s c) refl (λ i.
      found_same (λ (r : Reply). r) (namespace_named s i name) refl (λ n.
      test_same (λ (r : Reply). r) (ltb cap_last_cap number) _ refl refl (ap (λ (t : Bool). cond t yes' no') (capable_same (process_at s i) n number))))

  call_same : (c : Call) (text list buffer : List ℕ) → bare_step (answer_by by s c text list buffer) ≡ bare_step (answer_by by' (bare s) c text list buffer)
  unfolding answer_by read_map_of map_text_of shown_line view_of read_setgroups_of own_ids_of seen_groups translate_reply caller_named process_named namespace_named process_at namespace_at by_levels height_of
  call_same (Fork c) text list buffer = stored_same buffer (fork_of s c) (fork_of (bare s) c) (fork_same c)
  call_same (Clone c) text list buffer = stored_same buffer (clone_of by s c) (clone_of by' (bare s) c) (clone_same c)
  call_same (Unshare c) text list buffer = stored_same buffer (unshare_of by s c) (unshare_of by' (bare s) c) (unshare_same c)
  call_same (Setns c n) text list buffer = stored_same buffer (setns_of s c n) (setns_of (bare s) c n) (setns_same c n)
  call_same (WriteMap k c p) text list buffer = stored_same buffer (write_map_of by s k c p text) (write_map_of by' (bare s) k c p text) (write_map_same k c p text)
  call_same (WriteSetgroups c p) text list buffer = stored_same buffer (write_setgroups_of s c p text) (write_setgroups_of (bare s) c p text) (write_setgroups_same c p text)
  call_same (ReadMap k c p) text list buffer = refl
  call_same (ReadSetgroups c p) text list buffer = refl
  call_same (SetIds k c i) text list buffer = stored_same buffer (set_ids_of by s k c i.real i.effective i.saved) (set_ids_of by' (bare s) k c i.real i.effective i.saved) (set_ids_same k c i)
  call_same (SetGroups c) text list buffer = stored_same buffer (set_groups_of by s c list) (set_groups_of by' (bare s) c list) (set_groups_same c list)
  call_same (Capable c n number) text list buffer = ap (λ (r : Reply). bare_step (asked s r buffer)) (capable_reply_same c n number)
  call_same (Drop c p e) text list buffer = stored_same buffer (drop_of s c p e) (drop_of (bare s) c p e) (drop_same c p e)
  call_same (OwnIdsOf c) text list buffer = refl
  call_same (Translate k w c n x) text list buffer = refl

pub unread : (s : State) (r : Request) → Unread s r
unread s r = call_same s r.call r.text r.list r.buffer
