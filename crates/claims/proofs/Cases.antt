-- What each call that may store can come to: a refusal of document 01's table, or its one success with the facts that
-- it had found. A fact about every call is proved by these cases. Assumes nothing.
use Rattle.std.specs.Prelude.{Option, Some, None}
use Prim.Native.Nat.{ℕ}
use mathlib.Core.Path.{◌≡◌, refl}
use mathlib.Core.Bool.{Bool, true, false, cond}
use mathlib.Core.List.{List}
use mathlib.Core.Logic.{inl, inr}
use lib.Dec.{eqb, leb, ltb}
use lib.ListN.{length}
use Rattle.claims.proofs.Stores.{process_named_lem}
use Rattle.capability.specs.Sets.{is_within, cap_sys_admin, cap_setgid}
use Rattle.idmap.specs.declared.Line.{Line}
use Rattle.idmap.specs.Text.{map_lines, max_text_bytes}
use Rattle.records.specs.declared.Kind.{Kind}
use Rattle.records.specs.declared.Ids.{Ids}
use Rattle.records.specs.Records.{ids_in, map_in, set_id_of, is_written, with_deny, max_groups}
use Rattle.tables.specs.Tables.{State, process_at, namespace_at, put_process, put_namespace, max_level}
use Rattle.tables.specs.Find.{process_named, namespace_named, free_process_place, free_namespace_place, caller_named, process_number}
use Rattle.tables.specs.Reply.{done, child, child_in, new_namespace, Outcome, refuse, on_found}
use Rattle.hierarchy.specs.Walks.{Translation, capable_in}
use Rattle.process.specs.Calls.{fork_of, knows_itself, entered, makes_namespace, with_child, clone_of, unshare_of, setns_of}
use Rattle.mapping.specs.Calls.{is_near, may_map, all_whole, mapped_tables, then_lines, write_lines_to, write_map_to, write_map_of, setting_in, then_setting, write_setgroups_to, write_setgroups_of}
use Rattle.credentials.specs.Calls.{chosen, then_three, with_ids, may_take, set_ids_of, group_list, with_list, then_list, kernel_groups, set_groups_of, with_sets, drop_of}
use Rattle.claims.specs.TopLevel.{Has}
use Rattle.claims.specs.Refusals.{refusal_numbers}

-- ---- by cases on what a definition tests
pub found_case : {A : Type 0} (P : A → Type 0) (f : Option ℕ) {x : A} {next : ℕ → A} → P x → ((i : ℕ) → f ≡ Some i → P (next i)) → P (on_found f x next)
found_case P (Some i) g k = k i refl
found_case P None g k = g

test_case : {A : Type 0} (P : A → Type 0) (t : Bool) {x y : A} → (t ≡ true → P x) → (t ≡ false → P y) → P (cond t x y)
test_case P true g k = g refl
test_case P false g k = k refl

lines_case : {A : Type 0} (P : A → Type 0) (o : Option (List Line)) {x : A} {next : List Line → A} → P x → ((ls : List Line) → o ≡ Some ls → P (next ls)) → P (then_lines o x next)
lines_case P None p f = p
lines_case P (Some ls) p f = f ls refl

setting_case : {A : Type 0} (P : A → Type 0) (o : Option Bool) {x y z : A} → P x → P y → P z → P (then_setting o x y z)
setting_case P None p q r = p
setting_case P (Some true) p q r = q
setting_case P (Some false) p q r = r

three_case : {A : Type 0} (P : A → Type 0) (t u v : Option ℕ) {x : A} {next : ℕ → ℕ → ℕ → A} → P x → ((a b c : ℕ) → t ≡ Some a → u ≡ Some b → v ≡ Some c → P (next a b c)) → P (then_three t u v x next)
three_case P (Some a) (Some b) (Some c) p f = f a b c refl refl refl
three_case P (Some a) (Some b) None p f = p
three_case P (Some a) None v p f = p
three_case P None u v p f = p

list_case : {A : Type 0} (P : A → Type 0) (o : Option (List ℕ)) {x : A} {next : List ℕ → A} → P x → ((l : List ℕ) → o ≡ Some l → P (next l)) → P (then_list o x next)
list_case P None p f = p
list_case P (Some l) p f = f l refl

-- ---- the numbers of document 01's table
pub is_1 : Has 1 refusal_numbers
unfolding Has
is_1 = inl refl

pub is_3 : Has 3 refusal_numbers
unfolding Has
is_3 = inr (inl refl)

pub is_11 : Has 11 refusal_numbers
unfolding Has
is_11 = inr (inr (inl refl))

pub is_22 : Has 22 refusal_numbers
unfolding Has
is_22 = inr (inr (inr (inl refl)))

pub is_28 : Has 28 refusal_numbers
unfolding Has
is_28 = inr (inr (inr (inr (inl refl))))

pub is_34 : Has 34 refusal_numbers
unfolding Has
is_34 = inr (inr (inr (inr (inr (inl refl)))))

pub is_87 : Has 87 refusal_numbers
unfolding Has
is_87 = inr (inr (inr (inr (inr (inr (inl refl))))))

-- ---- the calls. P is what is to hold of an outcome, and no says it of every refusal
module _ (by : Translation) (s : State) (P : Outcome → Type 0) (no : (e : ℕ) → Has e refusal_numbers → P (refuse s e)) where
  pub fork_case : (c : ℕ)
      → ((i q : ℕ) → caller_named s c ≡ Some i → free_process_place s ≡ Some q → P (record { reply = child (process_number q); tables = put_process s q (process_at s i) }))
      → P (fork_of s c)
  unfolding fork_of
  fork_case c f = found_case P (caller_named s c) (no 3 is_3) (λ i e. found_case P (free_process_place s) (no 11 is_11) (λ q g. f i q e g))

  abbrev Room : ℕ → ℕ → ℕ → Type 0
  Room c p n = (caller_named s c ≡ Some p) × (free_namespace_place s ≡ Some n) × (leb max_level (namespace_at s (process_at s p).namespace).level ≡ false)

  makes_case : (c : ℕ) (next : ℕ → ℕ → Outcome) → ((p n : ℕ) → Room c p n → P (next p n)) → P (makes_namespace by s c next)
  makes_case c next f =
      found_case P (caller_named s c) (no 3 is_3) (λ p e.
      test_case P (leb max_level (namespace_at s (process_at s p).namespace).level) (λ r. no 87 is_87) (λ r.
      test_case P (knows_itself by (process_at s p))
      (λ t. found_case P (free_namespace_place s) (no 28 is_28) (λ n g. f p n (e, g, r)))
      (λ t. no 1 is_1)))

  pub clone_case : (c : ℕ)
      → ((p n q : ℕ) → Room c p n → free_process_place s ≡ Some q → P (record { reply = child_in (process_number q) n; tables = put_process (with_child s p n) q (entered (process_at s p) n) }))
      → P (clone_of by s c)
  unfolding clone_of
  clone_case c f = makes_case c _ (λ p n r. found_case P (free_process_place s) (no 11 is_11) (λ q g. f p n q r g))

  pub unshare_case : (c : ℕ)
      → ((p n : ℕ) → Room c p n → P (record { reply = new_namespace n; tables = put_process (with_child s p n) p (entered (process_at s p) n) }))
      → P (unshare_of by s c)
  unfolding unshare_of
  unshare_case c f = makes_case c _ f

  pub setns_case : (c name : ℕ)
      → ((p n : ℕ) → caller_named s c ≡ Some p → namespace_named s p name ≡ Some n → capable_in s (process_at s p) n cap_sys_admin ≡ true
      → P (record { reply = done; tables = put_process s p (entered (process_at s p) n) }))
      → P (setns_of s c name)
  unfolding setns_of
  setns_case c name f =
      found_case P (caller_named s c) (no 3 is_3) (λ p e.
      found_case P (namespace_named s p name) (no 3 is_3) (λ n g.
      test_case P (eqb (process_at s p).namespace n) (λ t. no 22 is_22) (λ t.
      test_case P (capable_in s (process_at s p) n cap_sys_admin) (λ u. f p n e g u) (λ u. no 1 is_1))))

  pub write_map_case : (k : Kind) (c name : ℕ) (text : List ℕ)
      → ((p : ℕ) (ls : List Line) → caller_named s name ≡ Some p → is_written (map_in k (namespace_at s (process_at s p).namespace)).state ≡ false → map_lines text ≡ Some ls
      → all_whole (by.whole k (namespace_at s (process_at s p).namespace).parent) ls ≡ true
      → P (record { reply = done; tables = mapped_tables by s k (process_at s p).namespace ls }))
      → P (write_map_of by s k c name text)
  unfolding write_map_of write_map_to write_lines_to
  write_map_case k c name text f =
      found_case P (caller_named s c) (no 3 is_3) (λ w e.
      found_case P (process_named s w name) (no 3 is_3) (λ p g.
      let n = (process_at s p).namespace in
      test_case P (eqb n 0) (λ t. no 1 is_1) (λ t.
      test_case P (is_near (process_at s w) n (namespace_at s n)) (λ u.
      test_case P (eqb (length text) 0) (λ t. no 22 is_22) (λ t.
      test_case P (ltb max_text_bytes (length text)) (λ t. no 22 is_22) (λ t.
      test_case P (is_written (map_in k (namespace_at s n)).state) (λ t. no 1 is_1) (λ v.
      test_case P (capable_in s (process_at s w) n (set_id_of k))
      (λ t.
      lines_case P (map_lines text) (no 22 is_22) (λ ls m.
      test_case P (may_map by s k (process_at s w) (namespace_at s n) ls)
      (λ t.
      test_case P (all_whole (by.whole k (namespace_at s n).parent) ls) (λ u. f p ls (process_named_lem s w name p g) v m u) (λ u. no 1 is_1))
      (λ t. no 1 is_1)))
      (λ t. no 1 is_1)))))
      (λ t. no 1 is_1))))

  pub write_setgroups_case : (c name : ℕ) (text : List ℕ)
      → ((p : ℕ) (b : Bool) → caller_named s name ≡ Some p
      → P (record { reply = done; tables = put_namespace s (process_at s p).namespace (with_deny (namespace_at s (process_at s p).namespace) b) }))
      → P (write_setgroups_of s c name text)
  unfolding write_setgroups_of write_setgroups_to
  write_setgroups_case c name text f =
      found_case P (caller_named s c) (no 3 is_3) (λ w e.
      found_case P (process_named s w name) (no 3 is_3) (λ p g.
      let n = (process_at s p).namespace in
      test_case P (capable_in s (process_at s w) n cap_sys_admin)
      (λ t.
      setting_case P (setting_in text) (no 22 is_22)
      (test_case P (is_written (namespace_at s n).groups.state) (λ t. no 1 is_1) (λ t. f p true (process_named_lem s w name p g)))
      (test_case P (namespace_at s n).deny (λ t. no 1 is_1) (λ t. f p false (process_named_lem s w name p g))))
      (λ t. no 1 is_1)))

  pub set_ids_case : (k : Kind) (c : ℕ) (new : Ids)
      → ((i x y z : ℕ) → caller_named s c ≡ Some i
      → chosen by k (process_at s i).namespace new.real (ids_in k (process_at s i)).real ≡ Some x
      → chosen by k (process_at s i).namespace new.effective (ids_in k (process_at s i)).effective ≡ Some y
      → chosen by k (process_at s i).namespace new.saved (ids_in k (process_at s i)).saved ≡ Some z
      → P (record { reply = done; tables = put_process s i (with_ids by k (process_at s i) (record { real = x; effective = y; saved = z })) }))
      → P (set_ids_of by s k c new.real new.effective new.saved)
  unfolding set_ids_of
  set_ids_case k c new f =
      found_case P (caller_named s c) (no 3 is_3) (λ i e.
      three_case P _ _ _ (no 22 is_22) (λ x y z fx fy fz.
      test_case P (may_take s k (process_at s i) (record { real = x; effective = y; saved = z }) (ids_in k (process_at s i)))
      (λ t. f i x y z e fx fy fz)
      (λ t. no 1 is_1)))

  pub set_groups_case : (c : ℕ) (list : List ℕ)
      → ((i : ℕ) (l : List ℕ) → caller_named s c ≡ Some i → ltb max_groups (length list) ≡ false → kernel_groups by (process_at s i).namespace list ≡ Some l
      → P (record { reply = done; tables = put_process s i (with_list (process_at s i) (group_list l)) }))
      → P (set_groups_of by s c list)
  unfolding set_groups_of
  set_groups_case c list f =
      found_case P (caller_named s c) (no 3 is_3) (λ i e.
      test_case P (capable_in s (process_at s i) (process_at s i).namespace cap_setgid)
      (λ t.
      test_case P (is_written (namespace_at s (process_at s i).namespace).groups.state)
      (λ u.
      test_case P (namespace_at s (process_at s i).namespace).deny (λ v. no 1 is_1) (λ v.
      test_case P (ltb max_groups (length list)) (λ w. no 22 is_22) (λ w.
      list_case P (kernel_groups by (process_at s i).namespace list) (no 22 is_22) (λ l g. f i l e w g))))
      (λ u. no 1 is_1))
      (λ t. no 1 is_1))

  pub drop_case : (c permitted effective : ℕ)
      → ((i : ℕ) → caller_named s c ≡ Some i → P (record { reply = done; tables = put_process s i (with_sets (process_at s i) permitted effective) }))
      → P (drop_of s c permitted effective)
  unfolding drop_of
  drop_case c permitted effective f =
      found_case P (caller_named s c) (no 3 is_3) (λ i e.
      test_case P (is_within permitted (process_at s i).permitted.bits)
      (λ t. test_case P (is_within effective permitted) (λ u. f i e) (λ u. no 1 is_1))
      (λ t. no 1 is_1))
