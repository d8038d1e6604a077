-- The map files and the setgroups file, written and read: document 01, 'The calls, and the order in which each
-- refuses'. Assumes nothing.
use Rattle.std.specs.Prelude.{ℕ, min, Bool, true, false, cond, ◌&&◌, ◌||◌, List, [], ◌∷◌, ◌++◌, map, eqb, ltb, length, Option, Some, None}
use Rattle.prelude.specs.Parts.{fits_at, put_at}
use Rattle.capability.specs.Sets.{cap_sys_admin}
use Rattle.idmap.specs.declared.Line.{Line}
use Rattle.idmap.specs.Good.{max_lines, no_id}
use Rattle.idmap.specs.Lookup.{or_no_id}
use Rattle.idmap.specs.Text.{max_text_bytes, map_lines, padded}
use Rattle.idmap.specs.Show.{lines_text}
use Rattle.records.specs.declared.MapState.{MapState}
use Rattle.records.specs.declared.MapState.TheVariants.{Unwritten, Written}
use Rattle.records.specs.declared.Kind.{Kind}
use Rattle.records.specs.declared.Kind.TheVariants.{User, Group}
use Rattle.records.specs.declared.IdMap.{IdMap}
use Rattle.records.specs.declared.Process.{Process}
use Rattle.records.specs.declared.Namespace.{Namespace}
use Rattle.records.specs.Records.{ids_in, map_in, set_id_of, is_written, lines_of, with_deny}
use Rattle.tables.specs.Tables.{State, process_at, namespace_at, put_namespace, put_map}
use Rattle.tables.specs.Find.{caller_named, process_named}
use Rattle.tables.specs.Reply.{Reply, refused, done, bytes, Outcome, refuse, on_found, when, unless}
use Rattle.hierarchy.specs.Walks.{Translation, capable_in}
use Rattle.hierarchy.specs.KernelStarts.{kernel_starts}

-- ---- map write
-- the writer is in namespace n, the target, or in its parent
unfoldable pub is_near : Process → ℕ → Namespace → Bool
is_near w n target = eqb w.namespace n || eqb w.namespace target.parent

-- the lines are one line of count 1 whose parent start is, as a kernel ID, the writer's own effective ID of the kind,
-- the writer's effective user ID is the owner, and for a group map setgroups is denied
abbrev pub is_id : Option ℕ → ℕ → Bool
is_id (Some x) y = eqb x y
is_id None y = false

abbrev pub may_by_kind : Kind → Bool → Bool
may_by_kind User deny = true
may_by_kind Group deny = deny

unfoldable pub single_line : Translation → Kind → Process → Namespace → List Line → Bool
single_line by kind w target [] = false
single_line by kind w target (l ∷ []) =
    eqb l.count 1
    && (is_id (by.out kind target.parent l.parent) (ids_in kind w).effective
    && (eqb w.users.effective target.owner && may_by_kind kind target.deny))
single_line by kind w target (l ∷ m ∷ ls) = false

-- the writer has the capability in the parent, or the single line is its own
unfoldable pub may_map : Translation → State → Kind → Process → Namespace → List Line → Bool
may_map by s kind w target ls = capable_in s w target.parent (set_id_of kind) || single_line by kind w target ls

-- document 02, L6: each line's parent side lies whole in one line of the parent's map. whole: whether so many IDs from
-- one on do
unfoldable pub all_whole : (ℕ → ℕ → Bool) → List Line → Bool
all_whole whole [] = true
all_whole whole (l ∷ ls) = whole l.parent l.count && all_whole whole ls

abbrev pub written_map : List Line → IdMap
written_map ls = record { state = Written (length ls); lines = padded ls }

abbrev pub then_lines : {A : Type 0} → Option (List Line) → A → (List Line → A) → A
then_lines None other next = other
then_lines (Some ls) other next = next ls

-- what a write stores: the map, and what the code keeps beside it
unfoldable pub mapped_tables : Translation → State → Kind → ℕ → List Line → State
mapped_tables by s kind n ls = put_map s kind n (written_map ls) (kernel_starts (by.out kind (namespace_at s n).parent) ls)

-- the lines of the text, the writer's right to them, and that each lies in a line above; then the map is stored
unfoldable pub write_lines_to : Translation → State → Kind → Process → ℕ → List ℕ → Outcome
write_lines_to by s kind w n text =
    then_lines (map_lines text) (refuse s 22) (λ ls.
    unless (may_map by s kind w (namespace_at s n) ls) (refuse s 1)
    (unless (all_whole (by.whole kind (namespace_at s n).parent) ls) (refuse s 1)
    (record { reply = done; tables = mapped_tables by s kind n ls })))

-- the write to namespace n by process w
unfoldable pub write_map_to : Translation → State → Kind → Process → ℕ → List ℕ → Outcome
write_map_to by s kind w n text =
    when (eqb n 0) (refuse s 1)
    (unless (is_near w n (namespace_at s n)) (refuse s 1)
    (when (eqb (length text) 0) (refuse s 22)
    (when (ltb max_text_bytes (length text)) (refuse s 22)
    (when (is_written (map_in kind (namespace_at s n)).state) (refuse s 1)
    (unless (capable_in s w n (set_id_of kind)) (refuse s 1) (write_lines_to by s kind w n text))))))

unfoldable pub write_map_of : Translation → State → Kind → ℕ → ℕ → List ℕ → Outcome
write_map_of by s kind c name text =
    on_found (caller_named s c) (refuse s 3) (λ w.
    on_found (process_named s w name) (refuse s 3) (λ p. write_map_to by s kind (process_at s w) (process_at s p).namespace text))

-- ---- setgroups file write
-- the bytes of "allow" and "deny"
abbrev pub allow_text : List ℕ
allow_text = 97 ∷ 108 ∷ 108 ∷ 111 ∷ 119 ∷ []

abbrev pub deny_text : List ℕ
deny_text = 100 ∷ 101 ∷ 110 ∷ 121 ∷ []

unfoldable pub same_bytes : List ℕ → List ℕ → Bool
same_bytes [] [] = true
same_bytes [] (b ∷ y) = false
same_bytes (a ∷ x) [] = false
same_bytes (a ∷ x) (b ∷ y) = eqb a b && same_bytes x y

-- a word, with or without one newline after
unfoldable pub is_word : List ℕ → List ℕ → Bool
is_word text word = same_bytes text word || same_bytes text (word ++ (10 ∷ []))

-- what a text sets: deny, allow, or nothing where it is neither
unfoldable pub setting_in : List ℕ → Option Bool
setting_in text = cond (is_word text deny_text) (Some true) (cond (is_word text allow_text) (Some false) None)

abbrev pub then_setting : {A : Type 0} → Option Bool → A → A → A → A
then_setting None other deny allow = other
then_setting (Some true) other deny allow = deny
then_setting (Some false) other deny allow = allow

unfoldable pub write_setgroups_to : State → Process → ℕ → List ℕ → Outcome
write_setgroups_to s w n text =
    unless (capable_in s w n cap_sys_admin) (refuse s 1)
    (then_setting (setting_in text) (refuse s 22)
    (when (is_written (namespace_at s n).groups.state) (refuse s 1) (record { reply = done; tables = put_namespace s n (with_deny (namespace_at s n) true) }))
    (when (namespace_at s n).deny (refuse s 1) (record { reply = done; tables = put_namespace s n (with_deny (namespace_at s n) false) })))

unfoldable pub write_setgroups_of : State → ℕ → ℕ → List ℕ → Outcome
write_setgroups_of s c name text =
    on_found (caller_named s c) (refuse s 3) (λ w.
    on_found (process_named s w name) (refuse s 3) (λ p. write_setgroups_to s (process_at s w) (process_at s p).namespace text))

-- ---- reads
-- what a read answers, and the buffer after it
pub record ReadOutcome : Type 0 where
  pub reply : Reply
  pub buffer : List ℕ

-- 34 if the buffer is shorter than the text; otherwise the text's length, and bytes beyond the text stay
unfoldable pub read_text : List ℕ → List ℕ → ReadOutcome
read_text text buffer = record { reply = cond (fits_at buffer 0 text) (bytes (length text)) (refused 34); buffer = put_at buffer 0 text }

-- field two is shown in the reader's namespace, or in the parent if the reader is in the target
unfoldable pub view_of : State → Process → ℕ → ℕ
view_of s r n = cond (eqb r.namespace n) (namespace_at s n).parent r.namespace

-- the start of a line's parent side as namespace v sees it; 4294967295 if it has none
abbrev pub seen_start : Translation → Kind → ℕ → Option ℕ → ℕ
seen_start by kind v (Some x) = or_no_id (by.back kind v x)
seen_start by kind v None = no_id

unfoldable pub shown_line : Translation → State → Kind → ℕ → ℕ → Line → Line
shown_line by s kind n v l = record {
  inside = l.inside;
  parent = seen_start by kind v (by.out kind (namespace_at s n).parent l.parent);
  count = l.count;
}

-- how many lines a map has
abbrev pub line_count : MapState → ℕ
line_count Unwritten = 0
line_count (Written n) = min n max_lines

-- the text of a map of namespace n, as namespace v sees it: lines in the order written
unfoldable pub map_text_of : Translation → State → Kind → ℕ → ℕ → List ℕ
map_text_of by s kind n v = lines_text (map (shown_line by s kind n v) (lines_of (map_in kind (namespace_at s n))))

unfoldable pub read_map_of : Translation → State → Kind → ℕ → ℕ → List ℕ → ReadOutcome
read_map_of by s kind c name buffer =
    on_found (caller_named s c) (record { reply = refused 3; buffer = buffer }) (λ r.
    on_found (process_named s r name) (record { reply = refused 3; buffer = buffer }) (λ p.
    read_text (map_text_of by s kind (process_at s p).namespace (view_of s (process_at s r) (process_at s p).namespace)) buffer))

unfoldable pub setting_text : Bool → List ℕ
setting_text deny = cond deny deny_text allow_text ++ (10 ∷ [])

unfoldable pub read_setgroups_of : State → ℕ → ℕ → List ℕ → ReadOutcome
read_setgroups_of s c name buffer =
    on_found (caller_named s c) (record { reply = refused 3; buffer = buffer }) (λ r.
    on_found (process_named s r name) (record { reply = refused 3; buffer = buffer }) (λ p.
    read_text (setting_text (namespace_at s (process_at s p).namespace).deny) buffer))
