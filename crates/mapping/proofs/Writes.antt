-- The write of a map, in the words of the code: the lines that are read, the kernel starts that are made for them, and each
-- way out. Assumes nothing.
use Rattle.std.proofs.Common.{◌≡◌, ℕ, ◌+◌, ◌-◌, ◌<◌, ◌≤◌, Bool, true, false, Option, Some, None, Ok, Err, List, [], ◌∷◌, ◌++◌, ◌&&◌, map, length, get_or, take, set, replicate, refl, sym, ap, ◌∙◌, subst, arith, take_all}
use lib.ListN.{length-map}
use Rattle.std.specs.List.{list_all}
use Rattle.std.proofs.lemmas.List.{get_or-map}
use lib.Seq.{take-append_seam}
use Rattle.prelude.proofs.Lists.{MadeTo, made_starts, made_step, made_ends}
use Rattle.idmap.specs.declared.Line.{Line}
use Rattle.idmap.specs.declared.MapLines.{MapLines}
use Rattle.idmap.specs.Line.{no_line, lines_in}
use Rattle.idmap.specs.Good.{max_lines}
use Rattle.idmap.specs.Lookup.{or_no_id}
use Rattle.idmap.specs.Ranges.{whole_by_reach}
use Rattle.idmap.specs.Text.{map_lines, map_text, padded}
use Rattle.records.specs.declared.MapState.TheVariants.{Written}
use Rattle.records.specs.declared.Kind.{Kind}
use Rattle.records.specs.declared.IdMap.{IdMap}
use Rattle.records.specs.declared.Process.{Process}
use Rattle.records.specs.declared.Namespace.{Namespace}
use Rattle.records.specs.Records.{map_in, LinesOf}
use Rattle.tables.specs.declared.answer.Errno.TheVariants.{EPERM, EINVAL}
use Rattle.tables.specs.declared.answer.Answer.TheVariants.{Done}
use Rattle.tables.specs.Tables.{tables_of, namespace_at, starts_at, put_map}
use Rattle.tables.specs.Reply.{Promise}
use Rattle.tables.proofs.Promises.{refuses, answers}
use Rattle.hierarchy.specs.Walks.{Translation}
use Rattle.hierarchy.specs.KernelStarts.{to_kernel, whole_in, by_kernel_starts, kernel_starts}
use Rattle.mapping.specs.Calls.{may_map, all_whole, written_map, mapped_tables, write_lines_to}

-- ---- kernel_starts: the first i are made
pub StartsTo : (ℕ → Option ℕ) → List Line → List ℕ → ℕ → Type 0
StartsTo out ls r i = MadeTo max_lines 0 (map (λ (l : Line). or_no_id (out l.parent)) ls) r i

module _ (out : ℕ → Option ℕ) (ls : List Line) where
  abbrev start : Line → ℕ
  start l = or_no_id (out l.parent)

  pub starts_none : StartsTo out ls (replicate max_lines 0) 0
  unfolding StartsTo
  starts_none = made_starts max_lines 0 (map start ls)

  module _ (r : List ℕ) (i : ℕ) (inv : StartsTo out ls r i) (long : length r ≡ max_lines) where
    pub starts_more : (x : ℕ) → length ls ≤ max_lines → i < length ls → x ≡ or_no_id (out (get_or ls i no_line).parent) → StartsTo out ls (set r i x) (i + 1)
    unfolding StartsTo
    starts_more x few h e =
        let read : x ≡ get_or (map start ls) i 0 = e ∙ sym (get_or-map start ls i no_line 0 h) in
        let below : i < length (map start ls) = omega (arith, length-map ls start) in
        rw read (made_step max_lines 0 (map start ls) r i inv long 0 (omega arith) below)

    pub starts_all : length ls ≤ max_lines → i ≡ length ls → r ≡ kernel_starts out ls
    unfolding StartsTo kernel_starts
    starts_all few e =
        made_ends max_lines 0 (map start ls) r i inv long (omega arith)
        ∙ rw e (ap (λ (l : List ℕ). l ++ replicate (max_lines - length ls) 0) (take_all (length ls) (map start ls) (omega (arith, length-map ls start))))

-- ---- the lines that are read
pub record ReadAs (o : Option (List Line)) (m : MapLines) : Type 0 where
  pub lines : o ≡ Some (take m.count m.lines)
  pub count : length (take m.count m.lines) ≡ m.count
  pub padded_lines : padded (take m.count m.lines) ≡ m.lines

pub read_as : (o : Option (List Line)) (m : MapLines) → map_text o ≡ Some m → ReadAs o m
unfolding map_text padded
read_as None m e = absurd (let z : ◌≡◌ {A = ℕ} 0 1 = cc in omega arith)
read_as (Some ls) m e =
    let same : ◌≡◌ {A = MapLines} (record { count = length ls; lines = padded ls }) m = cc in
    let seam : take (length ls) (padded ls) ≡ ls = take-append_seam ls (replicate (max_lines - length ls) no_line) in
    subst (λ (r : MapLines). ReadAs (Some ls) r) same (record { lines = ap Some (sym seam); count = ap length seam; padded_lines = ap padded seam })

pub read_none : (o : Option (List Line)) → map_text o ≡ None → o ≡ None
unfolding map_text
read_none None e = refl
read_none (Some ls) e = absurd (let z : ◌≡◌ {A = ℕ} 0 1 = cc in omega arith)

-- the definition's test of all lines is the library's
pub all_whole_list : (whole : ℕ → ℕ → Bool) (ls : List Line) → list_all (λ (l : Line). whole l.parent l.count) ls ≡ all_whole whole ls
unfolding all_whole
all_whole_list whole [] = refl
all_whole_list whole (l ∷ ls) = ap (λ t. whole l.parent l.count && t) (all_whole_list whole ls)

-- ---- write_lines
module _ (l text : List ℕ) (kind : Kind) (w : Process) (n : ℕ) (m : Namespace) (tgt : m ≡ namespace_at (tables_of l) n) where
  abbrev by : Translation
  by = by_kernel_starts (tables_of l)

  by_starts : by.out ≡ to_kernel (tables_of l)
  unfolding by_kernel_starts
  by_starts = refl

  pub lines_bad : map_lines text ≡ None → Promise (Err EINVAL) l l (write_lines_to by (tables_of l) kind w n text)
  unfolding write_lines_to
  lines_bad z = refuses EINVAL l (write_lines_to by (tables_of l) kind w n text) (sym (rw z))

  module _ (r : MapLines) (read : ReadAs (map_lines text) r) (ls : List Line) (same : ls ≡ take r.count r.lines) (t : Bool) (q : t ≡ may_map by (tables_of l) kind w m ls) where
    read_lines : map_lines text ≡ Some ls
    read_lines = read.lines ∙ ap Some (sym same)

    read_map_lem : ◌≡◌ {A = IdMap} (record { state = Written r.count; lines = r.lines }) (written_map ls)
    read_map_lem = rw same (λ i. record { state = Written (sym read.count i); lines = sym read.padded_lines i })

    pub lines_denied : t ≡ false → Promise (Err EPERM) l l (write_lines_to by (tables_of l) kind w n text)
    unfolding write_lines_to
    lines_denied y = refuses EPERM l (write_lines_to by (tables_of l) kind w n text) (sym (rw (read_lines, ← tgt, ← q, y)))

    module _ (y : t ≡ true) (ws : List ℕ) (above : LinesOf ws (map_in kind (namespace_at (tables_of l) m.parent)) (starts_at (tables_of l) kind m.parent)) (u : Bool)
        (g : u ≡ list_all (λ (l : Line). whole_by_reach (lines_in ws) l.parent l.count) ls) where
      whole_above : u ≡ all_whole (by.whole kind m.parent) ls
      unfolding by_kernel_starts whole_in
      whole_above = rw above.written at (g ∙ all_whole_list (whole_by_reach (lines_in ws)) ls)

      pub lines_not_whole : u ≡ false → Promise (Err EPERM) l l (write_lines_to by (tables_of l) kind w n text)
      unfolding write_lines_to
      lines_not_whole z = refuses EPERM l (write_lines_to by (tables_of l) kind w n text) (sym (rw (read_lines, ← tgt, ← q, y, ← whole_above, z)))

      pub lines_done : (kernel l' : List ℕ) → u ≡ true → kernel ≡ kernel_starts (to_kernel (tables_of l) kind m.parent) ls
          → tables_of l' ≡ put_map (tables_of l) kind n (record { state = Written r.count; lines = r.lines }) kernel → Promise (Ok Done) l l' (write_lines_to by (tables_of l) kind w n text)
      unfolding write_lines_to mapped_tables
      lines_done kernel l' z c p =
          answers Done l l' (write_lines_to by (tables_of l) kind w n text) refl
          (rw (read_lines, ← tgt, ← q, y, ← whole_above, z, p, read_map_lem, c, by_starts))
