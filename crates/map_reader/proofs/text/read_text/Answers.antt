-- `map_reader::text::read_text` meets its contract. Assumes nothing.
use Rattle.std.proofs.Common.{◌≡◌, ◌<◌, length, refl, arith, rules}
use Rattle.idmap.proofs.Texts.{lines_start}
use Rattle.prelude.proofs.Lists.{rest_empty}
use Rattle.idmap.specs.Line.{no_line}
use Rattle.idmap.specs.Good.{max_lines}
use Rattle.map_reader.proofs.Texts.{bytes_start, bytes_fit, cut_next, read_full, read_none, read_bad, read_good, end_within, broken_within, read_broken, line_next, bytes_again}
use Rattle.map_reader.proofs.text.read_text.Goals as goal
use Rattle.map_reader.proofs.text.read_text.Goals.{then-count-eq0, else-count-eq0}

pub loop-rest-init : goal.loop-rest-init
loop-rest-init c = record { few = omega arith; long = refl; empty = refl; cut = omega arith; same = lines_start _ _; counted = bytes_start _ }

pub returns-then-count-eq-MAX_LINES : goal.returns-then-count-eq-MAX_LINES
returns-then-count-eq-MAX_LINES c =
    let inv = c.loop-rest.invariant in
    read_full _ _ _ _ _ inv.same inv.counted (search rules) c.if-count-eq-MAX_LINES.true inv.long

pub slice_bounds-rest-count : goal.slice_bounds-rest-count
slice_bounds-rest-count c =
    let inv = c.loop-rest.invariant in
    end_within _ _ _ _ _ inv.same inv.counted _ c.parse_line.ensures (search rules) _ _ c.in-Ok.is

pub slice_bounds-rest-start : goal.slice_bounds-rest-start
slice_bounds-rest-start c = slice_bounds-rest-count c

pub overflow_add-bytes : goal.overflow_add-bytes
overflow_add-bytes c =
    let inv = c.loop-rest.invariant in
    bytes_fit _ _ _ _ inv.cut (end_within _ _ _ _ _ inv.same inv.counted _ c.parse_line.ensures (search rules) _ _ c.in-Ok.is) (search rules)

pub loop-rest-preserved : goal.loop-rest-preserved
loop-rest-preserved c =
    let inv = c.loop-rest.invariant in
    let more : 0 < length c.loop-rest.rest.now = search rules in
    let open-place = c.if-count-eq-MAX_LINES.false in
    let within = end_within _ _ _ _ _ inv.same inv.counted _ c.parse_line.ensures more _ _ c.in-Ok.is in
    record {
      few = omega arith;
      long = search rules;
      empty = rest_empty _ _ max_lines no_line inv.empty _ (omega arith);
      cut = cut_next _ _ _ _ inv.cut within;
      same = line_next _ _ _ _ _ inv.same inv.counted _ c.parse_line.ensures more inv.few open-place _ _ c.in-Ok.is inv.long;
      counted = bytes_again _ _ _ _ _ inv.same inv.counted _ c.parse_line.ensures more inv.few open-place _ _ c.in-Ok.is;
    }

pub overflow_add-result : goal.overflow_add-result
overflow_add-result c =
    let inv = c.loop-rest.invariant in
    bytes_fit _ _ _ _ inv.cut (broken_within _ _ _ _ _ inv.same inv.counted _ c.parse_line.ensures (search rules) _ c.in-Err.is) (search rules)

pub returns-in-Err : goal.returns-in-Err
returns-in-Err c =
    let inv = c.loop-rest.invariant in
    read_broken _ _ _ _ _ inv.same inv.counted _ c.parse_line.ensures (search rules) inv.few c.if-count-eq-MAX_LINES.false _ c.in-Err.is

pub returns-then-not-good : goal.returns-then-not-good
returns-then-not-good c =
    let inv = c.loop-rest.invariant in
    let end : length c.loop-rest.rest.now ≡ 0 = search rules in
    elim c.if-count-eq0.branch [
      | then-count-eq0 w ↦ read_none _ _ _ _ _ inv.same inv.counted end inv.few inv.long w.if-count-eq0.true
      | else-count-eq0 w ↦ read_bad _ _ _ _ _ inv.same inv.counted end inv.few inv.long w.if-count-eq0.false (search rules)
    ]

pub returns-else-not-good : goal.returns-else-not-good
returns-else-not-good c =
    let inv = c.loop-rest.invariant in
    let end : length c.loop-rest.rest.now ≡ 0 = search rules in
    elim c.if-count-eq0.branch [
      | then-count-eq0 w ↦ absurd (search rules)
      | else-count-eq0 w ↦ read_good _ _ _ _ _ inv.same inv.counted end inv.few inv.long inv.empty w.if-count-eq0.false (search rules)
    ]
