-- `idmap::text::parse_map` meets its contract. Assumes nothing.
use Rattle.std.proofs.Common.{◌≡◌, ◌<◌, Some, length, ◌∙◌, sym, refl, arith, rules}
use Rattle.idmap.proofs.Texts.{lines_start, lines_full, lines_none, lines_bad, lines_good, line_broken, line_fits, line_next, rest_padded}
use Rattle.idmap.proofs.text.parse_map.Goals as goal
use Rattle.idmap.proofs.text.parse_map.Goals.{then-count-eq0-via-then-count-eq0, then-count-eq0-via-else-count-eq0+then-not-good}

pub loop-rest-init : goal.loop-rest-init
loop-rest-init c = record { few = omega arith; long = refl; empty = refl; same = lines_start _ _ }

pub returns-then-count-eq-MAX_LINES : goal.returns-then-count-eq-MAX_LINES
returns-then-count-eq-MAX_LINES c =
    lines_full _ _ _ _ c.loop-rest.invariant.same (search rules) c.if-count-eq-MAX_LINES.true c.loop-rest.invariant.long

pub returns-in_err-l : goal.returns-in_err-l
returns-in_err-l c = c.from_residual.ensures ∙ line_broken _ _ _ _ c.loop-rest.invariant.same _ c.parse_line.ensures (search rules) c.in_err-l.was

pub slice_bounds-rest-count : goal.slice_bounds-rest-count
slice_bounds-rest-count c =
    line_fits _ _ _ _ c.loop-rest.invariant.same _ c.parse_line.ensures (search rules) c.in_ok-l.l c.in_ok-l.used c.in_ok-l.was

pub slice_bounds-rest-start : goal.slice_bounds-rest-start
slice_bounds-rest-start c = slice_bounds-rest-count c

pub loop-rest-preserved : goal.loop-rest-preserved
loop-rest-preserved c =
    let read = c.parse_line.ensures in
    let more : 0 < length c.loop-rest.rest.now = search rules in
    let told : c.parse_line.result ≡ Some (c.in_ok-l.l, c.in_ok-l.used) = c.in_ok-l.was in
    let inv = c.loop-rest.invariant in
    let open-place = c.if-count-eq-MAX_LINES.false in
    record {
      few = omega arith;
      long = search rules;
      empty = rest_padded _ _ _ _ inv.same _ read more inv.few open-place inv.long _ _ told inv.empty;
      same = line_next _ _ _ _ inv.same _ read more inv.few open-place inv.long _ _ told;
    }

pub returns-then-count-eq0 : goal.returns-then-count-eq0
returns-then-count-eq0 c =
    let inv = c.loop-rest.invariant in
    let end : length c.loop-rest.rest.now ≡ 0 = search rules in
    elim c.then-count-eq0.branch [
      | then-count-eq0-via-then-count-eq0 w ↦ lines_none _ _ _ _ inv.same end inv.few inv.long w.if-count-eq0.true
      | then-count-eq0-via-else-count-eq0+then-not-good w ↦
          lines_bad _ _ _ _ inv.same end inv.few inv.long w.if-count-eq0.false (sym w.if-not-good.ensures)
    ]

pub returns : goal.returns
returns c =
    let inv = c.loop-rest.invariant in
    lines_good _ _ _ _ inv.same (search rules) inv.few inv.long inv.empty c.if-count-eq0.false (sym c.if-not-good.ensures)
