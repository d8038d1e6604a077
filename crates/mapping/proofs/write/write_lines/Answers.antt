-- `mapping::write::write_lines` meets its contract. Assumes nothing.
use Rattle.std.proofs.Common.{◌≡◌, ◌∙◌, sym, Err, rules}
use Rattle.tables.specs.declared.answer.Errno.TheVariants.{EINVAL}
use Rattle.tables.proofs.Promises.{ok_given, err_given}
use Rattle.mapping.proofs.Writes.{read_as, read_none, lines_bad, lines_denied, lines_not_whole, lines_done}
use Rattle.mapping.proofs.write.write_lines.Goals as goal

pub returns-in_err-read : goal.returns-in_err-read
returns-in_err-read c =
    let given = err_given _ _ _ c.ok_or.ensures.value _ c.in_err-read.was in
    let e : c.from_residual.result ≡ Err EINVAL = search rules in
    rw e (lines_bad _ _ _ _ _ _ c.requires (read_none _ (sym c.parse_map.ensures ∙ given.0)))

pub returns-then-not-may_map : goal.returns-then-not-may_map
returns-then-not-may_map c =
    let read = read_as _ _ (sym c.parse_map.ensures ∙ ok_given _ _ _ c.ok_or.ensures.value _ c.in_ok-read.was) in
    lines_denied _ _ _ _ _ _ c.requires _ read _ c.as_slice-lines.ensures _ c.may_map.ensures c.if-not-may_map.true

pub returns-then-not-all_whole : goal.returns-then-not-all_whole
returns-then-not-all_whole c =
    let read = read_as _ _ (sym c.parse_map.ensures ∙ ok_given _ _ _ c.ok_or.ensures.value _ c.in_ok-read.was) in
    lines_not_whole _ _ _ _ _ _ c.requires _ read _ c.as_slice-lines.ensures _ c.may_map.ensures c.if-not-may_map.false _ c.map_lines.ensures _ c.all_whole.ensures c.if-not-all_whole.true

pub returns : goal.returns
returns c =
    let read = read_as _ _ (sym c.parse_map.ensures ∙ ok_given _ _ _ c.ok_or.ensures.value _ c.in_ok-read.was) in
    lines_done _ _ _ _ _ _ c.requires _ read _ c.as_slice-lines.ensures _ c.may_map.ensures c.if-not-may_map.false _ c.map_lines.ensures _ c.all_whole.ensures
    _ _ c.if-not-all_whole.false c.kernel_starts-kernel.ensures c.map_put.ensures
