-- `mapping::read::read_map` meets its contract. Assumes nothing.
use Rattle.std.proofs.Common.{◌≡◌, Some, ◌∙◌, sym, arith, rules}
use Rattle.tables.specs.Tables.{tables_of}
use Rattle.tables.specs.Find.{caller_named, process_named}
use Rattle.tables.proofs.Promises.{ok_given}
use Rattle.mapping.specs.Calls.{read_map_of}
use Rattle.mapping.proofs.Reading.{map_short, map_read}
use Rattle.mapping.proofs.read.read_map.Goals as goal

pub returns-then-buffer-count : goal.returns-then-buffer-count
unfolding read_map_of
returns-then-buffer-count c =
    let caller : caller_named (tables_of c.args.t.now) c.args.caller ≡ Some c.in_ok-reader.reader = sym c.find_caller.ensures ∙ ok_given _ _ _ c.ok_or.ensures.value _ c.in_ok-reader.was in
    let named : process_named (tables_of c.args.t.now) c.in_ok-reader.reader c.args.name ≡ Some c.in_ok-place.place = sym c.named_process.ensures ∙ ok_given _ _ _ c.ok_or-2.ensures.value _ c.in_ok-place.was in
    rw (caller, named, ← c.process_at-n.ensures)
    (map_short _ _ _ _ _ _ (c.map_in-map.ensures ∙ rw c.namespace_at.ensures) (search rules) _ c.line_count-count.ensures _ c.if-buffer-count.true)

pub returns : goal.returns
unfolding read_map_of
returns c =
    let caller : caller_named (tables_of c.args.t.now) c.args.caller ≡ Some c.in_ok-reader.reader = sym c.find_caller.ensures ∙ ok_given _ _ _ c.ok_or.ensures.value _ c.in_ok-reader.was in
    let named : process_named (tables_of c.args.t.now) c.in_ok-reader.reader c.args.name ≡ Some c.in_ok-place.place = sym c.named_process.ensures ∙ ok_given _ _ _ c.ok_or-2.ensures.value _ c.in_ok-place.was in
    rw (caller, named, ← c.process_at-n.ensures, ← c.process_at-r.ensures, ← c.view.ensures)
    (map_read _ _ _ _ _ _ (c.map_in-map.ensures ∙ rw c.namespace_at.ensures) (search rules) _ c.line_count-count.ensures _ _ (omega arith) c.put_lines.ensures)
