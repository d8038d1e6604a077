-- `idmap::text::parse_map`: the lines so far, with those of the text that is left, are the text's lines.
use Rattle.std.proofs.Common.{◌≡◌, ◌-◌, ◌≤◌, length, drop, replicate}
use Rattle.idmap.specs.Line.{no_line}
use Rattle.idmap.specs.Good.{max_lines}
use Rattle.idmap.specs.Text.{text_lines}
use Rattle.idmap.proofs.Texts.{lines_from}
use Rattle.idmap.proofs.text.parse_map.Given as goal

abbrev pub invariant-loop-rest : goal.invariant-loop-rest
invariant-loop-rest l = record {
  few : l.count ≤ max_lines;
  long : length l.lines ≡ max_lines;
  empty : drop l.count l.lines ≡ replicate (max_lines - l.count) no_line;
  same : text_lines l.text ≡ lines_from l.rest l.lines l.count;
}

abbrev pub decreases-loop-rest : goal.decreases-loop-rest
decreases-loop-rest l = max_lines - l.count
