-- `map_reader::text::read_text`: the lines so far, with those of the text that is left, are the text's lines, and the bytes so
-- far, with those that are still to be read, are all that are read.
use Rattle.std.proofs.Common.{◌≡◌, ◌+◌, ◌-◌, ◌≤◌, length, drop, replicate}
use Rattle.idmap.specs.Line.{no_line}
use Rattle.idmap.specs.Good.{max_lines}
use Rattle.idmap.specs.Text.{text_lines}
use Rattle.idmap.proofs.Texts.{lines_from}
use Rattle.map_reader.specs.Scan.{bytes_read}
use Rattle.map_reader.proofs.Texts.{bytes_left}
use Rattle.map_reader.proofs.text.read_text.Given as goal

abbrev pub invariant-loop-rest : goal.invariant-loop-rest
invariant-loop-rest l = record {
  few : l.count ≤ max_lines;
  long : length l.lines ≡ max_lines;
  empty : drop l.count l.lines ≡ replicate (max_lines - l.count) no_line;
  cut : l.bytes + length l.rest ≡ length l.text;
  same : text_lines l.text ≡ lines_from l.rest l.lines l.count;
  counted : bytes_read l.text ≡ bytes_left l.rest l.count l.bytes;
}

abbrev pub decreases-loop-rest : goal.decreases-loop-rest
decreases-loop-rest l = max_lines - l.count
