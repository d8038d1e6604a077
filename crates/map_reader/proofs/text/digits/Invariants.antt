-- `map_reader::text::digits`: `c` is seen, and `v` is the value of the digits up to it.
use Rattle.std.proofs.Common.{◌≡◌, ◌-◌, ◌≤◌, length, drop}
use Rattle.idmap.specs.Good.{no_id}
use Rattle.map_reader.specs.Scan.{seen_at, number_from, number_at}
use Rattle.map_reader.proofs.text.digits.Given as goal

abbrev pub invariant-loop-v : goal.invariant-loop-v
invariant-loop-v l = record {
  small : l.v ≤ no_id;
  seen : l.c ≡ seen_at l.s l.c.at;
  same : number_at l.s l.first.at ≡ number_from l.s l.first.at l.v l.c.at (drop l.c.at l.s);
}

abbrev pub decreases-loop-v : goal.decreases-loop-v
decreases-loop-v l = length l.s - l.c.at
