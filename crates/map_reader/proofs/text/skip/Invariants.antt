-- `map_reader::text::skip`: `c` is seen, and the blanks from `from` on end where those from `c` on do.
use Rattle.std.proofs.Common.{◌≡◌, ◌-◌, length}
use Rattle.idmap.specs.Scan.{skipped}
use Rattle.map_reader.specs.Scan.{seen_at}
use Rattle.map_reader.proofs.text.skip.Given as goal

abbrev pub invariant-loop-c : goal.invariant-loop-c
invariant-loop-c l = record { seen : l.c ≡ seen_at l.s l.c.at; same : skipped l.s l.fn.from.at ≡ skipped l.s l.c.at }

abbrev pub decreases-loop-c : goal.decreases-loop-c
decreases-loop-c l = length l.s - l.c.at
