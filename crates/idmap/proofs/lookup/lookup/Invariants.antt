-- `idmap::lookup::lookup`: what the lines that are left answer is the answer.
use Rattle.std.proofs.Common.{◌≡◌, length}
use Rattle.idmap.specs.Line.{lines_by}
use Rattle.idmap.specs.Lookup.{lookup_of}
use Rattle.idmap.proofs.lookup.lookup.Given as goal

abbrev pub invariant-loop-left : goal.invariant-loop-left
invariant-loop-left l = lookup_of (lines_by l.from l.to l.words) l.id ≡ lookup_of (lines_by l.from l.to l.left) l.id

abbrev pub decreases-loop-left : goal.decreases-loop-left
decreases-loop-left l = length l.left
