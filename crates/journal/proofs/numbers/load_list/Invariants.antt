-- The first i are in place. Assumes nothing.
use mathlib.Core.Path.{◌≡◌}
use lib.Seq.{paste}
use Rattle.journal.specs.Numbers.{numbers_at}
use Rattle.journal.proofs.numbers.load_list.Given as goal

abbrev pub invariant-loop-i : goal.invariant-loop-i
invariant-loop-i l = l.list ≡ paste l.fn.list 0 (numbers_at 4 l.count l.at l.s) l.i
