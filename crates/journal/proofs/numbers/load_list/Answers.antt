-- `journal::numbers::load_list` meets its contract. Assumes nothing.
use native.Mathlib.Omega.{arith}
use Rattle.journal.proofs.Gets.{list_done}
use Rattle.journal.proofs.numbers.load_list.Goals as goal

pub returns : goal.returns
returns c =
    list_done c.args.at c.args.count c.args.s.now c.args.list.now c.loop-i.list c.loop-i.i c.requires.1 (omega arith) (omega arith) c.loop-i.invariant
