-- `get`: what the two ranges of the code leave is the part.
use Rattle.std.proofs.Common.{arith}
use Rattle.prelude.proofs.Parts.{part_kept}
use Rattle.rows.proofs.get.Goals as goal

pub returns : goal.returns
returns g c = part_kept c.args.width c.args.at c.args.t.now _ _ (omega arith) (omega arith)
