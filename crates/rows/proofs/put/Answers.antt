-- `put`: the code's tests are the one test whether the row fits, and the range that is copied over is the row.
use Rattle.std.proofs.Common.{arith, sym, inl, inr}
use Rattle.prelude.proofs.Parts.{fits_inside, fits_not, put_not, put_range}
use Rattle.rows.proofs.put.Goals as goal
use Rattle.rows.proofs.put.Goals.{then-t-at-via-then-t-at, then-t-at-via-else-t-at+then-t-at-2}

pub returns-then-t-at-clause-answer : goal.returns-then-t-at-clause-answer
returns-then-t-at-clause-answer g c = fits_not c.args.t.now c.args.at c.args.row.now (elim c.then-t-at.branch [
  | then-t-at-via-then-t-at w ↦ inl (omega arith)
  | then-t-at-via-else-t-at+then-t-at-2 w ↦ inr (omega arith)
])

pub returns-then-t-at-clause-stored : goal.returns-then-t-at-clause-stored
returns-then-t-at-clause-stored g c = put_not c.args.t.now c.args.at c.args.row.now (elim c.then-t-at.branch [
  | then-t-at-via-then-t-at w ↦ inl (omega arith)
  | then-t-at-via-else-t-at+then-t-at-2 w ↦ inr (omega arith)
])

pub returns-clause-answer : goal.returns-clause-answer
returns-clause-answer g c = sym (fits_inside c.args.t.now c.args.at c.args.row.now (omega arith))

pub returns-clause-stored : goal.returns-clause-stored
returns-clause-stored g c = put_range c.args.t.now c.args.at c.args.row.now _ (omega arith) c.copy_from_slice.ensures.after
