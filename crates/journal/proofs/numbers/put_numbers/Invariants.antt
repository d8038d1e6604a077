-- What is left goes behind what is in place. Assumes nothing.
use mathlib.Core.List.{map}
use Rattle.prelude.specs.Parts.{put_at}
use Rattle.journal.specs.Numbers.{all_big_endian}
use Rattle.journal.proofs.Puts.{Rest}
use Rattle.journal.proofs.numbers.put_numbers.Given as goal

abbrev pub invariant-loop-x : goal.invariant-loop-x
invariant-loop-x g l =
    let xs = map g.T.Number.value l.numbers in
    Rest l.buffer (put_at l.fn.buffer l.at (all_big_endian l.width xs)) l.place l.width xs l.x-index
