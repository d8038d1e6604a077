-- `idmap::show::number_text`: the columns from place k on are filled.
use Rattle.std.proofs.Common.{◌≡◌, ◌≤◌, length}
use Rattle.idmap.proofs.Shows.{Filled}
use Rattle.idmap.proofs.show.number_text.Given as goal

abbrev pub invariant-loop-k : goal.invariant-loop-k
invariant-loop-k l = record { within : l.k ≤ 9; long : length l.text ≡ 10; filled : Filled l.fn.n l.text l.v l.k }
