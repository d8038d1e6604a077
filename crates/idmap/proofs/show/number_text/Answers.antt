-- `idmap::show::number_text` meets its contract. Assumes nothing.
use Rattle.idmap.proofs.Shows.{shows}
use Rattle.idmap.proofs.show.number_text.Goals as goal

pub loop-k-init : goal.loop-k-init
loop-k-init c = search shows

pub loop-k-preserved : goal.loop-k-preserved
loop-k-preserved c = search shows

pub returns : goal.returns
returns c = search shows
