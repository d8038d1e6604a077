-- `idmap::lookup::lookup_inside` meets its contract. Assumes nothing.
use Rattle.idmap.proofs.Lookups.{translated_back}
use Rattle.idmap.proofs.lookup.lookup_inside.Goals as goal

pub returns : goal.returns
returns c = translated_back _ _ _ _ _ c.lookup.ensures
