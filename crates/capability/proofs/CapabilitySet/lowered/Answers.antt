-- `lowered` meets its contract. Assumes nothing.
use Rattle.capability.proofs.Words.{words}
use Rattle.capability.proofs.CapabilitySet.lowered.Goals as goal

pub returns : goal.returns
returns c = search words
