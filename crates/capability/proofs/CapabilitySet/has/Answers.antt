-- `has` meets its contract. Assumes nothing.
use Rattle.capability.proofs.Words.{words}
use Rattle.capability.proofs.CapabilitySet.has.Goals as goal

pub returns-then-capability-lt-WORD_BITS : goal.returns-then-capability-lt-WORD_BITS
returns-then-capability-lt-WORD_BITS c = search words

pub returns-else-capability-lt-WORD_BITS : goal.returns-else-capability-lt-WORD_BITS
returns-else-capability-lt-WORD_BITS c = search words
