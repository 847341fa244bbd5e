use Rattle.worklist.proofs.Keeping.{laid_empty}
use Rattle.worklist.proofs.ring.RingWorklist.clear.Goals as goal

pub invariant_of-self : goal.invariant_of-self
invariant_of-self c = laid_empty c.self.inside.slots.now c.self.inside.head c.self.invariant.starts
