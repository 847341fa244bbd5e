use Rattle.std.proofs.Common.{arith}
use Rattle.worklist.proofs.Keeping.{laid_empty}
use Rattle.worklist.proofs.ring.Ring.new.Goals as goal

pub invariant_of-result-2 : goal.invariant_of-result-2
invariant_of-result-2 c = laid_empty c.args.slots.now 0 (omega arith)
