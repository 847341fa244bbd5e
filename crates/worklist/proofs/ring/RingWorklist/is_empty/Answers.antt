use Rattle.worklist.specs.Rings.{used}
use Rattle.worklist.proofs.Queue.{no_slot}
use Rattle.worklist.proofs.ring.RingWorklist.is_empty.Goals as goal

pub returns : goal.returns
returns c =
    let ring = c.self.inside in
    rw (← c.self.view_is) (no_slot (used ring.slots.now) ring.slots.now ring.head ring.len)
