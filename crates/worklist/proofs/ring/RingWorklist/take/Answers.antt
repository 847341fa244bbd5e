use Rattle.std.proofs.Common.{◌≡◌, ◌+◌, slice_index, Some, sym, ap, ◌∙◌, arith}
use Rattle.worklist.specs.Sets.{without}
use Rattle.worklist.specs.Rings.{used, around, member}
use Rattle.worklist.proofs.Keeping.{Take, take}
use Rattle.worklist.proofs.ring.RingWorklist.take.Goals as goal
use Rattle.worklist.proofs.ring.RingWorklist.take.Goals.{After-around-self-inside}

made : (c : After-around-self-inside) → Take c.self.inside c.around-self-inside.result
made c =
    let r = c.self.inside in
    let size : c.capacity-capacity.result ≡ used r.slots.now = c.capacity-capacity.ensures ∙ sym (ap (λ v. v.capacity) c.self.view_is) in
    let place = c.around-self-inside.ensures ∙ ap (λ k. around k (r.head + 1)) size in
    take r c.self.invariant (omega arith) _ place (omega arith)

pub invariant_of-self : goal.invariant_of-self
invariant_of-self c = (made (goal.at.invariant_of-self c).After-around-self-inside).laid

pub returns-clause-set : goal.returns-clause-set
returns-clause-set c =
    let number = slice_index c.self.inside.slots.now c.self.inside.head in
    (made (goal.at.returns-clause-set c).After-around-self-inside).left ∙ ap (λ v. without (member v.numbers) (Some number)) c.self.view_is
