use Rattle.std.proofs.Common.{◌≡◌, ◌+◌, [], ◌∷◌, ◌++◌, slice_set, sym, ap, ◌∙◌, arith}
use Rattle.worklist.specs.Rings.{used, around, queue, member, after_put}
use Rattle.worklist.proofs.Keeping.{Put, put}
use Rattle.worklist.proofs.Ordering.{new_after_put, put_set}
use Rattle.worklist.proofs.ring.RingWorklist.put.Goals as goal
use Rattle.worklist.proofs.ring.RingWorklist.put.Goals.{After-around-end}

made : (c : After-around-end) → Put c.self.inside c.around-end.result c.args.number
made c =
    let r = c.self.inside in
    let size : c.capacity-capacity.result ≡ used r.slots.now = c.capacity-capacity.ensures ∙ sym (ap (λ v. v.capacity) c.self.view_is) in
    let place = c.around-end.ensures ∙ ap (λ k. around k (r.head + r.len)) size in
    let new = ap (λ v. member v.numbers c.args.number) c.self.view_is ∙ sym c.if-not-waits.ensures in
    put r c.self.invariant (omega arith) _ _ place (omega arith) new

order : (c : After-around-end) → queue (slice_set c.self.inside.slots.now c.around-end.result c.args.number) c.self.inside.head (c.self.inside.len + 1) ≡ after_put c.args.self.now.capacity c.args.self.now.numbers c.args.number
order c =
    let v = c.args.self.now in
    (made c).order ∙ ap (λ v. v.numbers ++ c.args.number ∷ []) c.self.view_is
    ∙ new_after_put v.capacity v.numbers c.args.number (omega arith) (sym c.if-not-waits.ensures)

pub invariant_of-self-inside : goal.invariant_of-self-inside
invariant_of-self-inside c = let m = (made (goal.at.invariant_of-self-inside c).After-around-end).written in (m.low, (m.once, tt))

pub invariant_of-self-inside-then-not-waits : goal.invariant_of-self-inside-then-not-waits
invariant_of-self-inside-then-not-waits c =
    let m = (made (goal.at.invariant_of-self-inside-then-not-waits c).After-around-end).counted in (m.low, (m.once, tt))

pub invariant_of-self : goal.invariant_of-self
invariant_of-self c = (made (goal.at.invariant_of-self c).After-around-end).marked

pub returns-then-not-waits-clause-set : goal.returns-then-not-waits-clause-set
returns-then-not-waits-clause-set c =
    let v = c.args.self.now in
    ap member (order (goal.at.returns-then-not-waits-clause-set c).After-around-end) ∙ put_set v.capacity v.numbers c.args.number

pub returns-then-not-waits-clause-order : goal.returns-then-not-waits-clause-order
returns-then-not-waits-clause-order c = order (goal.at.returns-then-not-waits-clause-order c).After-around-end
