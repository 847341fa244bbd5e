use Rattle.checker.proofs.Woken.{woken_all}
use Rattle.checker.proofs.readers.put_readers.Goals as goal

pub returns-clause-set : goal.returns-clause-set
returns-clause-set g c = woken_all _ _ c.args.rules.now c.args.symbol c.loop-number.number c.loop-number.invariant.woken c.loop-number-test.false
