use Rattle.std.proofs.Common.{arith}
use Rattle.checker.proofs.Refusing.{outcomes}
use Rattle.checker.proofs.record.Record.question.Goals as goal

pub returns-in_err-weight-clause-did : goal.returns-in_err-weight-clause-did
returns-in_err-weight-clause-did g c = λ ws. grind (arith, outcomes, c.in_err-weight.ensures.answer ws (g.K.Worklist.waiting c.args.worklist.now) (g.K.Worklist.room c.args.worklist.now))

pub returns-clause-did : goal.returns-clause-did
returns-clause-did g c = λ ws. grind (arith, outcomes, c.in_ok-weight.ensures.answer ws (g.K.Worklist.waiting c.args.worklist.now) (g.K.Worklist.room c.args.worklist.now))
