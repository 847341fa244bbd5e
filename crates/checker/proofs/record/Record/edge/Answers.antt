use Rattle.std.proofs.Common.{[], arith}
use Rattle.worklist.specs.Sets.{empty}
use Rattle.checker.proofs.Refusing.{lent_tests, outcomes}
use Rattle.checker.proofs.record.Record.edge.Goals as goal

pub returns-in_err-check_edge-clause-did : goal.returns-in_err-check_edge-clause-did
returns-in_err-check_edge-clause-did g c = λ ws. grind (arith, outcomes, c.in_err-check_edge.ensures ws (g.K.Worklist.waiting c.args.worklist.now))

pub unwrap-changed-requires : goal.unwrap-changed-requires
unwrap-changed-requires g c =
    grind (arith, lent_tests, c.in_ok-check_edge.ensures [] empty)

pub put_readers-requires : goal.put_readers-requires
put_readers-requires g c = grind (arith, lent_tests, c.in_ok-check_edge.ensures [] empty)

pub returns-then-changed-clause-did : goal.returns-then-changed-clause-did
returns-then-changed-clause-did g c = λ ws. grind (arith, outcomes, lent_tests, c.in_ok-check_edge.ensures ws (g.K.Worklist.waiting c.args.worklist.now))

pub returns-else-changed-clause-did : goal.returns-else-changed-clause-did
returns-else-changed-clause-did g c = λ ws. grind (arith, outcomes, lent_tests, c.in_ok-check_edge.ensures ws (g.K.Worklist.waiting c.args.worklist.now))
