use Rattle.std.proofs.Common.{[], arith}
use Rattle.worklist.specs.Sets.{empty}
use Rattle.checker.proofs.Refusing.{lent_tests, outcomes}
use Rattle.checker.proofs.record.Record.ask.Goals as goal

pub read-requires : goal.read-requires
read-requires g c =
    let accepted = c.in_ok-check_question.ensures [] empty 0 in
    record {
      edges = grind (arith, lent_tests);
      scratch = grind (arith, lent_tests);
      control = grind (arith, lent_tests);
      word = grind (arith, lent_tests);
    }

pub returns-in_err-check_question-clause-answer : goal.returns-in_err-check_question-clause-answer
returns-in_err-check_question-clause-answer g c = λ ws w m. grind (arith, outcomes, c.in_err-check_question.ensures ws w m)

pub returns-clause-answer : goal.returns-clause-answer
returns-clause-answer g c = λ ws w m. grind (arith, outcomes, c.in_ok-check_question.ensures ws w m, c.read.ensures ws w m)
