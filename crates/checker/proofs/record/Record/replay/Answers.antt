use Rattle.std.proofs.Common.{arith}
use Rattle.checker.proofs.Refusing.{lent_tests}
use Rattle.checker.proofs.record.Record.replay.Goals as goal

pub returns-in_err-replay-clause-run : goal.returns-in_err-replay-clause-run
returns-in_err-replay-clause-run g c = λ accepted. record {
  accepted = grind (arith, lent_tests);
  run = grind (arith, lent_tests);
  length_kept = grind (arith, lent_tests);
}

pub returns-clause-run : goal.returns-clause-run
returns-clause-run g c = λ accepted. grind (arith, lent_tests)
