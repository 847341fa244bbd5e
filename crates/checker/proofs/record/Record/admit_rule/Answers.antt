use Rattle.std.proofs.Common.{arith}
use Rattle.checker.proofs.Refusing.{lent_tests}
use Rattle.checker.proofs.record.Record.admit_rule.Goals as goal

pub returns-in_err-check_editing : goal.returns-in_err-check_editing
returns-in_err-check_editing g c = λ es w. grind (arith, lent_tests)

pub returns-then-control-sizes : goal.returns-then-control-sizes
returns-then-control-sizes g c = λ es w. grind (arith, lent_tests)

pub returns-then-symbol-sizes : goal.returns-then-symbol-sizes
returns-then-symbol-sizes g c = λ es w. grind (arith, lent_tests)

pub returns-in_err-word : goal.returns-in_err-word
returns-in_err-word g c = λ es w. grind (arith, lent_tests)

pub returns-then-live_rules-sizes : goal.returns-then-live_rules-sizes
returns-then-live_rules-sizes g c = λ es w. grind (arith, lent_tests)

pub returns : goal.returns
returns g c = λ es w. grind (arith, lent_tests)
