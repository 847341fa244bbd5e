use Rattle.std.proofs.Common.{arith}
use Rattle.checker.proofs.Refusing.{lent_tests}
use Rattle.checker.proofs.record.Record.check_edge.Goals as goal

pub returns-then-from-sizes : goal.returns-then-from-sizes
returns-then-from-sizes g c = λ es w. grind (arith, lent_tests)

pub returns-then-symbol-sizes : goal.returns-then-symbol-sizes
returns-then-symbol-sizes g c = λ es w. grind (arith, lent_tests)

pub returns-then-to-sizes-2 : goal.returns-then-to-sizes-2
returns-then-to-sizes-2 g c = λ es w. grind (arith, lent_tests)

pub returns : goal.returns
returns g c = λ es w. grind (arith, lent_tests)
