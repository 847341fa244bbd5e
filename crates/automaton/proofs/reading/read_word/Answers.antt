use Rattle.std.proofs.Common.{arith}
use Rattle.std.proofs.lemmas.Bool.Decides.{nat_tests}
use Rattle.automaton.proofs.Places.{value_read}
use Rattle.automaton.proofs.reading.read_word.Goals as goal

pub returns-then-can_read-clause-weight : goal.returns-then-can_read-clause-weight
returns-then-can_read-clause-weight g c = grind (arith, nat_tests, value_read, c.fold_word.ensures c.args.from)
