use Rattle.std.proofs.Common.{arith}
use Rattle.std.proofs.lemmas.Grind.{common_steps}
use Rattle.std.proofs.lemmas.List.{map-set}
use Rattle.automaton.proofs.edges.raise_edge.Goals as goal

pub returns-clause-edges : goal.returns-clause-edges
returns-clause-edges g c = grind (arith, common_steps, map-set)
