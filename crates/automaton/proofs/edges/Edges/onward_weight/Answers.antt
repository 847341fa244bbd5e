use Rattle.std.proofs.Common.{arith}
use Rattle.automaton.proofs.Combined.{combined_more}
use Rattle.automaton.proofs.Places.{value_read}
use Rattle.automaton.proofs.edges.Edges.onward_weight.Goals as goal

pub loop-to-preserved : goal.loop-to-preserved
loop-to-preserved g c = grind (arith, value_read, combined_more g.S.Scale.values g.met.S.Scale.combines)
