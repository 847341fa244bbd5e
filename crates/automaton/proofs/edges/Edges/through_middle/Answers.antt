use Rattle.std.proofs.Common.{arith}
use Rattle.automaton.proofs.Combined.{combined_more, through_none_more}
use Rattle.automaton.proofs.edges.Edges.through_middle.Goals as goal
use Rattle.automaton.proofs.edges.Edges.through_middle.Goals.{then-not-same, else-not-same}

pub loop-middle-preserved : goal.loop-middle-preserved
loop-middle-preserved g c =
    let s = g.S.Scale.values in
    let laws = g.met.S.Scale in
    elim c.if-not-same.branch [
      | then-not-same w ↦ grind (arith, combined_more s laws.combines)
      | else-not-same w ↦ grind (arith, through_none_more s laws.combines laws.absorbs, laws.tells)
    ]
