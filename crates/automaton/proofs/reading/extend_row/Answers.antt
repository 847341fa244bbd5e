use Rattle.std.proofs.Common.{map, arith}
use Rattle.std.proofs.lemmas.Grind.{common_steps}
use Rattle.scale.specs.Semiring.{combined}
use Rattle.automaton.specs.Automaton.{below}
use Rattle.automaton.specs.Edges.{edges_of}
use Rattle.automaton.specs.Rows.{at_place, onward}
use Rattle.automaton.proofs.RowFacts.{written_more, place_front}
use Rattle.automaton.proofs.reading.extend_row.Goals as goal

pub loop-from-preserved : goal.loop-from-preserved
loop-from-preserved g c =
    let a = c.args in
    let s = g.S.Scale.values in
    let value = g.S.Scale.value in
    let z = a.edges.now.sizes in
    written_more s value c.loop-from.weight-items c.loop-from.from c.onward_weight.result
    (λ k. combined s (below z.states (onward s (edges_of s value a.edges.now) (at_place s (map value a.row.now)) k a.symbol)))
    (omega arith) c.loop-from.invariant c.onward_weight.ensures

pub returns : goal.returns
returns g c = λ k h. grind (arith, common_steps, place_front)
