use Rattle.std.proofs.Common.{◌≡◌, map}
use Rattle.scale.specs.Semiring.{combined}
use Rattle.automaton.specs.Automaton.{below}
use Rattle.automaton.specs.Edges.{edges_of}
use Rattle.automaton.specs.Rows.{at_place, onward}
use Rattle.automaton.proofs.edges.Edges.onward_weight.Given as goal

abbrev pub invariant-loop-to : goal.invariant-loop-to
invariant-loop-to g l =
    let s = g.S.Scale.values in
    let value = g.S.Scale.value in
    value l.sum ≡ combined s (below l.to (onward s (edges_of s value l.self) (at_place s (map value l.state_weights)) l.from l.symbol))
