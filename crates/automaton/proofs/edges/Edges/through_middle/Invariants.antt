use Rattle.std.proofs.Common.{◌≡◌}
use Rattle.scale.specs.Semiring.{combined}
use Rattle.automaton.specs.Automaton.{below}
use Rattle.automaton.specs.Edges.{edges_of}
use Rattle.automaton.proofs.Combined.{through}
use Rattle.automaton.proofs.edges.Edges.through_middle.Given as goal

abbrev pub invariant-loop-middle : goal.invariant-loop-middle
invariant-loop-middle g l =
    let s = g.S.Scale.values in
    let value = g.S.Scale.value in
    value l.sum ≡ combined s (below l.middle (through s (edges_of s value l.self) (value l.weight) l.from l.first l.second l.to))
