use Rattle.std.proofs.Common.{◌≡◌, ℕ, ◌<◌, map}
use Rattle.scale.specs.Semiring.{combined}
use Rattle.automaton.specs.Automaton.{below}
use Rattle.automaton.specs.Edges.{edges_of}
use Rattle.automaton.specs.Rows.{at_place, onward}
use Rattle.automaton.proofs.reading.extend_row.Given as goal

abbrev pub invariant-loop-from : goal.invariant-loop-from
invariant-loop-from g l =
    let s = g.S.Scale.values in
    let value = g.S.Scale.value in
    (k : ℕ) → k < l.from → at_place s (map value l.weight-items) k
    ≡ combined s (below l.edges.sizes.states (onward s (edges_of s value l.edges) (at_place s (map value l.row)) k l.symbol))
