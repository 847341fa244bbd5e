use Rattle.std.proofs.Common.{◌≡◌, ℕ, ◌<◌, false, if◌then◌else◌, [], ◌∷◌, map, slice_index_or}
use Rattle.scale.specs.Semiring.{combined}
use Rattle.automaton.specs.Rows.{at_place}
use Rattle.automaton.proofs.reading.start_row.Given as goal

abbrev pub invariant-loop-state : goal.invariant-loop-state
invariant-loop-state g l =
    let s = g.S.Scale.values in
    (k : ℕ) → k < l.state → at_place s (map g.S.Scale.value l.scratch) k ≡ combined s (if slice_index_or l.finals k false then s.one ∷ [] else [])
