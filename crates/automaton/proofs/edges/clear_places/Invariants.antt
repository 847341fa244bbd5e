use Rattle.std.proofs.Common.{◌≡◌, map, take, replicate}
use Rattle.automaton.proofs.edges.clear_places.Given as goal

abbrev pub invariant-loop-place : goal.invariant-loop-place
invariant-loop-place g l = map g.S.Scale.value (take l.place-index l.place-items) ≡ replicate l.place-index g.S.Scale.values.none
