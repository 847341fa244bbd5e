use Rattle.std.proofs.Common.{◌≡◌, ◌<◌, Bool, false, if◌then◌else◌, [], ◌∷◌, slice_index_or, arith}
use Rattle.std.proofs.lemmas.Grind.{common_steps}
use Rattle.scale.specs.Semiring.{combined}
use Rattle.automaton.proofs.RowFacts.{written_more, combined_one}
use Rattle.automaton.proofs.reading.start_row.Goals as goal
use Rattle.automaton.proofs.reading.start_row.Goals.{then-is_final, else-is_final}

pub loop-state-preserved : goal.loop-state-preserved
loop-state-preserved g c =
    let s = g.S.Scale.values in
    let value = g.S.Scale.value in
    let state = c.loop-state.state in
    let start = λ (b : Bool). combined s (if b then s.one ∷ [] else []) in
    let one = combined_one s g.met.S.Scale.combines s.one in
    let is : value c.if-is_final.scratch ≡ start (slice_index_or c.args.finals.now state false) =
    elim c.if-is_final.branch [ then-is_final w ↦ grind (arith, common_steps) | else-is_final w ↦ grind (arith, common_steps) ] in
    let within : state < c.args.states = grind (arith, common_steps) in
    written_more s value c.loop-state.scratch state c.if-is_final.scratch (λ k. start (slice_index_or c.args.finals.now k false)) (omega arith) c.loop-state.invariant is
