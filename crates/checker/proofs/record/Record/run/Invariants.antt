use Rattle.std.proofs.Common.{◌≡◌, ◌*◌, ◌≤◌, drop}
use Rattle.automaton.specs.Limits.{edge_count}
use Rattle.checker.specs.Views.{lent}
use Rattle.checker.proofs.Stepping.{Made}
use Rattle.checker.proofs.record.Record.run.Given as goal

abbrev pub invariant-loop-steps : goal.invariant-loop-steps
invariant-loop-steps g l =
    let k = g.K.Worklist in
    let value = g.S.Scale.value in
    record {
      made : Made g.S.Scale.values
          (lent value k.waiting k.room l.self l.initial.edges l.weights l.initial.worklist)
          (lent value k.waiting k.room l.self l.edges l.weights l.worklist)
          l.raises l.steps;
      few : l.raises ≤ 64 * l.steps;
      kept : k.room l.worklist ≡ k.room l.initial.worklist;
      rest : drop (edge_count l.self.sizes) l.edges ≡ drop (edge_count l.self.sizes) l.initial.edges;
    }
