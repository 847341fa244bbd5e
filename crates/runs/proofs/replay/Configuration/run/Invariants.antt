use Rattle.std.proofs.Common.{◌≡◌, map, drop}
use Rattle.runs.specs.Stacks.{replayed}
use Rattle.runs.specs.Points.{start, standing}
use Rattle.runs.proofs.replay.Configuration.run.Given as goal

-- what the entries ahead make of the run is what all of them make of its start
abbrev pub invariant-loop-place : goal.invariant-loop-place
invariant-loop-place g l =
    let s = g.S.Scale.values in
    let value = g.S.Scale.value in
    let ws = map value l.weighted.weights.now in
    record {
      same : l.self.buffer.ghost_name ≡ l.initial.self.buffer.ghost_name;
      ahead : replayed s l.weighted.rules.now ws l.place (drop l.place l.numbers) (standing l.self.control l.self.height (value l.weight)) l.self.buffer.now
          ≡ replayed s l.weighted.rules.now ws 0 l.numbers (start s l.initial.self.control l.initial.self.height) l.initial.self.buffer.now;
    }
