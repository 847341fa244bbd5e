use Rattle.std.proofs.Common.{rules}
use Rattle.runs.proofs.Replayed.{replays}
use Rattle.runs.proofs.replay.replay.Goals as goal

pub returns-clause-run : goal.returns-clause-run
returns-clause-run g c =
    replays g.S.Scale.values g.met.S.Scale.extends _ _ _ _ _ _ _ _ _ c.if-height-buffer.false (search rules)
