use Rattle.worked.proofs.Taken.{may_settle_so}
use Rattle.worked.proofs.smallest_first_settles.Goals as goal

pub returns : goal.returns
returns g c = may_settle_so g.S.Scale.values
