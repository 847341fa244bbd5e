use Rattle.std.proofs.Common.{refl}
use Rattle.worklist.proofs.Marks.{all_clear}
use Rattle.worklist.proofs.mark_table.MarkTableWorklist.clear.Goals as goal

pub returns : goal.returns
returns c = record { kept = refl; set = all_clear }
