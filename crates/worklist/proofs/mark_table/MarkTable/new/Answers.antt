use Rattle.worklist.proofs.Marks.{all_clear}
use Rattle.worklist.proofs.mark_table.MarkTable.new.Goals as goal

pub returns : goal.returns
returns c = all_clear
