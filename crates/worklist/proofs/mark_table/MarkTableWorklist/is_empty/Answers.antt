use Rattle.worklist.proofs.Marks.{is_empty_from_search}
use Rattle.worklist.proofs.mark_table.MarkTableWorklist.is_empty.Goals as goal

pub returns : goal.returns
returns c =
    rw (← c.self.view_is) (is_empty_from_search c.contains.result c.self.inside.marks c.self.told c.contains.ensures.cases)
