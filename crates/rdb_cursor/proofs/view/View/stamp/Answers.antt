use Rattle.rdb_cursor.proofs.Walks.{counted_by, counted_done}
use Rattle.rdb_cursor.proofs.view.View.stamp.Goals as goal

pub returns-in-By : goal.returns-in-By
returns-in-By g c v cells holds =
    counted_by (g.M.Marks.marked c.args.self.now.marks.now) c.mark.result c.in-By.tx c.stamp_in-stamp.result v.label.stamp c.counted.result c.counted.ensures c.in-By.is c.mark.ensures (c.stamp_in-stamp.ensures v cells holds)

pub returns-in-Done : goal.returns-in-Done
returns-in-Done g c v cells holds = counted_done (g.M.Marks.marked c.args.self.now.marks.now) c.in-Done.field-0 c.stamp_in-stamp.result v.label.stamp c.in-Done.is (c.stamp_in-stamp.ensures v cells holds)
