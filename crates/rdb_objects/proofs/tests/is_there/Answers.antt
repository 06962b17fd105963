use Rattle.rdb_objects.proofs.TestLemmas.{has_object}
use Rattle.rdb_objects.proofs.tests.is_there.Goals as goal

pub returns-in-Some : goal.returns-in-Some
returns-in-Some g c there = has_object (g.C.Cells.image c.args.cells.now) c.args.id c.in-Some.field-0 c.requires c.in-Some.ensures
