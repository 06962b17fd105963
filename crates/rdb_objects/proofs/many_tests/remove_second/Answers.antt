use Rattle.rdb_cells.specs.Work.{work}
use Rattle.rdb_objects.proofs.TestLemmas.{some_removed}
use Rattle.rdb_objects.proofs.many_tests.remove_second.Goals as goal

pub newest_version-requires-clause-holds : goal.newest_version-requires-clause-holds
newest_version-requires-clause-holds g c = some_removed 0 (work g.C.Cells c.args.cells.now) (work g.C.Cells c.remove_version.new.cells) c.args.id c.second_version-second.result c.remove_version.ensures.removes c.requires.holds

pub second_version-requires : goal.second_version-requires
second_version-requires g c = some_removed 0 (work g.C.Cells c.args.cells.now) (work g.C.Cells c.remove_version.new.cells) c.args.id c.second_version-second.result c.remove_version.ensures.removes c.requires.holds

pub returns-clause-holds : goal.returns-clause-holds
returns-clause-holds g c = some_removed 0 (work g.C.Cells c.args.cells.now) (work g.C.Cells c.remove_version.new.cells) c.args.id c.second_version-second.result c.remove_version.ensures.removes c.requires.holds
