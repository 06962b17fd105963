use Rattle.rdb_cells.specs.Work.{work, reading}
use Rattle.rdb_objects.proofs.TestLemmas.{has_newest, some_removed}
use Rattle.rdb_objects.proofs.tests.remove.Goals as goal

pub remove_version-requires-clause-version : goal.remove_version-requires-clause-version
remove_version-requires-clause-version g c = has_newest (reading (work g.C.Cells c.args.cells.now)) c.args.id c.in-Some.version c.requires.holds c.in-Some.ensures

pub returns-clause-holds : goal.returns-clause-holds
returns-clause-holds g c =
    let w = work g.C.Cells c.args.cells.now in
    some_removed 0 w (work g.C.Cells c.remove_version.new.cells) c.args.id c.in-Some.version c.remove_version.ensures.removes c.requires.holds
