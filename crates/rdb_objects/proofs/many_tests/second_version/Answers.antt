use Rattle.rdb_cells.specs.Records.{planned}
use Rattle.rdb_objects.proofs.WriteLemmas.{newest_there, has_second}
use Rattle.rdb_objects.proofs.many_tests.second_version.Goals as goal

pub planned-requires : goal.planned-requires
planned-requires g c =
    newest_there (planned c.args.cells.now.plan.pairs (g.C.Cells.image c.args.cells.now.cells)) c.args.id c.in-Some.newest c.requires c.in-Some.ensures

pub returns : goal.returns
returns g c some =
    has_second (planned c.args.cells.now.plan.pairs (g.C.Cells.image c.args.cells.now.cells)) c.args.id c.in-Some.newest c.planned.result.now c.older_in.result
    c.requires c.in-Some.ensures c.planned.ensures.planned c.older_in.ensures some
