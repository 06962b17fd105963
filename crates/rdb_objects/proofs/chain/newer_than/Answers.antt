use Rattle.std.proofs.Common.{◌≡◌, ◌≢◌, rules}
use Rattle.rdb_objects.proofs.ChainLemmas.{seeking_first, seeking_there, seeking_found, seeking_more, seeking_never}
use Rattle.rdb_objects.proofs.chain.newer_than.Goals as goal

pub loop-init : goal.loop-init
loop-init g c behind = seeking_first (g.C.Cells.image c.args.cells.now) c.args.newest c.args.version behind

pub read-requires : goal.read-requires
read-requires g c = seeking_there (g.C.Cells.image c.args.cells.now) c.args.newest c.args.version c.requires c.loop.counter c.loop.newer (c.loop.invariant c.requires)

pub returns-then-eq : goal.returns-then-eq
returns-then-eq g c =
    let same : c.older_in-older.result ≡ c.args.version = search rules in
    seeking_found (g.C.Cells.image c.args.cells.now) c.args.newest c.args.version c.requires c.loop.counter c.loop.newer (c.loop.invariant c.requires) c.read.result.now c.older_in-older.result c.read.ensures c.older_in-older.ensures same

pub loop-preserved : goal.loop-preserved
loop-preserved g c behind =
    let other : c.older_in-older.result ≢ c.args.version = search rules in
    seeking_more (g.C.Cells.image c.args.cells.now) c.args.newest c.args.version behind c.loop.counter c.loop.newer (c.loop.invariant behind) c.read.result.now c.older_in-older.result c.read.ensures c.older_in-older.ensures other

pub unreachable-requires : goal.unreachable-requires
unreachable-requires g c =
    seeking_never (g.C.Cells.image c.args.cells.now) c.args.newest c.args.version c.requires c.loop.counter c.loop.newer (c.loop.invariant c.requires) (g.C.Cells.class_of c.args.cells.now) c.bounded.ensures c.loop-test.false
