use Rattle.std.proofs.Common.{[], None}
use Rattle.rdb_cells.specs.Keys.{Sayings}
use Rattle.rdb_cells.specs.Memory.{memory_image}
use Rattle.rdb_rtree.specs.RtreeLaws.{rtree_starts_empty}
use Rattle.rdb_rtree.proofs.tests.listed.Goals as goal

pub refs-requires : goal.refs-requires
refs-requires g c =
    let said : Sayings = record { version_of = λ n. None; hash_of = λ key. 0 } in
    (said, [], [], rtree_starts_empty c.args.tree.now.class c.args.tree.now.head.number said (memory_image c.args.cells.now) c.empty_head_at.ensures)
