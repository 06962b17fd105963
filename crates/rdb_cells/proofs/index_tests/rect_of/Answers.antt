use Rattle.std.proofs.Common.{IsSome, rules}
use Rattle.rdb_cells.specs.Keys.{box_of}
use Rattle.rdb_cells.specs.Memory.{memory_image}
use Rattle.rdb_cells.specs.OneKey.{version_of_header}
use Rattle.rdb_cells.proofs.KeyLemmas.{held_version}
use Rattle.rdb_cells.proofs.index_tests.rect_of.Goals as goal

pub rect-requires : goal.rect-requires
rect-requires g c =
    let there : IsSome (box_of c.args.keys.now.key) = search rules in
    (version_of_header c.args.keys.now.key c.header_at-header.result.now, held_version c.args.keys.now.key (memory_image c.args.cells.now 1) c.header_at-header.result.now c.header_at-header.ensures.held c.header_at-header.ensures.kind, there)
