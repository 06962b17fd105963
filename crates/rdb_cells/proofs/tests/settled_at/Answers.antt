use Rattle.std.proofs.Common.{rules}
use Rattle.rdb_cells.specs.Images.{IsCell}
use Rattle.rdb_cells.specs.Memory.{memory_image}
use Rattle.rdb_cells.proofs.SettledLemmas.{settled_cell}
use Rattle.rdb_cells.proofs.tests.settled_at.Goals as goal

pub settled-requires : goal.settled-requires
settled-requires g c =
    let there : IsCell (memory_image c.args.cells.now) c.args.number = search rules in
    settled_cell c.over.result.records (memory_image c.over.result.cells.now) c.args.number (rw c.over.ensures there)
