use Rattle.std.proofs.Common.{refl, subst}
use Rattle.rdb_pages.specs.declared.cell.Cell.{Cell}
use Rattle.rdb_cells.specs.Images.{Writes}
use Rattle.rdb_cells.specs.VersionFormat.{header_cell}
use Rattle.rdb_rows.specs.Versions.{header_of, stamped}
use Rattle.rdb_rows.proofs.Headers.{the_cell}
use Rattle.rdb_rows.proofs.VersionPlans.{relabelled}
use Rattle.rdb_rows.proofs.versions.with_stamp.Goals as goal

pub returns-clause-stamps : goal.returns-clause-stamps
returns-clause-stamps g c after writes v cells holds =
    let image = g.C.Cells.image c.args.cells.now in
    let at = c.args.version.number in
    let header = header_of v holds.first in
    let was = the_cell (image at) c.read.result.now (header_cell header) c.read.ensures holds.header in
    let now = c.with_stamp.ensures.whole header holds.labelled was in
    relabelled image after at v (stamped v c.args.stamp) cells holds refl holds.labelled (subst (λ (cell : Cell). Writes image after at cell) now writes)
