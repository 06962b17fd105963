use Rattle.std.proofs.Common.{ℕ, sym, ap, subst}
use Rattle.rdb_cells.specs.VersionFormat.{header_cell}
use Rattle.rdb_rows.specs.Rows.{HoldsRow}
use Rattle.rdb_rows.specs.Versions.{bytes_in, header_of}
use Rattle.rdb_rows.proofs.Headers.{the_cell}
use Rattle.rdb_rows.proofs.versions.row_bytes.Goals as goal

pub returns : goal.returns
returns g c v cells holds =
    let image = g.C.Cells.image c.args.cells.now in
    let header = header_of v holds.first in
    let is = c.of_cell-header.ensures.inverse header holds.labelled (the_cell (image c.args.version.number) c.read.result.now (header_cell header) c.read.ensures holds.header) in
    let row : HoldsRow image c.of_cell-header.result.first_row.number (bytes_in v.row) holds.row_cells = subst (λ (n : ℕ). HoldsRow image n (bytes_in v.row) holds.row_cells) (sym (ap (λ h. h.first_row.number) is)) holds.row in
    c.read_row.ensures (bytes_in v.row) holds.row_cells (sym (ap (λ h. h.row_length) is)) row
