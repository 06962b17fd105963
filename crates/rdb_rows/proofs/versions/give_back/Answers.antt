use Rattle.std.proofs.Common.{ℕ, refl, sym, ap, subst}
use Rattle.rdb_pages.specs.Pages.{zero_cell}
use Rattle.rdb_cells.specs.VersionFormat.{header_cell}
use Rattle.rdb_cells.specs.Work.{Work, work, reading, TakesNone}
use Rattle.rdb_cells.proofs.WorkLemmas.{put_is, put_takes_none, none_then}
use Rattle.rdb_rows.specs.Plans.{Clears}
use Rattle.rdb_rows.specs.Rows.{HoldsRow}
use Rattle.rdb_rows.specs.Versions.{bytes_in, header_of}
use Rattle.rdb_rows.proofs.Headers.{the_cell}
use Rattle.rdb_rows.proofs.VersionPlans.{version_cleared, header_spent}
use Rattle.rdb_rows.proofs.versions.give_back.Goals as goal

pub returns-clause-gives_back : goal.returns-clause-gives_back
returns-clause-gives_back g c v cells holds =
    let w0 = work g.C.Cells c.args.cells.now in
    let w1 = work g.C.Cells c.clear_row.new.cells in
    let at = c.args.version in
    let header = header_of v holds.first in
    let is = c.of_cell-header.ensures.inverse header holds.labelled (the_cell (reading w0 at.number) c.planned.result.now (header_cell header) c.planned.ensures.planned holds.header) in
    let row : HoldsRow (reading w0) c.of_cell-header.result.first_row.number (bytes_in v.row) holds.row_cells = subst (λ (n : ℕ). HoldsRow (reading w0) n (bytes_in v.row) holds.row_cells) (sym (ap (λ h. h.first_row.number) is)) holds.row in
    let clears = c.clear_row.ensures.clears (bytes_in v.row) holds.row_cells (sym (ap (λ h. h.row_length) is)) row in
    let put = put_is g.C.Cells c.clear_row.new.cells c.put.new.self w1 at zero_cell refl c.put.ensures.plan in
    subst (λ (u : Work). Clears w0 u cells) (sym put)
    (version_cleared w0 w1 at.number v cells (ap g.C.Cells.image c.clear_row.ensures.below.0) holds clears at refl)

pub returns-clause-takes_none : goal.returns-clause-takes_none
returns-clause-takes_none g c =
    let w0 = work g.C.Cells c.args.cells.now in
    let w1 = work g.C.Cells c.clear_row.new.cells in
    let at = c.args.version in
    let has = c.requires.version in
    let v = has.version in
    let holds = has.holds in
    let header = header_of v holds.first in
    let is = c.of_cell-header.ensures.inverse header holds.labelled (the_cell (reading w0 at.number) c.planned.result.now (header_cell header) c.planned.ensures.planned holds.header) in
    let row : HoldsRow (reading w0) c.of_cell-header.result.first_row.number (bytes_in v.row) holds.row_cells = subst (λ (n : ℕ). HoldsRow (reading w0) n (bytes_in v.row) holds.row_cells) (sym (ap (λ h. h.first_row.number) is)) holds.row in
    let clears = c.clear_row.ensures.clears (bytes_in v.row) holds.row_cells (sym (ap (λ h. h.row_length) is)) row in
    let spent = header_spent w0 w1 at.number v has.cells (ap g.C.Cells.image c.clear_row.ensures.below.0) holds clears in
    let put = put_is g.C.Cells c.clear_row.new.cells c.put.new.self w1 at zero_cell refl c.put.ensures.plan in
    none_then w0 w1 (work g.C.Cells c.put.new.self) c.clear_row.ensures.takes_none (subst (TakesNone w1) (sym put) (put_takes_none w1 at zero_cell spent))
