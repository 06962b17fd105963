use Rattle.std.proofs.Common.{[], None, refl, ap, ◌∙◌, arith}
use Rattle.rdb_cells.specs.VersionFormat.{header_cell}
use Rattle.rdb_cells.specs.Work.{work}
use Rattle.rdb_cells.proofs.WorkLemmas.{take_work, put_work, take_is, put_is, one_left}
use Rattle.rdb_rows.specs.Versions.{Version}
use Rattle.rdb_rows.proofs.Puttings.{puts_nothing}
use Rattle.rdb_rows.proofs.VersionPlans.{puts_version, version_takes, both_lowest, header_put}
use Rattle.rdb_rows.proofs.versions.put_tombstone.Goals as goal

pub take-at-requires : goal.take-at-requires
take-at-requires g c = one_left (work g.C.Cells c.args.cells.now) c.requires.free

pub returns-clause-puts : goal.returns-clause-puts
returns-clause-puts g c =
    let w0 = work g.C.Cells c.args.cells.now in
    let at = c.take-at.result in
    let v : Version = record { label = c.args.label.now; row = None } in
    let w1 = take_work w0 at in
    let nothing = puts_nothing w1 [] refl in
    let taken = take_is g.C.Cells c.args.cells.now c.take-at.new.self w0 at refl c.take-at.ensures.taken in
    let put = put_is g.C.Cells c.take-at.new.self c.put.new.self w1 at c.to_cell.result taken c.put.ensures.plan
    ∙ ap (put_work w1 at) (c.to_cell.ensures.value ∙ ap header_cell c.header_of.ensures)
    ∙ header_put w0 w1 at.number 0 [] c.take-at.ensures.lowest nothing v refl at refl in
    puts_version w0 at.number v nothing.row_cells c.requires.label (omega arith) (λ place. omega arith) nothing.count (both_lowest w0 w1 at.number 0 [] c.take-at.ensures.lowest nothing) (work g.C.Cells c.put.new.self) put

pub returns-clause-takes : goal.returns-clause-takes
returns-clause-takes g c =
    let w0 = work g.C.Cells c.args.cells.now in
    let at = c.take-at.result in
    let v : Version = record { label = c.args.label.now; row = None } in
    let w1 = take_work w0 at in
    let nothing = puts_nothing w1 [] refl in
    let taken = take_is g.C.Cells c.args.cells.now c.take-at.new.self w0 at refl c.take-at.ensures.taken in
    let put = put_is g.C.Cells c.take-at.new.self c.put.new.self w1 at c.to_cell.result taken c.put.ensures.plan
    ∙ ap (put_work w1 at) (c.to_cell.ensures.value ∙ ap header_cell c.header_of.ensures)
    ∙ header_put w0 w1 at.number 0 [] c.take-at.ensures.lowest nothing v refl at refl in
    version_takes w0 at.number v nothing.row_cells c.requires.label (omega arith) (λ place. omega arith) nothing.count (both_lowest w0 w1 at.number 0 [] c.take-at.ensures.lowest nothing) (work g.C.Cells c.put.new.self) put
