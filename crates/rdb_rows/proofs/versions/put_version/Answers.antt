use Rattle.std.proofs.Common.{◌≡◌, ◌+◌, length, Some, refl, sym, ap, subst, ◌∙◌, arith}
use Rattle.rdb_cells.specs.VersionFormat.{header_cell}
use Rattle.rdb_cells.specs.Work.{Work, work, HasLeft}
use Rattle.rdb_cells.proofs.WorkLemmas.{take_work, put_work, take_is, put_is, take_one}
use Rattle.rdb_rows.specs.Plans.{PutsRow}
use Rattle.rdb_rows.specs.Rows.{cells_for}
use Rattle.rdb_rows.specs.Versions.{Version}
use Rattle.rdb_rows.proofs.Puttings.{some_left, row_places}
use Rattle.rdb_rows.proofs.VersionPlans.{puts_version, version_takes, version_places, both_lowest, header_put}
use Rattle.rdb_rows.proofs.versions.put_version.Goals as goal

pub take-at-requires : goal.take-at-requires
take-at-requires g c = some_left (work g.C.Cells c.args.cells.now) (cells_for (length c.args.bytes.now) + 1) (omega arith) c.requires.free

pub put_row-first_row-requires-clause-free : goal.put_row-first_row-requires-clause-free
put_row-first_row-requires-clause-free g c =
    let w0 = work g.C.Cells c.args.cells.now in
    let taken = take_is g.C.Cells c.args.cells.now c.take-at.new.self w0 c.take-at.result refl c.take-at.ensures.taken in
    subst (λ (u : Work). HasLeft u (cells_for (length c.args.bytes.now))) (sym taken)
    ((take_one w0 c.take-at.result c.take-at.ensures.lowest).enough (cells_for (length c.args.bytes.now)) c.requires.free)

pub put-requires-clause-room : goal.put-requires-clause-room
put-requires-clause-room g c unnamed =
    let w0 = work g.C.Cells c.args.cells.now in
    let at = c.take-at.result in
    let taken = take_is g.C.Cells c.args.cells.now c.take-at.new.self w0 at refl c.take-at.ensures.taken in
    let w2 = work g.C.Cells c.put_row-first_row.new.cells in
    let puts = subst (λ (u : Work). PutsRow u w2 c.put_row-first_row.result.number c.args.bytes.now) taken c.put_row-first_row.ensures.puts in
    let places = row_places (take_work w0 at) w2 c.put_row-first_row.result.number c.args.bytes.now puts in
    let room : w2.room ≡ w0.room = ap (λ (u : Work). u.room) puts.planned in
    let enough = c.requires.places in
    omega arith

pub returns-clause-puts : goal.returns-clause-puts
returns-clause-puts g c =
    let w0 = work g.C.Cells c.args.cells.now in
    let at = c.take-at.result in
    let bytes = c.args.bytes.now in
    let first = c.put_row-first_row.result in
    let v : Version = record { label = c.args.label.now; row = Some bytes } in
    let taken = take_is g.C.Cells c.args.cells.now c.take-at.new.self w0 at refl c.take-at.ensures.taken in
    let w2 = work g.C.Cells c.put_row-first_row.new.cells in
    let puts = subst (λ (u : Work). PutsRow u w2 first.number bytes) taken c.put_row-first_row.ensures.puts in
    let put = put_is g.C.Cells c.put_row-first_row.new.cells c.put.new.self w2 at c.to_cell.result refl c.put.ensures.plan
    ∙ ap (put_work w2 at) (c.to_cell.ensures.value ∙ ap header_cell c.header_of-header.ensures)
    ∙ header_put w0 w2 at.number first.number bytes c.take-at.ensures.lowest puts v refl at refl in
    puts_version w0 at.number v puts.row_cells c.requires.label c.requires.short (λ place. let fits = c.type_inv.bytes place in omega arith) puts.count
    (both_lowest w0 w2 at.number first.number bytes c.take-at.ensures.lowest puts) (work g.C.Cells c.put.new.self) put

pub returns-clause-takes : goal.returns-clause-takes
returns-clause-takes g c =
    let w0 = work g.C.Cells c.args.cells.now in
    let at = c.take-at.result in
    let bytes = c.args.bytes.now in
    let v : Version = record { label = c.args.label.now; row = Some bytes } in
    let puts = returns-clause-puts g c in
    version_takes w0 at.number v puts.row_cells c.requires.label c.requires.short (λ place. let fits = c.type_inv.bytes place in omega arith) puts.count puts.lowest (work g.C.Cells c.put.new.self) puts.planned

pub returns-clause-places : goal.returns-clause-places
returns-clause-places g c =
    let w0 = work g.C.Cells c.args.cells.now in
    let at = c.take-at.result in
    let bytes = c.args.bytes.now in
    let v : Version = record { label = c.args.label.now; row = Some bytes } in
    let puts = returns-clause-puts g c in
    version_places w0 at.number v puts.row_cells c.requires.label c.requires.short (λ place. let fits = c.type_inv.bytes place in omega arith) puts.count puts.lowest (work g.C.Cells c.put.new.self) puts.planned
