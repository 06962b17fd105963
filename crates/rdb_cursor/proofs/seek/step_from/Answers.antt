use Rattle.std.proofs.Common.{◌∙◌, ℕ, List, Option, sym, ap, subst}
use Rattle.rdb_pages.specs.declared.cell.CellRef.{CellRef}
use Rattle.rdb_rows.specs.RowKeys.{key_meaning}
use Rattle.rdb_model.specs.Index.{key}
use Rattle.rdb_store.specs.ClassIndexes.{index_nature}
use Rattle.rdb_store.specs.Lookups.{IsNext}
use Rattle.rdb_cursor.proofs.KeyIndexes.{stands_by, next_is, seek_ends, next_row, header_of_row, next_fits, seek_finds, step_passes}
use Rattle.rdb_cursor.proofs.seek.step_from.Goals as goal

pub seek-requires-clause-stands : goal.seek-requires-clause-stands
seek-requires-clause-stands g c = stands_by c.args.view.now.class.now (g.C.Cells.image c.args.view.now.cells.now) (g.C.Cells.class_of c.args.view.now.cells.now) c.requires.look c.args.index c.index-keyed.result.now c.index-keyed.ensures

pub returns-in_default : goal.returns-in_default
returns-in_default g c objects holds =
    seek_ends c.args.view.now.class.now (g.C.Cells.image c.args.view.now.cells.now) (g.C.Cells.class_of c.args.view.now.cells.now) c.requires.look c.args.index c.index-keyed.result.now c.index-keyed.ensures objects holds c.requires.tree c.args.place.now c.args.up (g.M.Marks.marked c.args.view.now.marks.now) c.args.view.now.reader
    (sym (next_is c.args.view.now.class.now (g.C.Cells.image c.args.view.now.cells.now) (g.C.Cells.class_of c.args.view.now.cells.now) c.requires.look c.args.index c.index-keyed.result.now c.index-keyed.ensures objects holds c.requires.tree c.args.place.now c.args.up c.seek.result c.seek.ensures) ∙ c.in_default.is)

pub row-requires-clause-row : goal.row-requires-clause-row
row-requires-clause-row g c objects holds =
    next_row c.args.view.now.class.now (g.C.Cells.image c.args.view.now.cells.now) (g.C.Cells.class_of c.args.view.now.cells.now) c.requires.look c.args.index c.index-keyed.result.now c.index-keyed.ensures objects holds c.requires.tree c.args.place.now c.args.up c.in-Some.version
    (sym (next_is c.args.view.now.class.now (g.C.Cells.image c.args.view.now.cells.now) (g.C.Cells.class_of c.args.view.now.cells.now) c.requires.look c.args.index c.index-keyed.result.now c.index-keyed.ensures objects holds c.requires.tree c.args.place.now c.args.up c.seek.result c.seek.ensures) ∙ c.in-Some.is)

pub id-id-requires-clause-version : goal.id-id-requires-clause-version
id-id-requires-clause-version g c objects holds =
    header_of_row objects c.in-Some.version.number
    (next_row c.args.view.now.class.now (g.C.Cells.image c.args.view.now.cells.now) (g.C.Cells.class_of c.args.view.now.cells.now) c.requires.look c.args.index c.index-keyed.result.now c.index-keyed.ensures objects holds c.requires.tree c.args.place.now c.args.up c.in-Some.version
    (sym (next_is c.args.view.now.class.now (g.C.Cells.image c.args.view.now.cells.now) (g.C.Cells.class_of c.args.view.now.cells.now) c.requires.look c.args.index c.index-keyed.result.now c.index-keyed.ensures objects holds c.requires.tree c.args.place.now c.args.up c.seek.result c.seek.ensures) ∙ c.in-Some.is))

pub shows-requires-clause-key : goal.shows-requires-clause-key
shows-requires-clause-key g c =
    let objects = c.requires.look.holds.0 in
    let holds = c.requires.look.holds.1 in
    next_fits c.args.view.now.class.now (g.C.Cells.image c.args.view.now.cells.now) (g.C.Cells.class_of c.args.view.now.cells.now) c.requires.look c.args.index c.index-keyed.result.now c.index-keyed.ensures objects holds c.requires.tree c.args.place.now c.args.up c.in-Some.version
    (sym (next_is c.args.view.now.class.now (g.C.Cells.image c.args.view.now.cells.now) (g.C.Cells.class_of c.args.view.now.cells.now) c.requires.look c.args.index c.index-keyed.result.now c.index-keyed.ensures objects holds c.requires.tree c.args.place.now c.args.up c.seek.result c.seek.ensures) ∙ c.in-Some.is)
    c.in_ok-row.row c.in_ok-key.key c.id-id.result (c.in_ok-row.ensures objects holds) (c.in_ok-key.ensures ∙ ap (λ (fields : List ℕ). key fields c.in_ok-row.row) c.requires.fields) (c.id-id.ensures objects holds)

pub returns-then-shows : goal.returns-then-shows
returns-then-shows g c objects holds =
    seek_finds c.args.view.now.class.now (g.C.Cells.image c.args.view.now.cells.now) (g.C.Cells.class_of c.args.view.now.cells.now) c.requires.look c.args.index c.index-keyed.result.now c.index-keyed.ensures objects holds c.requires.tree c.args.place.now c.args.up c.in-Some.version
    (sym (next_is c.args.view.now.class.now (g.C.Cells.image c.args.view.now.cells.now) (g.C.Cells.class_of c.args.view.now.cells.now) c.requires.look c.args.index c.index-keyed.result.now c.index-keyed.ensures objects holds c.requires.tree c.args.place.now c.args.up c.seek.result c.seek.ensures) ∙ c.in-Some.is)
    c.in_ok-row.row c.in_ok-key.key c.id-id.result (c.in_ok-row.ensures objects holds) (c.in_ok-key.ensures ∙ ap (λ (fields : List ℕ). key fields c.in_ok-row.row) c.requires.fields) (c.id-id.ensures objects holds)
    (g.M.Marks.marked c.args.view.now.marks.now) c.args.view.now.reader c.shows.result (c.shows.ensures objects holds) c.if-shows.true

pub returns : goal.returns
returns g c =
    step_passes c.args.view.now.class.now (g.C.Cells.image c.args.view.now.cells.now) (g.C.Cells.class_of c.args.view.now.cells.now) c.requires.look c.args.index c.index-keyed.result.now c.index-keyed.ensures c.requires.tree c.args.place.now c.args.up c.in-Some.version
    (subst (λ (found : Option CellRef). IsNext (index_nature c.index-keyed.result.now.index) (key_meaning c.index-keyed.result.now.keys) (g.C.Cells.image c.args.view.now.cells.now) c.args.place.now c.args.up found) c.in-Some.is c.seek.ensures)
    c.in_ok-row.row c.in_ok-key.key c.id-id.result (c.in_ok-key.ensures ∙ ap (λ (fields : List ℕ). key fields c.in_ok-row.row) c.requires.fields) (λ objects holds. c.in_ok-row.ensures objects holds) (λ objects holds. c.id-id.ensures objects holds)
    (g.M.Marks.marked c.args.view.now.marks.now) c.args.view.now.reader c.shows.result (λ objects holds. c.shows.ensures objects holds) c.if-shows.false
