use Rattle.std.proofs.Common.{◌∙◌, get_or, ap}
use Rattle.std.specs.Ordering.{is_lt}
use Rattle.rdb_pages.specs.declared.cell.CellRef.{CellRef}
use Rattle.rdb_cells.specs.Keys.{says}
use Rattle.rdb_tree.specs.Order.{is_before}
use Rattle.rdb_tree.proofs.SearchLemmas.{one_more, stops, test_both, not_less, within}
use Rattle.rdb_tree.proofs.search.count_before.Goals as goal

pub returns-in_default : goal.returns-in_default
returns-in_default g c =
    let none : CellRef = record { number = 0 } in
    let keyed = c.requires.keyed (get_or c.args.versions.now c.loop-place.place none) (within c.args.versions.now c.loop-place.place none c.loop-place-test.true) in
    let version_of = (g.K.Keys.meaning c.args.keys.now).version_of (g.C.Cells.image c.args.cells.now) in
    stops (is_before (says (g.K.Keys.meaning c.args.keys.now) (g.C.Cells.image c.args.cells.now)) c.args.version) c.args.versions.now c.loop-place.place none c.loop-place.invariant c.loop-place-test.true
    (test_both is_lt (version_of (get_or c.args.versions.now c.loop-place.place none).number) (version_of c.args.version.number) c.order.result keyed c.requires.version c.order.ensures
    ∙ not_less c.order.result c.in_default.not-Less)

pub loop-place-preserved : goal.loop-place-preserved
loop-place-preserved g c =
    let none : CellRef = record { number = 0 } in
    let keyed = c.requires.keyed (get_or c.args.versions.now c.loop-place.place none) (within c.args.versions.now c.loop-place.place none c.loop-place-test.true) in
    let version_of = (g.K.Keys.meaning c.args.keys.now).version_of (g.C.Cells.image c.args.cells.now) in
    one_more (is_before (says (g.K.Keys.meaning c.args.keys.now) (g.C.Cells.image c.args.cells.now)) c.args.version) c.args.versions.now c.loop-place.place none c.loop-place.invariant c.loop-place-test.true
    (test_both is_lt (version_of (get_or c.args.versions.now c.loop-place.place none).number) (version_of c.args.version.number) c.order.result keyed c.requires.version c.order.ensures
    ∙ ap is_lt c.in-Less.is)
