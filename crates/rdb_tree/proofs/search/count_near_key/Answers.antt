use Rattle.std.proofs.Common.{◌∙◌, sym, get_or, arith, Some}
use Rattle.rdb_pages.specs.declared.cell.CellRef.{CellRef}
use Rattle.rdb_cells.specs.Keys.{says}
use Rattle.rdb_tree.specs.Lookups.{goes_near}
use Rattle.rdb_tree.specs.Order.{goes}
use Rattle.rdb_tree.proofs.SearchLemmas.{one_more, stops, test_key, within}
use Rattle.rdb_tree.proofs.search.count_near_key.Goals as goal

pub returns-then-not-is_near_side-clause-count : goal.returns-then-not-is_near_side-clause-count
returns-then-not-is_near_side-clause-count g c =
    let none : CellRef = record { number = 0 } in
    let keyed = c.requires.keyed (get_or c.args.versions.now c.loop-place.place none) (within c.args.versions.now c.loop-place.place none c.loop-place-test.true) in
    let version_of = (g.K.Keys.meaning c.args.keys.now).version_of (g.C.Cells.image c.args.cells.now) in
    stops (goes (goes_near c.args.up) (says (g.K.Keys.meaning c.args.keys.now) (g.C.Cells.image c.args.cells.now)) c.args.key.now (Some c.args.id)) c.args.versions.now c.loop-place.place none c.loop-place.invariant.0 c.loop-place-test.true
    (test_key (goes_near c.args.up) (version_of (get_or c.args.versions.now c.loop-place.place none).number) c.args.key.now (Some c.args.id) c.against-order.result keyed c.against-order.ensures.order
    ∙ sym c.is_near_side.ensures ∙ c.if-not-is_near_side.true)

pub loop-place-preserved : goal.loop-place-preserved
loop-place-preserved g c =
    let none : CellRef = record { number = 0 } in
    let keyed = c.requires.keyed (get_or c.args.versions.now c.loop-place.place none) (within c.args.versions.now c.loop-place.place none c.loop-place-test.true) in
    let version_of = (g.K.Keys.meaning c.args.keys.now).version_of (g.C.Cells.image c.args.cells.now) in
    let step = c.against-order.ensures.step in
    let so_far = c.loop-place.invariant.1 in (
      one_more (goes (goes_near c.args.up) (says (g.K.Keys.meaning c.args.keys.now) (g.C.Cells.image c.args.cells.now)) c.args.key.now (Some c.args.id)) c.args.versions.now c.loop-place.place none c.loop-place.invariant.0 c.loop-place-test.true
          (test_key (goes_near c.args.up) (version_of (get_or c.args.versions.now c.loop-place.place none).number) c.args.key.now (Some c.args.id) c.against-order.result keyed c.against-order.ensures.order
          ∙ sym c.is_near_side.ensures ∙ c.if-not-is_near_side.false),
      omega arith,
    )
