use Rattle.std.proofs.Common.{◌∷◌, [], List, length, length-append, ap, arith, sym, ◌∙◌, subst}
use Rattle.std.specs.List.{Contains, prefix_len}
use borrow.Author.Tests.{eqb-true, eqb-false}
use Rattle.rdb_pages.specs.declared.cell.CellRef.{CellRef}
use Rattle.rdb_cells.specs.Keys.{says}
use Rattle.rdb_cells.specs.Work.{work, reading}
use Rattle.rdb_tree.specs.Order.{is_before}
use Rattle.rdb_tree.specs.declared.path.Step.{Step}
use Rattle.rdb_tree.proofs.SoughtLemmas.{here_cell, here_few, here_keyed}
use Rattle.rdb_tree.proofs.WayLemmas.{way_end, way_here, way_more}
use Rattle.rdb_tree.proofs.insert.descend.Goals as goal

pub returns-then-eq-clause-way : goal.returns-then-eq-clause-way
returns-then-eq-clause-way g c = λ tree rooted. way_end (says (g.K.Keys.meaning c.args.keys.now) (reading (work g.C.Cells c.args.cells.now))) (reading (work g.C.Cells c.args.cells.now)) (is_before (says (g.K.Keys.meaning c.args.keys.now) (reading (work g.C.Cells c.args.cells.now))) c.args.version) tree c.args.path.now.items c.loop.path.items c.loop.at c.loop.counter (c.loop.invariant.0 tree rooted) (eqb-true c.loop.at.number 0 (sym c.eq.ensures ∙ c.if-eq.true))

pub node_at-node-requires : goal.node_at-node-requires
node_at-node-requires g c = here_cell (says (g.K.Keys.meaning c.args.keys.now) (reading (work g.C.Cells c.args.cells.now))) (reading (work g.C.Cells c.args.cells.now)) c.loop.at (way_here (says (g.K.Keys.meaning c.args.keys.now) (reading (work g.C.Cells c.args.cells.now))) (reading (work g.C.Cells c.args.cells.now)) (is_before (says (g.K.Keys.meaning c.args.keys.now) (reading (work g.C.Cells c.args.cells.now))) c.args.version) c.requires.rooted.0 c.args.path.now.items c.loop.path.items c.loop.at c.loop.counter (c.loop.invariant.0 c.requires.rooted.0 c.requires.rooted.1) (eqb-false c.loop.at.number 0 (sym c.eq.ensures ∙ c.if-eq.false)))

pub keys_of-requires : goal.keys_of-requires
keys_of-requires g c = here_few (says (g.K.Keys.meaning c.args.keys.now) (reading (work g.C.Cells c.args.cells.now))) (reading (work g.C.Cells c.args.cells.now)) c.loop.at (way_here (says (g.K.Keys.meaning c.args.keys.now) (reading (work g.C.Cells c.args.cells.now))) (reading (work g.C.Cells c.args.cells.now)) (is_before (says (g.K.Keys.meaning c.args.keys.now) (reading (work g.C.Cells c.args.cells.now))) c.args.version) c.requires.rooted.0 c.args.path.now.items c.loop.path.items c.loop.at c.loop.counter (c.loop.invariant.0 c.requires.rooted.0 c.requires.rooted.1) (eqb-false c.loop.at.number 0 (sym c.eq.ensures ∙ c.if-eq.false))) c.node_at-node.result c.node_at-node.ensures

pub count_before-place-requires-clause-keyed : goal.count_before-place-requires-clause-keyed
count_before-place-requires-clause-keyed g c = λ r within.
    here_keyed (says (g.K.Keys.meaning c.args.keys.now) (reading (work g.C.Cells c.args.cells.now))) (reading (work g.C.Cells c.args.cells.now)) c.loop.at (way_here (says (g.K.Keys.meaning c.args.keys.now) (reading (work g.C.Cells c.args.cells.now))) (reading (work g.C.Cells c.args.cells.now)) (is_before (says (g.K.Keys.meaning c.args.keys.now) (reading (work g.C.Cells c.args.cells.now))) c.args.version) c.requires.rooted.0 c.args.path.now.items c.loop.path.items c.loop.at c.loop.counter (c.loop.invariant.0 c.requires.rooted.0 c.requires.rooted.1) (eqb-false c.loop.at.number 0 (sym c.eq.ensures ∙ c.if-eq.false))) c.node_at-node.result c.node_at-node.ensures r (subst (λ (ks : List CellRef). Contains ks r) c.keys_of.ensures within)

pub child_at-at-requires : goal.child_at-at-requires
child_at-at-requires g c = here_few (says (g.K.Keys.meaning c.args.keys.now) (reading (work g.C.Cells c.args.cells.now))) (reading (work g.C.Cells c.args.cells.now)) c.loop.at (way_here (says (g.K.Keys.meaning c.args.keys.now) (reading (work g.C.Cells c.args.cells.now))) (reading (work g.C.Cells c.args.cells.now)) (is_before (says (g.K.Keys.meaning c.args.keys.now) (reading (work g.C.Cells c.args.cells.now))) c.args.version) c.requires.rooted.0 c.args.path.now.items c.loop.path.items c.loop.at c.loop.counter (c.loop.invariant.0 c.requires.rooted.0 c.requires.rooted.1) (eqb-false c.loop.at.number 0 (sym c.eq.ensures ∙ c.if-eq.false))) c.node_at-node.result c.node_at-node.ensures

pub loop-preserved : goal.loop-preserved
loop-preserved g c =
    let long = ap (length {A = Step}) c.push_reserved.ensures.items in
    let one = length-append c.loop.path.items (record { at = c.loop.at; place = c.count_before-place.result } ∷ []) in
    let so_far = c.loop.invariant.2 in (
      (λ whole rooted. way_more (says (g.K.Keys.meaning c.args.keys.now) (reading (work g.C.Cells c.args.cells.now))) (reading (work g.C.Cells c.args.cells.now)) (is_before (says (g.K.Keys.meaning c.args.keys.now) (reading (work g.C.Cells c.args.cells.now))) c.args.version) whole c.args.path.now.items c.loop.path.items c.loop.at c.loop.counter c.node_at-node.result c.count_before-place.result c.child_at-at.result c.push_reserved.new.self.items
          c.node_at-node.ensures
          (c.count_before-place.ensures ∙ ap (prefix_len (is_before (says (g.K.Keys.meaning c.args.keys.now) (reading (work g.C.Cells c.args.cells.now))) c.args.version)) c.keys_of.ensures)
          c.child_at-at.ensures
          c.push_reserved.ensures.items
          (eqb-false c.loop.at.number 0 (sym c.eq.ensures ∙ c.if-eq.false))
          (c.loop.invariant.0 whole rooted)),
      c.push_reserved.ensures.capacity ∙ c.loop.invariant.1,
      omega arith,
    )
