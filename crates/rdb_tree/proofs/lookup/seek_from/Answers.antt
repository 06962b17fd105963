use Rattle.std.proofs.Common.{◌≤◌, List, length, ap, arith, sym, ◌∙◌, subst}
use Rattle.std.proofs.lemmas.List.Sums.{prefix_len-le-length}
use Rattle.std.specs.List.{Contains, prefix_len}
use borrow.Author.Tests.{eqb-true, eqb-false}
use Rattle.rdb_pages.specs.declared.cell.CellRef.{CellRef}
use Rattle.rdb_cells.specs.Keys.{says}
use Rattle.rdb_cells.specs.TreeFormat.{most_keys}
use Rattle.rdb_tree.specs.Lookups.{is_near, first_of, key_beyond}
use Rattle.rdb_tree.proofs.SoughtLemmas.{sought_found, sought_more, here_is, here_cell, here_few, here_keyed}
use Rattle.rdb_tree.proofs.RowLemmas.{take_within}
use Rattle.rdb_tree.proofs.lookup.seek_from.Goals as goal

pub returns-then-eq-clause-first : goal.returns-then-eq-clause-first
returns-then-eq-clause-first g c = λ tree rooted. sym (sought_found (says (g.K.Keys.meaning c.args.keys.now) (g.C.Cells.image c.args.cells.now)) (g.C.Cells.image c.args.cells.now) c.args.place.now c.args.up tree c.loop.at c.loop.best c.loop.counter (c.loop.invariant.0 tree rooted) (eqb-true c.loop.at.number 0 (sym c.eq.ensures ∙ c.if-eq.true)))

pub node_at-node-requires : goal.node_at-node-requires
node_at-node-requires g c = here_cell (says (g.K.Keys.meaning c.args.keys.now) (g.C.Cells.image c.args.cells.now)) (g.C.Cells.image c.args.cells.now) c.loop.at (here_is (says (g.K.Keys.meaning c.args.keys.now) (g.C.Cells.image c.args.cells.now)) (g.C.Cells.image c.args.cells.now) c.loop.at c.args.place.now c.args.up c.requires.rooted.0 c.loop.best c.loop.counter (c.loop.invariant.0 c.requires.rooted.0 c.requires.rooted.1) (eqb-false c.loop.at.number 0 (sym c.eq.ensures ∙ c.if-eq.false)))

pub keys_of-versions-requires : goal.keys_of-versions-requires
keys_of-versions-requires g c = here_few (says (g.K.Keys.meaning c.args.keys.now) (g.C.Cells.image c.args.cells.now)) (g.C.Cells.image c.args.cells.now) c.loop.at (here_is (says (g.K.Keys.meaning c.args.keys.now) (g.C.Cells.image c.args.cells.now)) (g.C.Cells.image c.args.cells.now) c.loop.at c.args.place.now c.args.up c.requires.rooted.0 c.loop.best c.loop.counter (c.loop.invariant.0 c.requires.rooted.0 c.requires.rooted.1) (eqb-false c.loop.at.number 0 (sym c.eq.ensures ∙ c.if-eq.false))) c.node_at-node.result c.node_at-node.ensures

pub count_near-near-requires-clause-keyed : goal.count_near-near-requires-clause-keyed
count_near-near-requires-clause-keyed g c = λ r within.
    here_keyed (says (g.K.Keys.meaning c.args.keys.now) (g.C.Cells.image c.args.cells.now)) (g.C.Cells.image c.args.cells.now) c.loop.at (here_is (says (g.K.Keys.meaning c.args.keys.now) (g.C.Cells.image c.args.cells.now)) (g.C.Cells.image c.args.cells.now) c.loop.at c.args.place.now c.args.up c.requires.rooted.0 c.loop.best c.loop.counter (c.loop.invariant.0 c.requires.rooted.0 c.requires.rooted.1) (eqb-false c.loop.at.number 0 (sym c.eq.ensures ∙ c.if-eq.false))) c.node_at-node.result c.node_at-node.ensures r
    (subst (λ (ks : List CellRef). Contains ks r) c.keys_of-versions.ensures within)

pub nearest-best-requires : goal.nearest-best-requires
nearest-best-requires g c =
    let few = prefix_len-le-length (is_near (says (g.K.Keys.meaning c.args.keys.now) (g.C.Cells.image c.args.cells.now)) c.args.place.now c.args.up) c.keys_of-versions.result.now in
    let same = c.count_near-near.ensures.count in
    omega arith

pub child_at-at-requires : goal.child_at-at-requires
child_at-at-requires g c = here_few (says (g.K.Keys.meaning c.args.keys.now) (g.C.Cells.image c.args.cells.now)) (g.C.Cells.image c.args.cells.now) c.loop.at (here_is (says (g.K.Keys.meaning c.args.keys.now) (g.C.Cells.image c.args.cells.now)) (g.C.Cells.image c.args.cells.now) c.loop.at c.args.place.now c.args.up c.requires.rooted.0 c.loop.best c.loop.counter (c.loop.invariant.0 c.requires.rooted.0 c.requires.rooted.1) (eqb-false c.loop.at.number 0 (sym c.eq.ensures ∙ c.if-eq.false))) c.node_at-node.result c.node_at-node.ensures

pub loop-preserved : goal.loop-preserved
loop-preserved g c =
    let keys = c.keys_of-versions.ensures in
    let few : c.node_at-node.result.count ≤ most_keys = here_few (says (g.K.Keys.meaning c.args.keys.now) (g.C.Cells.image c.args.cells.now)) (g.C.Cells.image c.args.cells.now) c.loop.at (here_is (says (g.K.Keys.meaning c.args.keys.now) (g.C.Cells.image c.args.cells.now)) (g.C.Cells.image c.args.cells.now) c.loop.at c.args.place.now c.args.up c.requires.rooted.0 c.loop.best c.loop.counter (c.loop.invariant.0 c.requires.rooted.0 c.requires.rooted.1) (eqb-false c.loop.at.number 0 (sym c.eq.ensures ∙ c.if-eq.false))) c.node_at-node.result c.node_at-node.ensures in
    let row : length c.keys_of-versions.result.now ≤ c.node_at-node.result.count = take_within c.node_at-node.result.count c.node_at-node.result.versions c.keys_of-versions.result.now keys in
    let counted = c.count_near-near.ensures.steps in
    let so_far = c.loop.invariant.1 in (
      (λ whole rooted. sought_more (says (g.K.Keys.meaning c.args.keys.now) (g.C.Cells.image c.args.cells.now)) (g.C.Cells.image c.args.cells.now) c.args.place.now c.args.up whole c.loop.at c.loop.best c.loop.counter c.node_at-node.result c.count_near-near.result c.child_at-at.result c.nearest-best.result
          c.node_at-node.ensures
          (c.count_near-near.ensures.count ∙ ap (prefix_len (is_near (says (g.K.Keys.meaning c.args.keys.now) (g.C.Cells.image c.args.cells.now)) c.args.place.now c.args.up)) keys)
          (c.nearest-best.ensures ∙ ap (λ (ks : List CellRef). first_of (key_beyond c.args.up c.count_near-near.result ks) c.loop.best) keys)
          c.child_at-at.ensures
          (c.loop.invariant.0 whole rooted)
          (eqb-false c.loop.at.number 0 (sym c.eq.ensures ∙ c.if-eq.false))),
      omega arith,
    )
