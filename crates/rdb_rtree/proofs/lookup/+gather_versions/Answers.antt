use Rattle.std.proofs.Common.{◌≡◌, ◌+◌, ◌++◌, ℕ, suc, List, length, drop, refl, sym, ap, ◌∙◌, arith}
use Rattle.std.proofs.lemmas.List.{length-map}
use Rattle.std.specs.List.{flat_map}
use Rattle.rdb_pages.specs.declared.cell.CellRef.{CellRef}
use Rattle.rdb_rtree.specs.Standing.{IsTreeAt}
use Rattle.rdb_rtree.specs.Trees.{Node, RTree, place, versions}
use Rattle.rdb_rtree.proofs.LookupLemmas.{on_ok, leaf_versions, child_at, gather_step, gather_end}
use Rattle.rdb_rtree.proofs.NodeLemmas.{tree_few, tree_refs}
use Rattle.rdb_rtree.proofs.lookup.+gather_versions.Goals as goal

pub refs_of-own-requires : goal.refs_of-own-requires
refs_of-own-requires g t c = tree_few (g.C.Cells.image c.args.cells.now) c.args.at c.args.level c.requires.0 c.requires.1 c.requires.2 c.node_at-node.result c.node_at-node.ensures

pub returns-then-level-eq0 : goal.returns-then-level-eq0
returns-then-level-eq0 g t c = on_ok c.extend_from_slice.result (c.extend_from_slice.new.self ≡ c.args.refs.now ++ c.refs_of-own.result.now) ((h : ℕ) (b : Node (RTree h)) → IsTreeAt (g.C.Cells.image c.args.cells.now) c.args.at c.args.level h b → c.extend_from_slice.new.self ≡ c.args.refs.now ++ versions (suc h) b) (λ grown h b is.
    grown
    ∙ ap (λ (rs : List CellRef). c.args.refs.now ++ rs)
    (c.refs_of-own.ensures ∙ tree_refs (g.C.Cells.image c.args.cells.now) c.args.at c.args.level h b is c.node_at-node.result c.node_at-node.ensures ∙ leaf_versions h b.below (sym is.level_is ∙ c.if-level-eq0.true))) c.extend_from_slice.ensures.ok

pub gather_versions-requires : goal.gather_versions-requires
gather_versions-requires g t c κs within =
    let none : CellRef = record { number = 0 } in
    let inner = c.if-level-eq0.false in
    let falls = c.decreases in
    let child = child_at (g.C.Cells.image c.args.cells.now) c.args.at c.args.level c.requires.0 c.requires.1 c.requires.2 c.if-level-eq0.false c.refs_of-own.result.now (c.refs_of-own.ensures ∙ tree_refs (g.C.Cells.image c.args.cells.now) c.args.at c.args.level c.requires.0 c.requires.1 c.requires.2 c.node_at-node.result c.node_at-node.ensures) c.loop-place.place none c.loop-place-test.true in
    (omega arith, (within, (child.height, child.child, child.is)))

pub loop-place-preserved : goal.loop-place-preserved
loop-place-preserved g t c = λ h b is.
    let none : CellRef = record { number = 0 } in
    let child = child_at (g.C.Cells.image c.args.cells.now) c.args.at c.args.level h b is c.if-level-eq0.false c.refs_of-own.result.now (c.refs_of-own.ensures ∙ tree_refs (g.C.Cells.image c.args.cells.now) c.args.at c.args.level h b is c.node_at-node.result c.node_at-node.ensures) c.loop-place.place none c.loop-place-test.true in
    gather_step c.loop-place.refs c.gather_versions.new.refs (versions (suc child.height) child.child) (flat_map (versions h) (drop (c.loop-place.place + 1) b.below)) (c.args.refs.now ++ versions (suc h) b)
    (c.in_ok-gather_versions.ensures child.height child.child child.is)
    (ap (λ (rs : List CellRef). c.loop-place.refs ++ rs) (sym child.part) ∙ c.loop-place.invariant h b is)

pub returns : goal.returns
returns g t c = λ h b is.
    let many = ap (length {A = CellRef}) (c.refs_of-own.ensures ∙ tree_refs (g.C.Cells.image c.args.cells.now) c.args.at c.args.level h b is c.node_at-node.result c.node_at-node.ensures) ∙ length-map b.below (place h) in
    let past = c.loop-place-test.false in
    gather_end (flat_map (versions h)) b.below c.loop-place.place c.loop-place.refs (c.args.refs.now ++ versions (suc h) b) refl (omega arith) (c.loop-place.invariant h b is)
