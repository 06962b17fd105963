use Rattle.std.proofs.Common.{◌≡◌, ◌-◌, ◌++◌, ◌∷◌, [], ℕ, List, slice_get, Some, length, get_or, sym, ap, subst, ◌∙◌, arith}
use Rattle.rdb_pages.specs.declared.cell.CellRef.{CellRef}
use Rattle.rdb_tree.specs.Trees.{BTree, IsTreeAt, versions}
use Rattle.rdb_tree.proofs.GatherLemmas.{parts_of, woven_is, at_cell, at_few, at_keys, at_children, at_leaf, leaf_versions, inner_child, inner_parts, gather_step, gather_end, on_ok}
use Rattle.rdb_tree.proofs.lookup.+gather_versions.Goals as goal

pub node_at-node-requires : goal.node_at-node-requires
node_at-node-requires g t c = at_cell (g.C.Cells.image c.args.cells.now) c.args.at c.args.levels c.requires.0 c.requires.1 c.requires.2

pub keys_of-own-requires : goal.keys_of-own-requires
keys_of-own-requires g t c = at_few (g.C.Cells.image c.args.cells.now) c.args.at c.args.levels c.requires.0 c.requires.1 c.requires.2 c.node_at-node.result c.node_at-node.ensures

pub returns-then-node : goal.returns-then-node
returns-then-node g t c = on_ok c.extend_from_slice.result (c.extend_from_slice.new.self ≡ c.args.refs.now ++ c.keys_of-own.result.now) ((h : ℕ) (b : BTree h) → IsTreeAt (g.C.Cells.image c.args.cells.now) c.args.at c.args.levels h b → c.extend_from_slice.new.self ≡ c.args.refs.now ++ versions h b) (λ grown h b is.
    grown
    ∙ ap (λ (rs : List CellRef). c.args.refs.now ++ rs)
    (c.keys_of-own.ensures ∙ at_keys (g.C.Cells.image c.args.cells.now) c.args.at c.args.levels h b is c.node_at-node.result c.node_at-node.ensures ∙ sym (leaf_versions (g.C.Cells.image c.args.cells.now) c.args.at c.args.levels h b is (sym (at_leaf (g.C.Cells.image c.args.cells.now) c.args.at c.args.levels h b is c.node_at-node.result c.node_at-node.ensures) ∙ c.if-node.true)))) c.extend_from_slice.ensures.ok

pub children_of-children-requires : goal.children_of-children-requires
children_of-children-requires g t c = at_few (g.C.Cells.image c.args.cells.now) c.args.at c.args.levels c.requires.0 c.requires.1 c.requires.2 c.node_at-node.result c.node_at-node.ensures

pub loop-place-init : goal.loop-place-init
loop-place-init g t c = λ h b is. ap (λ (rs : List CellRef). c.args.refs.now ++ rs) (sym (woven_is h b))

pub gather_versions-requires : goal.gather_versions-requires
gather_versions-requires g t c κs within =
    let none : CellRef = record { number = 0 } in
    let keys = ap (length {A = CellRef}) (c.keys_of-own.ensures ∙ at_keys (g.C.Cells.image c.args.cells.now) c.args.at c.args.levels c.requires.0 c.requires.1 c.requires.2 c.node_at-node.result c.node_at-node.ensures) in
    let below = c.loop-place-test.true in
    let child = inner_child (g.C.Cells.image c.args.cells.now) c.args.at c.args.levels c.requires.0 c.requires.1 c.requires.2 (sym (at_leaf (g.C.Cells.image c.args.cells.now) c.args.at c.args.levels c.requires.0 c.requires.1 c.requires.2 c.node_at-node.result c.node_at-node.ensures) ∙ c.if-node.false) c.loop-place.place none (omega arith) in
    let same = c.children_of-children.ensures ∙ at_children (g.C.Cells.image c.args.cells.now) c.args.at c.args.levels c.requires.0 c.requires.1 c.requires.2 c.node_at-node.result c.node_at-node.ensures in
    let high = c.requires.2.height in
    let falls = c.decreases in (
      omega arith,
      (
        within,
        (
          child.height,
          child.child,
          subst (λ (cs : List CellRef). IsTreeAt (g.C.Cells.image c.args.cells.now) (get_or cs c.loop-place.place none) (c.args.levels - 1) child.height child.child) (sym same) child.is,
        ),
      ),
    )

pub loop-place-preserved : goal.loop-place-preserved
loop-place-preserved g t c = λ h b is.
    let none : CellRef = record { number = 0 } in
    let own = c.keys_of-own.ensures ∙ at_keys (g.C.Cells.image c.args.cells.now) c.args.at c.args.levels h b is c.node_at-node.result c.node_at-node.ensures in
    let keys = ap (length {A = CellRef}) own in
    let below = c.loop-place-test.true in
    let child = inner_child (g.C.Cells.image c.args.cells.now) c.args.at c.args.levels h b is (sym (at_leaf (g.C.Cells.image c.args.cells.now) c.args.at c.args.levels h b is c.node_at-node.result c.node_at-node.ensures) ∙ c.if-node.false) c.loop-place.place none (omega arith) in
    let same = c.children_of-children.ensures ∙ at_children (g.C.Cells.image c.args.cells.now) c.args.at c.args.levels h b is c.node_at-node.result c.node_at-node.ensures in
    gather_step b.keys (parts_of h b) c.loop-place.refs (c.args.refs.now ++ versions h b) c.gather_versions.new.refs c.push.new.self (versions child.height child.child) c.loop-place.place none (omega arith) child.part
    (c.loop-place.invariant h b is)
    (c.in_ok-gather_versions.ensures child.height child.child (subst (λ (cs : List CellRef). IsTreeAt (g.C.Cells.image c.args.cells.now) (get_or cs c.loop-place.place none) (c.args.levels - 1) child.height child.child) (sym same) child.is))
    (c.in_ok-push.ensures.ok ∙ ap (λ (ks : List CellRef). c.gather_versions.new.refs ++ get_or ks c.loop-place.place none ∷ []) own)

pub gather_versions-requires-2 : goal.gather_versions-requires-2
gather_versions-requires-2 g t c κs within =
    let none : CellRef = record { number = 0 } in
    let keys = ap (length {A = CellRef}) (c.keys_of-own.ensures ∙ at_keys (g.C.Cells.image c.args.cells.now) c.args.at c.args.levels c.requires.0 c.requires.1 c.requires.2 c.node_at-node.result c.node_at-node.ensures) in
    let child = inner_child (g.C.Cells.image c.args.cells.now) c.args.at c.args.levels c.requires.0 c.requires.1 c.requires.2 (sym (at_leaf (g.C.Cells.image c.args.cells.now) c.args.at c.args.levels c.requires.0 c.requires.1 c.requires.2 c.node_at-node.result c.node_at-node.ensures) ∙ c.if-node.false) (length c.keys_of-own.result.now) none (omega arith) in
    let same = c.children_of-children.ensures ∙ at_children (g.C.Cells.image c.args.cells.now) c.args.at c.args.levels c.requires.0 c.requires.1 c.requires.2 c.node_at-node.result c.node_at-node.ensures in
    let high = c.requires.2.height in
    let falls = c.decreases in (
      omega arith,
      (
        within,
        (
          child.height,
          child.child,
          subst (λ (cs : List CellRef). IsTreeAt (g.C.Cells.image c.args.cells.now) (get_or cs (length c.keys_of-own.result.now) none) (c.args.levels - 1) child.height child.child) (sym same) child.is,
        ),
      ),
    )

pub returns : goal.returns
returns g t c = on_ok c.gather_versions-2.result ((h : ℕ) (b : BTree h) → IsTreeAt (g.C.Cells.image c.args.cells.now) (get_or c.children_of-children.result.now (length c.keys_of-own.result.now) (record { number = 0 })) (c.args.levels - 1) h b → c.gather_versions-2.new.refs ≡ c.loop-place.refs ++ versions h b) ((h : ℕ) (b : BTree h) → IsTreeAt (g.C.Cells.image c.args.cells.now) c.args.at c.args.levels h b → c.gather_versions-2.new.refs ≡ c.args.refs.now ++ versions h b) (λ grown h b is.
    let none : CellRef = record { number = 0 } in
    let own = c.keys_of-own.ensures ∙ at_keys (g.C.Cells.image c.args.cells.now) c.args.at c.args.levels h b is c.node_at-node.result c.node_at-node.ensures in
    let keys = ap (length {A = CellRef}) own in
    let child = inner_child (g.C.Cells.image c.args.cells.now) c.args.at c.args.levels h b is (sym (at_leaf (g.C.Cells.image c.args.cells.now) c.args.at c.args.levels h b is c.node_at-node.result c.node_at-node.ensures) ∙ c.if-node.false) (length c.keys_of-own.result.now) none (omega arith) in
    let same = c.children_of-children.ensures ∙ at_children (g.C.Cells.image c.args.cells.now) c.args.at c.args.levels h b is c.node_at-node.result c.node_at-node.ensures in
    let past = c.loop-place-test.false in
    let most = c.loop-place.auto.place-end in
    let end : c.loop-place.place ≡ length c.keys_of-own.result.now = omega arith in
    gather_end b.keys (parts_of h b) c.loop-place.refs (c.args.refs.now ++ versions h b) c.gather_versions-2.new.refs (versions child.height child.child) c.loop-place.place (omega arith)
    (inner_parts (g.C.Cells.image c.args.cells.now) c.args.at c.args.levels h b is (sym (at_leaf (g.C.Cells.image c.args.cells.now) c.args.at c.args.levels h b is c.node_at-node.result c.node_at-node.ensures) ∙ c.if-node.false)).0
    (subst (λ (n : ℕ). slice_get (parts_of h b) n ≡ Some (versions child.height child.child)) (sym end) child.part)
    (c.loop-place.invariant h b is)
    (grown child.height child.child (subst (λ (cs : List CellRef). IsTreeAt (g.C.Cells.image c.args.cells.now) (get_or cs (length c.keys_of-own.result.now) none) (c.args.levels - 1) child.height child.child) (sym same) child.is))) c.gather_versions-2.ensures
