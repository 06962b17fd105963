use Rattle.std.proofs.Common.{◌≡◌, ◌+◌, ◌-◌, ◌++◌, ◌∷◌, [], ℕ, List, None, slice_get, Some, length, drop, get_or, sym, ap, subst, ◌∙◌, arith}
use Rattle.std.specs.List.{filter, Contains}
use Rattle.std.specs.Option.{ForSome}
use Rattle.std.specs.Ordering.{is_lt, is_le, is_eq}
use Rattle.rdb_pages.specs.declared.cell.CellRef.{CellRef}
use Rattle.rdb_cells.specs.Keys.{says, key_order}
use Rattle.rdb_tree.specs.Lookups.{has_key}
use Rattle.rdb_tree.specs.Order.{AreKeyed}
use Rattle.rdb_tree.specs.Trees.{BTree, IsTreeAt, versions, woven}
use Rattle.rdb_tree.proofs.EqualLemmas.{step_less, step_equal, end_past, end_equal, child_keyed, own_keyed}
use Rattle.rdb_tree.proofs.GatherLemmas.{parts_of, woven_is, at_cell, at_few, at_keys, at_children, at_leaf, leaf_versions, inner_child, inner_parts, on_ok}
use Rattle.rdb_tree.proofs.SearchLemmas.{test_key, within}
use Rattle.rdb_tree.proofs.lookup.+gather_equal.Goals as goal
use Rattle.rdb_tree.proofs.lookup.+gather_equal.Goals.{in-Less, in-Equal+in_ok-gather_equal-in-Equal+in_ok-push-in-Equal}

pub node_at-node-requires : goal.node_at-node-requires
node_at-node-requires g t c = at_cell (g.C.Cells.image c.args.cells.now) c.args.at c.args.levels c.requires.tree.0 c.requires.tree.1 c.requires.tree.2

pub keys_of-own-requires : goal.keys_of-own-requires
keys_of-own-requires g t c = at_few (g.C.Cells.image c.args.cells.now) c.args.at c.args.levels c.requires.tree.0 c.requires.tree.1 c.requires.tree.2 c.node_at-node.result c.node_at-node.ensures

pub push_equal-requires-clause-keyed : goal.push_equal-requires-clause-keyed
push_equal-requires-clause-keyed g t c = λ r inside.
    c.requires.tree.3.keyed r (own_keyed (says (g.K.Keys.meaning c.args.keys.now) (g.C.Cells.image c.args.cells.now)) c.requires.tree.0 c.requires.tree.1 c.requires.tree.3 r (subst (λ (ks : List CellRef). Contains ks r) (c.keys_of-own.ensures ∙ at_keys (g.C.Cells.image c.args.cells.now) c.args.at c.args.levels c.requires.tree.0 c.requires.tree.1 c.requires.tree.2 c.node_at-node.result c.node_at-node.ensures) inside))

pub returns-then-node : goal.returns-then-node
returns-then-node g t c = on_ok c.push_equal.result (c.push_equal.new.refs ≡ c.args.refs.now ++ filter (has_key (says (g.K.Keys.meaning c.args.keys.now) (g.C.Cells.image c.args.cells.now)) c.args.key.now) c.keys_of-own.result.now) ((h : ℕ) (b : BTree h) → IsTreeAt (g.C.Cells.image c.args.cells.now) c.args.at c.args.levels h b → AreKeyed (says (g.K.Keys.meaning c.args.keys.now) (g.C.Cells.image c.args.cells.now)) (versions h b) → c.push_equal.new.refs ≡ c.args.refs.now ++ filter (has_key (says (g.K.Keys.meaning c.args.keys.now) (g.C.Cells.image c.args.cells.now)) c.args.key.now) (versions h b)) (λ grown h b is keyed.
    grown
    ∙ ap (λ (rs : List CellRef). c.args.refs.now ++ filter (has_key (says (g.K.Keys.meaning c.args.keys.now) (g.C.Cells.image c.args.cells.now)) c.args.key.now) rs)
    (c.keys_of-own.ensures ∙ at_keys (g.C.Cells.image c.args.cells.now) c.args.at c.args.levels h b is c.node_at-node.result c.node_at-node.ensures ∙ sym (leaf_versions (g.C.Cells.image c.args.cells.now) c.args.at c.args.levels h b is (sym (at_leaf (g.C.Cells.image c.args.cells.now) c.args.at c.args.levels h b is c.node_at-node.result c.node_at-node.ensures) ∙ c.if-node.true)))) c.push_equal.ensures

pub children_of-children-requires : goal.children_of-children-requires
children_of-children-requires g t c = at_few (g.C.Cells.image c.args.cells.now) c.args.at c.args.levels c.requires.tree.0 c.requires.tree.1 c.requires.tree.2 c.node_at-node.result c.node_at-node.ensures

pub loop-place-init : goal.loop-place-init
loop-place-init g t c = λ h b is keyed. ap (λ (rs : List CellRef). c.args.refs.now ++ filter (has_key (says (g.K.Keys.meaning c.args.keys.now) (g.C.Cells.image c.args.cells.now)) c.args.key.now) rs) (sym (woven_is h b))

pub against-requires-clause-version : goal.against-requires-clause-version
against-requires-clause-version g t c =
    let none : CellRef = record { number = 0 } in
    let r = get_or c.keys_of-own.result.now c.loop-place.place none in
    c.requires.tree.3.keyed r (own_keyed (says (g.K.Keys.meaning c.args.keys.now) (g.C.Cells.image c.args.cells.now)) c.requires.tree.0 c.requires.tree.1 c.requires.tree.3 r (subst (λ (ks : List CellRef). Contains ks (get_or c.keys_of-own.result.now c.loop-place.place none)) (c.keys_of-own.ensures ∙ at_keys (g.C.Cells.image c.args.cells.now) c.args.at c.args.levels c.requires.tree.0 c.requires.tree.1 c.requires.tree.2 c.node_at-node.result c.node_at-node.ensures) (within c.keys_of-own.result.now c.loop-place.place none c.loop-place-test.true)))

pub gather_equal-requires : goal.gather_equal-requires
gather_equal-requires g t c κs inside =
    let none : CellRef = record { number = 0 } in
    let keys = ap (length {A = CellRef}) (c.keys_of-own.ensures ∙ at_keys (g.C.Cells.image c.args.cells.now) c.args.at c.args.levels c.requires.tree.0 c.requires.tree.1 c.requires.tree.2 c.node_at-node.result c.node_at-node.ensures) in
    let below = c.loop-place-test.true in
    let child = inner_child (g.C.Cells.image c.args.cells.now) c.args.at c.args.levels c.requires.tree.0 c.requires.tree.1 c.requires.tree.2 (sym (at_leaf (g.C.Cells.image c.args.cells.now) c.args.at c.args.levels c.requires.tree.0 c.requires.tree.1 c.requires.tree.2 c.node_at-node.result c.node_at-node.ensures) ∙ c.if-node.false) c.loop-place.place none (omega arith) in
    let same = c.children_of-children.ensures ∙ at_children (g.C.Cells.image c.args.cells.now) c.args.at c.args.levels c.requires.tree.0 c.requires.tree.1 c.requires.tree.2 c.node_at-node.result c.node_at-node.ensures in
    let parts_many = (inner_parts (g.C.Cells.image c.args.cells.now) c.args.at c.args.levels c.requires.tree.0 c.requires.tree.1 c.requires.tree.2 (sym (at_leaf (g.C.Cells.image c.args.cells.now) c.args.at c.args.levels c.requires.tree.0 c.requires.tree.1 c.requires.tree.2 c.node_at-node.result c.node_at-node.ensures) ∙ c.if-node.false)).0 in
    let high = c.requires.tree.2.height in
    let falls = c.decreases in (
      omega arith,
      (
        inside.0,
        (
          inside.1.0,
          (
            inside.1.1,
            (
              (
                child.height,
                child.child,
                subst (λ (cs : List CellRef). IsTreeAt (g.C.Cells.image c.args.cells.now) (get_or cs c.loop-place.place none) (c.args.levels - 1) child.height child.child) (sym same) child.is,
                child_keyed (says (g.K.Keys.meaning c.args.keys.now) (g.C.Cells.image c.args.cells.now)) c.requires.tree.0 c.requires.tree.1 c.requires.tree.3 (versions child.height child.child) c.loop-place.place child.part (omega arith),
              ),
              c.requires.key,
            ),
          ),
        ),
      ),
    )

pub gather_equal-requires-in-Greater : goal.gather_equal-requires-in-Greater
gather_equal-requires-in-Greater g t c κs inside =
    let none : CellRef = record { number = 0 } in
    let keys = ap (length {A = CellRef}) (c.keys_of-own.ensures ∙ at_keys (g.C.Cells.image c.args.cells.now) c.args.at c.args.levels c.requires.tree.0 c.requires.tree.1 c.requires.tree.2 c.node_at-node.result c.node_at-node.ensures) in
    let below = c.loop-place-test.true in
    let child = inner_child (g.C.Cells.image c.args.cells.now) c.args.at c.args.levels c.requires.tree.0 c.requires.tree.1 c.requires.tree.2 (sym (at_leaf (g.C.Cells.image c.args.cells.now) c.args.at c.args.levels c.requires.tree.0 c.requires.tree.1 c.requires.tree.2 c.node_at-node.result c.node_at-node.ensures) ∙ c.if-node.false) c.loop-place.place none (omega arith) in
    let same = c.children_of-children.ensures ∙ at_children (g.C.Cells.image c.args.cells.now) c.args.at c.args.levels c.requires.tree.0 c.requires.tree.1 c.requires.tree.2 c.node_at-node.result c.node_at-node.ensures in
    let parts_many = (inner_parts (g.C.Cells.image c.args.cells.now) c.args.at c.args.levels c.requires.tree.0 c.requires.tree.1 c.requires.tree.2 (sym (at_leaf (g.C.Cells.image c.args.cells.now) c.args.at c.args.levels c.requires.tree.0 c.requires.tree.1 c.requires.tree.2 c.node_at-node.result c.node_at-node.ensures) ∙ c.if-node.false)).0 in
    let high = c.requires.tree.2.height in
    let falls = c.decreases in (
      omega arith,
      (
        inside.0,
        (
          inside.1.0,
          (
            inside.1.1,
            (
              (
                child.height,
                child.child,
                subst (λ (cs : List CellRef). IsTreeAt (g.C.Cells.image c.args.cells.now) (get_or cs c.loop-place.place none) (c.args.levels - 1) child.height child.child) (sym same) child.is,
                child_keyed (says (g.K.Keys.meaning c.args.keys.now) (g.C.Cells.image c.args.cells.now)) c.requires.tree.0 c.requires.tree.1 c.requires.tree.3 (versions child.height child.child) c.loop-place.place child.part (omega arith),
              ),
              c.requires.key,
            ),
          ),
        ),
      ),
    )

pub returns-in-Greater : goal.returns-in-Greater
returns-in-Greater g t c = on_ok c.gather_equal-in-Greater.result ((h : ℕ) (b : BTree h) → IsTreeAt (g.C.Cells.image c.args.cells.now) (get_or c.children_of-children.result.now c.loop-place.place (record { number = 0 })) (c.args.levels - 1) h b → AreKeyed (says (g.K.Keys.meaning c.args.keys.now) (g.C.Cells.image c.args.cells.now)) (versions h b) → c.gather_equal-in-Greater.new.refs ≡ c.loop-place.refs ++ filter (has_key (says (g.K.Keys.meaning c.args.keys.now) (g.C.Cells.image c.args.cells.now)) c.args.key.now) (versions h b)) ((h : ℕ) (b : BTree h) → IsTreeAt (g.C.Cells.image c.args.cells.now) c.args.at c.args.levels h b → AreKeyed (says (g.K.Keys.meaning c.args.keys.now) (g.C.Cells.image c.args.cells.now)) (versions h b) → c.gather_equal-in-Greater.new.refs ≡ c.args.refs.now ++ filter (has_key (says (g.K.Keys.meaning c.args.keys.now) (g.C.Cells.image c.args.cells.now)) c.args.key.now) (versions h b)) (λ grown h b is keyed.
    let none : CellRef = record { number = 0 } in
    let own : c.keys_of-own.result.now ≡ b.keys = c.keys_of-own.ensures ∙ at_keys (g.C.Cells.image c.args.cells.now) c.args.at c.args.levels h b is c.node_at-node.result c.node_at-node.ensures in
    let keys = ap (length {A = CellRef}) own in
    let same = c.children_of-children.ensures ∙ at_children (g.C.Cells.image c.args.cells.now) c.args.at c.args.levels h b is c.node_at-node.result c.node_at-node.ensures in
    let parts_many = (inner_parts (g.C.Cells.image c.args.cells.now) c.args.at c.args.levels h b is (sym (at_leaf (g.C.Cells.image c.args.cells.now) c.args.at c.args.levels h b is c.node_at-node.result c.node_at-node.ensures) ∙ c.if-node.false)).0 in
    let woven_keyed : AreKeyed (says (g.K.Keys.meaning c.args.keys.now) (g.C.Cells.image c.args.cells.now)) (woven b.keys (parts_of h b)) = subst (AreKeyed (says (g.K.Keys.meaning c.args.keys.now) (g.C.Cells.image c.args.cells.now))) (woven_is h b) keyed in
    let below = c.loop-place-test.true in
    let child = inner_child (g.C.Cells.image c.args.cells.now) c.args.at c.args.levels h b is (sym (at_leaf (g.C.Cells.image c.args.cells.now) c.args.at c.args.levels h b is c.node_at-node.result c.node_at-node.ensures) ∙ c.if-node.false) c.loop-place.place none (omega arith) in
    end_past (says (g.K.Keys.meaning c.args.keys.now) (g.C.Cells.image c.args.cells.now)) c.args.key.now b.keys (parts_of h b) c.loop-place.place none (versions child.height child.child) c.loop-place.refs (c.args.refs.now ++ filter (has_key (says (g.K.Keys.meaning c.args.keys.now) (g.C.Cells.image c.args.cells.now)) c.args.key.now) (versions h b)) (omega arith) child.part woven_keyed
    (c.loop-place.invariant h b is keyed) c.gather_equal-in-Greater.new.refs
    (test_key is_le ((g.K.Keys.meaning c.args.keys.now).version_of (g.C.Cells.image c.args.cells.now) (get_or b.keys c.loop-place.place none).number) c.args.key.now None c.against.result (keyed.keyed (get_or b.keys c.loop-place.place none) (own_keyed (says (g.K.Keys.meaning c.args.keys.now) (g.C.Cells.image c.args.cells.now)) h b keyed (get_or b.keys c.loop-place.place none) (within b.keys c.loop-place.place none (omega arith)))) (subst (λ (ks : List CellRef). ForSome ((g.K.Keys.meaning c.args.keys.now).version_of (g.C.Cells.image c.args.cells.now) (get_or ks c.loop-place.place none).number) (λ v. c.against.result ≡ key_order v c.args.key.now None)) own c.against.ensures.order) ∙ ap is_le c.in-Greater.is)
    (grown child.height child.child (subst (λ (cs : List CellRef). IsTreeAt (g.C.Cells.image c.args.cells.now) (get_or cs c.loop-place.place none) (c.args.levels - 1) child.height child.child) (sym same) child.is) (child_keyed (says (g.K.Keys.meaning c.args.keys.now) (g.C.Cells.image c.args.cells.now)) h b keyed (versions child.height child.child) c.loop-place.place child.part (omega arith)))) c.gather_equal-in-Greater.ensures

pub loop-place-preserved : goal.loop-place-preserved
loop-place-preserved g t c = λ h b is keyed.
    let none : CellRef = record { number = 0 } in
    let own : c.keys_of-own.result.now ≡ b.keys = c.keys_of-own.ensures ∙ at_keys (g.C.Cells.image c.args.cells.now) c.args.at c.args.levels h b is c.node_at-node.result c.node_at-node.ensures in
    let keys = ap (length {A = CellRef}) own in
    let same = c.children_of-children.ensures ∙ at_children (g.C.Cells.image c.args.cells.now) c.args.at c.args.levels h b is c.node_at-node.result c.node_at-node.ensures in
    let parts_many = (inner_parts (g.C.Cells.image c.args.cells.now) c.args.at c.args.levels h b is (sym (at_leaf (g.C.Cells.image c.args.cells.now) c.args.at c.args.levels h b is c.node_at-node.result c.node_at-node.ensures) ∙ c.if-node.false)).0 in
    let woven_keyed : AreKeyed (says (g.K.Keys.meaning c.args.keys.now) (g.C.Cells.image c.args.cells.now)) (woven b.keys (parts_of h b)) = subst (AreKeyed (says (g.K.Keys.meaning c.args.keys.now) (g.C.Cells.image c.args.cells.now))) (woven_is h b) keyed in
    let below = c.loop-place-test.true in
    let child = inner_child (g.C.Cells.image c.args.cells.now) c.args.at c.args.levels h b is (sym (at_leaf (g.C.Cells.image c.args.cells.now) c.args.at c.args.levels h b is c.node_at-node.result c.node_at-node.ensures) ∙ c.if-node.false) c.loop-place.place none (omega arith) in
    elim c.match-against.branch [
      | in-Less w ↦
          subst (λ (rs : List CellRef). rs ++ filter (has_key (says (g.K.Keys.meaning c.args.keys.now) (g.C.Cells.image c.args.cells.now)) c.args.key.now) (woven (drop (c.loop-place.place + 1) b.keys) (drop (c.loop-place.place + 1) (parts_of h b))) ≡ c.args.refs.now ++ filter (has_key (says (g.K.Keys.meaning c.args.keys.now) (g.C.Cells.image c.args.cells.now)) c.args.key.now) (versions h b)) (sym w.refs-is)
          (step_less (says (g.K.Keys.meaning c.args.keys.now) (g.C.Cells.image c.args.cells.now)) c.args.key.now b.keys (parts_of h b) c.loop-place.place none (versions child.height child.child) c.loop-place.refs (c.args.refs.now ++ filter (has_key (says (g.K.Keys.meaning c.args.keys.now) (g.C.Cells.image c.args.cells.now)) c.args.key.now) (versions h b)) (omega arith) child.part woven_keyed
          (c.loop-place.invariant h b is keyed)
          (test_key is_lt ((g.K.Keys.meaning c.args.keys.now).version_of (g.C.Cells.image c.args.cells.now) (get_or b.keys c.loop-place.place none).number) c.args.key.now None c.against.result (keyed.keyed (get_or b.keys c.loop-place.place none) (own_keyed (says (g.K.Keys.meaning c.args.keys.now) (g.C.Cells.image c.args.cells.now)) h b keyed (get_or b.keys c.loop-place.place none) (within b.keys c.loop-place.place none (omega arith)))) (subst (λ (ks : List CellRef). ForSome ((g.K.Keys.meaning c.args.keys.now).version_of (g.C.Cells.image c.args.cells.now) (get_or ks c.loop-place.place none).number) (λ v. c.against.result ≡ key_order v c.args.key.now None)) own c.against.ensures.order) ∙ ap is_lt w.in-Less.is))
      | in-Equal+in_ok-gather_equal-in-Equal+in_ok-push-in-Equal w ↦
          subst (λ (rs : List CellRef). rs ++ filter (has_key (says (g.K.Keys.meaning c.args.keys.now) (g.C.Cells.image c.args.cells.now)) c.args.key.now) (woven (drop (c.loop-place.place + 1) b.keys) (drop (c.loop-place.place + 1) (parts_of h b))) ≡ c.args.refs.now ++ filter (has_key (says (g.K.Keys.meaning c.args.keys.now) (g.C.Cells.image c.args.cells.now)) c.args.key.now) (versions h b)) (sym w.refs-is)
          (step_equal (says (g.K.Keys.meaning c.args.keys.now) (g.C.Cells.image c.args.cells.now)) c.args.key.now b.keys (parts_of h b) c.loop-place.place none (versions child.height child.child) c.loop-place.refs (c.args.refs.now ++ filter (has_key (says (g.K.Keys.meaning c.args.keys.now) (g.C.Cells.image c.args.cells.now)) c.args.key.now) (versions h b)) (omega arith) child.part woven_keyed
          (c.loop-place.invariant h b is keyed) w.gather_equal.new.refs w.push.new.self
          (test_key is_eq ((g.K.Keys.meaning c.args.keys.now).version_of (g.C.Cells.image c.args.cells.now) (get_or b.keys c.loop-place.place none).number) c.args.key.now None c.against.result (keyed.keyed (get_or b.keys c.loop-place.place none) (own_keyed (says (g.K.Keys.meaning c.args.keys.now) (g.C.Cells.image c.args.cells.now)) h b keyed (get_or b.keys c.loop-place.place none) (within b.keys c.loop-place.place none (omega arith)))) (subst (λ (ks : List CellRef). ForSome ((g.K.Keys.meaning c.args.keys.now).version_of (g.C.Cells.image c.args.cells.now) (get_or ks c.loop-place.place none).number) (λ v. c.against.result ≡ key_order v c.args.key.now None)) own c.against.ensures.order) ∙ ap is_eq w.in-Equal.is)
          (w.in_ok-gather_equal-in-Equal.ensures child.height child.child (subst (λ (cs : List CellRef). IsTreeAt (g.C.Cells.image c.args.cells.now) (get_or cs c.loop-place.place none) (c.args.levels - 1) child.height child.child) (sym same) child.is) (child_keyed (says (g.K.Keys.meaning c.args.keys.now) (g.C.Cells.image c.args.cells.now)) h b keyed (versions child.height child.child) c.loop-place.place child.part (omega arith)))
          (w.in_ok-push-in-Equal.ensures.ok ∙ ap (λ (ks : List CellRef). w.gather_equal.new.refs ++ get_or ks c.loop-place.place none ∷ []) own))
    ]

pub gather_equal-requires-2 : goal.gather_equal-requires-2
gather_equal-requires-2 g t c κs inside =
    let none : CellRef = record { number = 0 } in
    let keys = ap (length {A = CellRef}) (c.keys_of-own.ensures ∙ at_keys (g.C.Cells.image c.args.cells.now) c.args.at c.args.levels c.requires.tree.0 c.requires.tree.1 c.requires.tree.2 c.node_at-node.result c.node_at-node.ensures) in
    let child = inner_child (g.C.Cells.image c.args.cells.now) c.args.at c.args.levels c.requires.tree.0 c.requires.tree.1 c.requires.tree.2 (sym (at_leaf (g.C.Cells.image c.args.cells.now) c.args.at c.args.levels c.requires.tree.0 c.requires.tree.1 c.requires.tree.2 c.node_at-node.result c.node_at-node.ensures) ∙ c.if-node.false) (length c.keys_of-own.result.now) none (omega arith) in
    let same = c.children_of-children.ensures ∙ at_children (g.C.Cells.image c.args.cells.now) c.args.at c.args.levels c.requires.tree.0 c.requires.tree.1 c.requires.tree.2 c.node_at-node.result c.node_at-node.ensures in
    let parts_many = (inner_parts (g.C.Cells.image c.args.cells.now) c.args.at c.args.levels c.requires.tree.0 c.requires.tree.1 c.requires.tree.2 (sym (at_leaf (g.C.Cells.image c.args.cells.now) c.args.at c.args.levels c.requires.tree.0 c.requires.tree.1 c.requires.tree.2 c.node_at-node.result c.node_at-node.ensures) ∙ c.if-node.false)).0 in
    let high = c.requires.tree.2.height in
    let falls = c.decreases in (
      omega arith,
      (
        inside.0,
        (
          inside.1.0,
          (
            inside.1.1,
            (
              (
                child.height,
                child.child,
                subst (λ (cs : List CellRef). IsTreeAt (g.C.Cells.image c.args.cells.now) (get_or cs (length c.keys_of-own.result.now) none) (c.args.levels - 1) child.height child.child) (sym same) child.is,
                child_keyed (says (g.K.Keys.meaning c.args.keys.now) (g.C.Cells.image c.args.cells.now)) c.requires.tree.0 c.requires.tree.1 c.requires.tree.3 (versions child.height child.child) (length c.keys_of-own.result.now) child.part (omega arith),
              ),
              c.requires.key,
            ),
          ),
        ),
      ),
    )

pub returns : goal.returns
returns g t c = on_ok c.gather_equal-2.result ((h : ℕ) (b : BTree h) → IsTreeAt (g.C.Cells.image c.args.cells.now) (get_or c.children_of-children.result.now (length c.keys_of-own.result.now) (record { number = 0 })) (c.args.levels - 1) h b → AreKeyed (says (g.K.Keys.meaning c.args.keys.now) (g.C.Cells.image c.args.cells.now)) (versions h b) → c.gather_equal-2.new.refs ≡ c.loop-place.refs ++ filter (has_key (says (g.K.Keys.meaning c.args.keys.now) (g.C.Cells.image c.args.cells.now)) c.args.key.now) (versions h b)) ((h : ℕ) (b : BTree h) → IsTreeAt (g.C.Cells.image c.args.cells.now) c.args.at c.args.levels h b → AreKeyed (says (g.K.Keys.meaning c.args.keys.now) (g.C.Cells.image c.args.cells.now)) (versions h b) → c.gather_equal-2.new.refs ≡ c.args.refs.now ++ filter (has_key (says (g.K.Keys.meaning c.args.keys.now) (g.C.Cells.image c.args.cells.now)) c.args.key.now) (versions h b)) (λ grown h b is keyed.
    let none : CellRef = record { number = 0 } in
    let own : c.keys_of-own.result.now ≡ b.keys = c.keys_of-own.ensures ∙ at_keys (g.C.Cells.image c.args.cells.now) c.args.at c.args.levels h b is c.node_at-node.result c.node_at-node.ensures in
    let keys = ap (length {A = CellRef}) own in
    let same = c.children_of-children.ensures ∙ at_children (g.C.Cells.image c.args.cells.now) c.args.at c.args.levels h b is c.node_at-node.result c.node_at-node.ensures in
    let parts_many = (inner_parts (g.C.Cells.image c.args.cells.now) c.args.at c.args.levels h b is (sym (at_leaf (g.C.Cells.image c.args.cells.now) c.args.at c.args.levels h b is c.node_at-node.result c.node_at-node.ensures) ∙ c.if-node.false)).0 in
    let woven_keyed : AreKeyed (says (g.K.Keys.meaning c.args.keys.now) (g.C.Cells.image c.args.cells.now)) (woven b.keys (parts_of h b)) = subst (AreKeyed (says (g.K.Keys.meaning c.args.keys.now) (g.C.Cells.image c.args.cells.now))) (woven_is h b) keyed in
    let child = inner_child (g.C.Cells.image c.args.cells.now) c.args.at c.args.levels h b is (sym (at_leaf (g.C.Cells.image c.args.cells.now) c.args.at c.args.levels h b is c.node_at-node.result c.node_at-node.ensures) ∙ c.if-node.false) (length c.keys_of-own.result.now) none (omega arith) in
    let past = c.loop-place-test.false in
    let most = c.loop-place.auto.place-end in
    let end : c.loop-place.place ≡ length c.keys_of-own.result.now = omega arith in
    end_equal (says (g.K.Keys.meaning c.args.keys.now) (g.C.Cells.image c.args.cells.now)) c.args.key.now b.keys (parts_of h b) c.loop-place.place (versions child.height child.child) c.loop-place.refs (c.args.refs.now ++ filter (has_key (says (g.K.Keys.meaning c.args.keys.now) (g.C.Cells.image c.args.cells.now)) c.args.key.now) (versions h b)) c.gather_equal-2.new.refs (omega arith) parts_many
    (subst (λ (n : ℕ). slice_get (parts_of h b) n ≡ Some (versions child.height child.child)) (sym end) child.part)
    (c.loop-place.invariant h b is keyed)
    (grown child.height child.child (subst (λ (cs : List CellRef). IsTreeAt (g.C.Cells.image c.args.cells.now) (get_or cs (length c.keys_of-own.result.now) none) (c.args.levels - 1) child.height child.child) (sym same) child.is) (child_keyed (says (g.K.Keys.meaning c.args.keys.now) (g.C.Cells.image c.args.cells.now)) h b keyed (versions child.height child.child) (length c.keys_of-own.result.now) child.part (omega arith)))) c.gather_equal-2.ensures
