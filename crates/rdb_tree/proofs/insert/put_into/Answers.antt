use Rattle.std.proofs.Common.{List, length, slice_get, refl, sym, ap, ap₂, subst, ◌∙◌, arith}
use Rattle.rdb_pages.specs.declared.cell.CellRef.{CellRef}
use Rattle.rdb_cells.specs.TreeFormat.{tree_node_cell}
use Rattle.rdb_cells.specs.Work.{work, reading}
use Rattle.rdb_cells.proofs.WorkLemmas.{put_work, put_is}
use Rattle.rdb_tree.specs.Changes.{split_work, raised_keys, raised_children, FitsKeys, FitsPlace}
use Rattle.rdb_tree.specs.Trees.{node_with}
use Rattle.rdb_tree.proofs.ChangeLemmas.{node_children_few, node_few, node_keys, node_children, one_key_more, raised_fits, fits_place, few_children}
use Rattle.rdb_tree.proofs.insert.put_into.Goals as goal

pub keys_of-requires : goal.keys_of-requires
keys_of-requires g c = node_few (reading (work g.C.Cells c.args.cells.now)) c.args.step.at c.requires.node.0 c.requires.node.1 c.requires.node.2 c.node_at-node.result c.node_at-node.ensures

pub with_one-versions-requires-clause-place : goal.with_one-versions-requires-clause-place
with_one-versions-requires-clause-place g c =
    let same = ap (length {A = CellRef}) (c.keys_of.ensures ∙ node_keys (reading (work g.C.Cells c.args.cells.now)) c.args.step.at c.requires.node.0 c.requires.node.1 c.requires.node.2 c.node_at-node.result c.node_at-node.ensures) in
    let within = c.requires.node.3 in
    omega arith

pub children_of-requires : goal.children_of-requires
children_of-requires g c = node_few (reading (work g.C.Cells c.args.cells.now)) c.args.step.at c.requires.node.0 c.requires.node.1 c.requires.node.2 c.node_at-node.result c.node_at-node.ensures

pub with_child-children-requires-clause-place : goal.with_child-children-requires-clause-place
with_child-children-requires-clause-place g c =
    subst (FitsPlace c.args.step.place) (sym (c.children_of.ensures ∙ node_children (reading (work g.C.Cells c.args.cells.now)) c.args.step.at c.requires.node.0 c.requires.node.1 c.requires.node.2 c.node_at-node.result c.node_at-node.ensures)) (fits_place c.args.step.place c.requires.node.0 c.requires.node.1 c.requires.node.3 c.requires.node.2.fits)

pub with_child-children-requires-clause-room : goal.with_child-children-requires-clause-room
with_child-children-requires-clause-room g c =
    let same = ap (length {A = CellRef}) (c.children_of.ensures ∙ node_children (reading (work g.C.Cells c.args.cells.now)) c.args.step.at c.requires.node.0 c.requires.node.1 c.requires.node.2 c.node_at-node.result c.node_at-node.ensures) in
    let few = node_children_few (reading (work g.C.Cells c.args.cells.now)) c.args.step.at c.requires.node.0 c.requires.node.1 c.requires.node.2 in
    omega arith

-- the row of keys, and the row of children
pub node_of-node-requires-clause-children : goal.node_of-node-requires-clause-children
node_of-node-requires-clause-children g c =
    let keys = c.with_one-versions.ensures ∙ ap (raised_keys c.args.step.place c.args.raised.key) (c.keys_of.ensures ∙ node_keys (reading (work g.C.Cells c.args.cells.now)) c.args.step.at c.requires.node.0 c.requires.node.1 c.requires.node.2 c.node_at-node.result c.node_at-node.ensures) in
    let children = c.as_slice-then-as_slice-le-TREE_KEYS-2.ensures ∙ c.with_child-children.ensures ∙ ap (raised_children c.args.step.place c.args.raised.right) (c.children_of.ensures ∙ node_children (reading (work g.C.Cells c.args.cells.now)) c.args.step.at c.requires.node.0 c.requires.node.1 c.requires.node.2 c.node_at-node.result c.node_at-node.ensures) in
    let first = ap (length {A = CellRef}) (c.as_slice.ensures ∙ keys) in
    let second = ap (length {A = CellRef}) children in
    let test = c.if-as_slice-le-TREE_KEYS.true in
    let few = few_children (raised_keys c.args.step.place c.args.raised.key c.requires.node.0) (raised_children c.args.step.place c.args.raised.right c.requires.node.1) (omega arith) (raised_fits c.args.step.place c.args.raised.key c.args.raised.right c.requires.node.0 c.requires.node.1 c.requires.node.3 c.requires.node.2.fits) in
    omega arith

pub returns-then-as_slice-le-TREE_KEYS-clause-work : goal.returns-then-as_slice-le-TREE_KEYS-clause-work
returns-then-as_slice-le-TREE_KEYS-clause-work g c = λ keys children is.
    let own = c.with_one-versions.ensures ∙ ap (raised_keys c.args.step.place c.args.raised.key) (c.keys_of.ensures ∙ node_keys (reading (work g.C.Cells c.args.cells.now)) c.args.step.at keys children is c.node_at-node.result c.node_at-node.ensures) in
    let below = c.with_child-children.ensures ∙ ap (raised_children c.args.step.place c.args.raised.right) (c.children_of.ensures ∙ node_children (reading (work g.C.Cells c.args.cells.now)) c.args.step.at keys children is c.node_at-node.result c.node_at-node.ensures) in
    let first = ap (length {A = CellRef}) (c.as_slice.ensures ∙ own) in
    let test = c.if-as_slice-le-TREE_KEYS.true in
    record {
      fit = omega arith;
      work = put_is g.C.Cells c.args.cells.now c.put.new.self (work g.C.Cells c.args.cells.now) c.args.step.at c.to_cell.result refl c.put.ensures.plan
          ∙ ap (put_work (work g.C.Cells c.args.cells.now) c.args.step.at) (c.to_cell.ensures.value ∙ ap tree_node_cell (c.node_of-node.ensures.node ∙ ap₂ node_with (c.as_slice-then-as_slice-le-TREE_KEYS.ensures ∙ own) (c.as_slice-then-as_slice-le-TREE_KEYS-2.ensures ∙ below)));
    }

pub split-requires-clause-versions : goal.split-requires-clause-versions
split-requires-clause-versions g c =
    let keys = c.with_one-versions.ensures ∙ ap (raised_keys c.args.step.place c.args.raised.key) (c.keys_of.ensures ∙ node_keys (reading (work g.C.Cells c.args.cells.now)) c.args.step.at c.requires.node.0 c.requires.node.1 c.requires.node.2 c.node_at-node.result c.node_at-node.ensures) in
    let first = ap (length {A = CellRef}) (c.as_slice.ensures ∙ keys) in
    let second = ap (length {A = CellRef}) (c.as_slice-2.ensures ∙ keys) in
    let test = c.if-as_slice-le-TREE_KEYS.false in
    let more = one_key_more c.args.step.place c.args.raised.key c.requires.node.0 c.requires.node.3 in
    let few = c.requires.node.2.few in
    omega arith

pub split-requires-clause-children : goal.split-requires-clause-children
split-requires-clause-children g c =
    let keys = c.as_slice-2.ensures ∙ c.with_one-versions.ensures ∙ ap (raised_keys c.args.step.place c.args.raised.key) (c.keys_of.ensures ∙ node_keys (reading (work g.C.Cells c.args.cells.now)) c.args.step.at c.requires.node.0 c.requires.node.1 c.requires.node.2 c.node_at-node.result c.node_at-node.ensures) in
    let children = c.as_slice-3.ensures ∙ c.with_child-children.ensures ∙ ap (raised_children c.args.step.place c.args.raised.right) (c.children_of.ensures ∙ node_children (reading (work g.C.Cells c.args.cells.now)) c.args.step.at c.requires.node.0 c.requires.node.1 c.requires.node.2 c.node_at-node.result c.node_at-node.ensures) in
    subst (λ (ks : List CellRef). FitsKeys ks c.as_slice-3.result.now) (sym keys)
    (subst (λ (cs : List CellRef). FitsKeys (raised_keys c.args.step.place c.args.raised.key c.requires.node.0) cs) (sym children)
    (raised_fits c.args.step.place c.args.raised.key c.args.raised.right c.requires.node.0 c.requires.node.1 c.requires.node.3 c.requires.node.2.fits))

pub returns-clause-work : goal.returns-clause-work
returns-clause-work g c = λ keys children is.
    let own = c.with_one-versions.ensures ∙ ap (raised_keys c.args.step.place c.args.raised.key) (c.keys_of.ensures ∙ node_keys (reading (work g.C.Cells c.args.cells.now)) c.args.step.at keys children is c.node_at-node.result c.node_at-node.ensures) in
    let below = c.with_child-children.ensures ∙ ap (raised_children c.args.step.place c.args.raised.right) (c.children_of.ensures ∙ node_children (reading (work g.C.Cells c.args.cells.now)) c.args.step.at keys children is c.node_at-node.result c.node_at-node.ensures) in
    let first = ap (length {A = CellRef}) (c.as_slice.ensures ∙ own) in
    let test = c.if-as_slice-le-TREE_KEYS.false in
    record {
      over = omega arith;
      lowest = c.split.ensures.lowest;
      key = ap (λ (ks : List CellRef). slice_get ks 3) (sym (c.as_slice-2.ensures ∙ own)) ∙ c.split.ensures.key;
      work = c.split.ensures.work ∙ ap₂ (λ (ks cs : List CellRef). split_work (work g.C.Cells c.args.cells.now) c.split.result.right c.args.step.at ks cs) (c.as_slice-2.ensures ∙ own) (c.as_slice-3.ensures ∙ below);
    }
