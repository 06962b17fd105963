use Rattle.std.proofs.Common.{◌+◌, ℕ, length, get_or, sym, ap, ◌∙◌, arith}
use Rattle.std.proofs.lemmas.List.{length-map, take_all}
use Rattle.rdb_pages.specs.declared.cell.CellRef.{CellRef}
use Rattle.rdb_rtree.specs.Changes.{entries_above}
use Rattle.rdb_rtree.specs.Trees.{place}
use Rattle.rdb_rtree.specs.declared.entry.Entry.{Entry}
use Rattle.rdb_rtree.proofs.NodeLemmas.{tree_few, tree_refs, tree_node, below_at, read_one}
use Rattle.rdb_rtree.proofs.SplitLemmas.{pushed}
use Rattle.rdb_rtree.proofs.node.entries_at.Goals as goal

pub refs_of-refs-requires : goal.refs_of-refs-requires
refs_of-refs-requires g c = tree_few (g.C.Cells.image c.args.cells.now) c.args.at c.args.level c.requires.1 c.requires.2 c.requires.3.tree c.node_at-node.result c.node_at-node.ensures

pub loop-own-init : goal.loop-own-init
loop-own-init g c = record { read = λ said h t is. c.new-entries.ensures; many = ap (length {A = Entry}) c.new-entries.ensures }

pub cover_at-requires : goal.cover_at-requires
cover_at-requires g c =
    let none : CellRef = record { number = 0 } in
    let b = below_at (g.K.Keys.meaning c.args.keys.now) c.requires.0 (g.C.Cells.image c.args.cells.now) c.args.at c.args.level c.requires.1 c.requires.2 c.requires.3 c.refs_of-refs.result.now (c.refs_of-refs.ensures ∙ tree_refs (g.C.Cells.image c.args.cells.now) c.args.at c.args.level c.requires.1 c.requires.2 c.requires.3.tree c.node_at-node.result c.node_at-node.ensures) c.loop-own.own-index none c.loop-own-test.true in
    (c.requires.0, c.requires.1, b.one, b.is)

pub push-requires : goal.push-requires
push-requires g c =
    let few = (tree_node (g.C.Cells.image c.args.cells.now) c.args.at c.args.level c.requires.1 c.requires.2 c.requires.3.tree).proper.count in
    let many = ap (length {A = CellRef}) (c.refs_of-refs.ensures ∙ tree_refs (g.C.Cells.image c.args.cells.now) c.args.at c.args.level c.requires.1 c.requires.2 c.requires.3.tree c.node_at-node.result c.node_at-node.ensures) in
    let low = c.loop-own-test.true in
    let so_far = c.loop-own.invariant.many in
    omega arith

pub loop-own-preserved : goal.loop-own-preserved
loop-own-preserved g c =
    let none : CellRef = record { number = 0 } in
    let entry : Entry = record { at = get_or c.refs_of-refs.result.now c.loop-own.own-index none; cover = c.cover_at.result } in
    record {
      read = λ said h t is.
          let b = below_at (g.K.Keys.meaning c.args.keys.now) said (g.C.Cells.image c.args.cells.now) c.args.at c.args.level h t is c.refs_of-refs.result.now (c.refs_of-refs.ensures ∙ tree_refs (g.C.Cells.image c.args.cells.now) c.args.at c.args.level h t is.tree c.node_at-node.result c.node_at-node.ensures) c.loop-own.own-index none c.loop-own-test.true in
          read_one said h t.below c.loop-own.own-index b.one c.loop-own.entries.items c.push.new.self.items entry b.taken (c.loop-own.invariant.read said h t is) c.push.ensures.items
          (λ i. record { at = sym b.is.at_is i; cover = c.cover_at.ensures said h b.one b.is i });
      many = pushed c.loop-own.entries.items c.push.new.self.items entry c.push.ensures.items ∙ ap (λ (n : ℕ). n + 1) c.loop-own.invariant.many;
    }

pub returns : goal.returns
returns g c = λ said h t is.
    let many = ap (length {A = CellRef}) (c.refs_of-refs.ensures ∙ tree_refs (g.C.Cells.image c.args.cells.now) c.args.at c.args.level h t is.tree c.node_at-node.result c.node_at-node.ensures) ∙ length-map t.below (place h) in
    let past = c.loop-own-test.false in
    c.loop-own.invariant.read said h t is ∙ ap (entries_above said h) (take_all c.loop-own.own-index t.below (omega arith))
