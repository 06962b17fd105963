use Rattle.std.proofs.Common.{refl, arith}
use Rattle.rdb_cells.specs.Keys.{says}
use Rattle.rdb_cells.specs.Work.{work, reading}
use Rattle.rdb_rtree.specs.Changes.{versions_below}
use Rattle.rdb_rtree.specs.Trees.{root_of}
use Rattle.rdb_rtree.proofs.RemoveLemmas.{top_is, top_low, listed_boxed, root_cell, root_lowers, root_room, removed_whole, not_lacking, listed_below}
use Rattle.rdb_rtree.proofs.RootLemmas.{proper_box, proper_entry}
use Rattle.rdb_rtree.proofs.WholeLemmas.{root_read}
use Rattle.rdb_rtree.proofs.remove.remove.Goals as goal

pub rect-requires : goal.rect-requires
rect-requires g c =
    proper_box (g.K.Keys.meaning c.args.keys.now) (reading (work g.C.Cells c.args.cells.now)) c.args.version
    (listed_boxed (g.K.Keys.meaning c.args.keys.now) (work g.C.Cells c.args.cells.now) c.args.tree.now.head c.requires.standing.0 c.requires.standing.1 c.requires.standing.2 (root_of c.requires.standing.2.tree) refl c.args.version c.requires.standing.3)

pub node_at-node-requires : goal.node_at-node-requires
node_at-node-requires g c = root_cell (g.K.Keys.meaning c.args.keys.now) (work g.C.Cells c.args.cells.now) c.args.tree.now.head c.requires.standing.0 c.requires.standing.1 c.requires.standing.2 c.root_in-root.result (root_read (reading (work g.C.Cells c.args.cells.now)) c.args.tree.now.head.number (root_of c.requires.standing.2.tree) c.root_in-root.result c.planned.result.now c.requires.standing.2.leads c.planned.ensures.planned c.root_in-root.ensures) c.args.version c.requires.standing.3

pub without_entry-requires-clause-tree : goal.without_entry-requires-clause-tree
without_entry-requires-clause-tree g c =
    let r = top_is (g.K.Keys.meaning c.args.keys.now) (work g.C.Cells c.args.cells.now) c.args.tree.now.head c.requires.standing.0 c.requires.standing.1 c.requires.standing.2 c.root_in-root.result (root_read (reading (work g.C.Cells c.args.cells.now)) c.args.tree.now.head.number (root_of c.requires.standing.2.tree) c.root_in-root.result c.planned.result.now c.requires.standing.2.leads c.planned.ensures.planned c.root_in-root.ensures) c.args.version c.requires.standing.3 (record { at = c.args.version; cover = c.rect.result }) (proper_entry (g.K.Keys.meaning c.args.keys.now) (reading (work g.C.Cells c.args.cells.now)) c.args.version (listed_boxed (g.K.Keys.meaning c.args.keys.now) (work g.C.Cells c.args.cells.now) c.args.tree.now.head c.requires.standing.0 c.requires.standing.1 c.requires.standing.2 c.root_in-root.result (root_read (reading (work g.C.Cells c.args.cells.now)) c.args.tree.now.head.number (root_of c.requires.standing.2.tree) c.root_in-root.result c.planned.result.now c.requires.standing.2.leads c.planned.ensures.planned c.root_in-root.ensures) c.args.version c.requires.standing.3) c.rect.result c.rect.ensures) c.node_at-node.result c.node_at-node.ensures in
    ((says (g.K.Keys.meaning c.args.keys.now) (reading (work g.C.Cells c.args.cells.now))), r.h, r.t, r.shrinking)

pub without_entry-requires-clause-places : goal.without_entry-requires-clause-places
without_entry-requires-clause-places g c =
    let r = top_is (g.K.Keys.meaning c.args.keys.now) (work g.C.Cells c.args.cells.now) c.args.tree.now.head c.requires.standing.0 c.requires.standing.1 c.requires.standing.2 c.root_in-root.result (root_read (reading (work g.C.Cells c.args.cells.now)) c.args.tree.now.head.number (root_of c.requires.standing.2.tree) c.root_in-root.result c.planned.result.now c.requires.standing.2.leads c.planned.ensures.planned c.root_in-root.ensures) c.args.version c.requires.standing.3 (record { at = c.args.version; cover = c.rect.result }) (proper_entry (g.K.Keys.meaning c.args.keys.now) (reading (work g.C.Cells c.args.cells.now)) c.args.version (listed_boxed (g.K.Keys.meaning c.args.keys.now) (work g.C.Cells c.args.cells.now) c.args.tree.now.head c.requires.standing.0 c.requires.standing.1 c.requires.standing.2 c.root_in-root.result (root_read (reading (work g.C.Cells c.args.cells.now)) c.args.tree.now.head.number (root_of c.requires.standing.2.tree) c.root_in-root.result c.planned.result.now c.requires.standing.2.leads c.planned.ensures.planned c.root_in-root.ensures) c.args.version c.requires.standing.3) c.rect.result c.rect.ensures) c.node_at-node.result c.node_at-node.ensures in
    let low = top_low (g.K.Keys.meaning c.args.keys.now) (says (g.K.Keys.meaning c.args.keys.now) (reading (work g.C.Cells c.args.cells.now))) (work g.C.Cells c.args.cells.now) c.args.tree.now.head (record { at = c.root_in-root.result; cover = c.node_at-node.result.cover }) c.node_at-node.result.level (record { at = c.args.version; cover = c.rect.result }) c.requires.standing.2.tree r in
    let room = c.requires.places in
    omega arith

pub lower_root-requires-clause-lowers : goal.lower_root-requires-clause-lowers
lower_root-requires-clause-lowers g c =
    let r = top_is (g.K.Keys.meaning c.args.keys.now) (work g.C.Cells c.args.cells.now) c.args.tree.now.head c.requires.standing.0 c.requires.standing.1 c.requires.standing.2 c.root_in-root.result (root_read (reading (work g.C.Cells c.args.cells.now)) c.args.tree.now.head.number (root_of c.requires.standing.2.tree) c.root_in-root.result c.planned.result.now c.requires.standing.2.leads c.planned.ensures.planned c.root_in-root.ensures) c.args.version c.requires.standing.3 (record { at = c.args.version; cover = c.rect.result }) (proper_entry (g.K.Keys.meaning c.args.keys.now) (reading (work g.C.Cells c.args.cells.now)) c.args.version (listed_boxed (g.K.Keys.meaning c.args.keys.now) (work g.C.Cells c.args.cells.now) c.args.tree.now.head c.requires.standing.0 c.requires.standing.1 c.requires.standing.2 c.root_in-root.result (root_read (reading (work g.C.Cells c.args.cells.now)) c.args.tree.now.head.number (root_of c.requires.standing.2.tree) c.root_in-root.result c.planned.result.now c.requires.standing.2.leads c.planned.ensures.planned c.root_in-root.ensures) c.args.version c.requires.standing.3) c.rect.result c.rect.ensures) c.node_at-node.result c.node_at-node.ensures in
    let shrunk = c.in-Some.ensures.found (says (g.K.Keys.meaning c.args.keys.now) (reading (work g.C.Cells c.args.cells.now))) r.h r.t r.shrinking in
    ((says (g.K.Keys.meaning c.args.keys.now) (reading (work g.C.Cells c.args.cells.now))), r.h, shrunk.now, root_lowers (g.K.Keys.meaning c.args.keys.now) (says (g.K.Keys.meaning c.args.keys.now) (reading (work g.C.Cells c.args.cells.now))) (work g.C.Cells c.args.cells.now) c.args.tree.now.head (record { at = c.root_in-root.result; cover = c.node_at-node.result.cover }) c.node_at-node.result.level (record { at = c.args.version; cover = c.rect.result }) c.requires.standing.2.tree r (work g.C.Cells c.without_entry.new.cells) c.in-Some.entries.items shrunk)

pub lower_root-requires-clause-places : goal.lower_root-requires-clause-places
lower_root-requires-clause-places g c =
    let r = top_is (g.K.Keys.meaning c.args.keys.now) (work g.C.Cells c.args.cells.now) c.args.tree.now.head c.requires.standing.0 c.requires.standing.1 c.requires.standing.2 c.root_in-root.result (root_read (reading (work g.C.Cells c.args.cells.now)) c.args.tree.now.head.number (root_of c.requires.standing.2.tree) c.root_in-root.result c.planned.result.now c.requires.standing.2.leads c.planned.ensures.planned c.root_in-root.ensures) c.args.version c.requires.standing.3 (record { at = c.args.version; cover = c.rect.result }) (proper_entry (g.K.Keys.meaning c.args.keys.now) (reading (work g.C.Cells c.args.cells.now)) c.args.version (listed_boxed (g.K.Keys.meaning c.args.keys.now) (work g.C.Cells c.args.cells.now) c.args.tree.now.head c.requires.standing.0 c.requires.standing.1 c.requires.standing.2 c.root_in-root.result (root_read (reading (work g.C.Cells c.args.cells.now)) c.args.tree.now.head.number (root_of c.requires.standing.2.tree) c.root_in-root.result c.planned.result.now c.requires.standing.2.leads c.planned.ensures.planned c.root_in-root.ensures) c.args.version c.requires.standing.3) c.rect.result c.rect.ensures) c.node_at-node.result c.node_at-node.ensures in
    let shrunk = c.in-Some.ensures.found (says (g.K.Keys.meaning c.args.keys.now) (reading (work g.C.Cells c.args.cells.now))) r.h r.t r.shrinking in
    root_room (g.K.Keys.meaning c.args.keys.now) (says (g.K.Keys.meaning c.args.keys.now) (reading (work g.C.Cells c.args.cells.now))) (work g.C.Cells c.args.cells.now) c.args.tree.now.head (record { at = c.root_in-root.result; cover = c.node_at-node.result.cover }) c.node_at-node.result.level (record { at = c.args.version; cover = c.rect.result }) c.requires.standing.2.tree r (work g.C.Cells c.without_entry.new.cells) c.in-Some.entries.items shrunk c.requires.places

pub returns-clause-removed : goal.returns-clause-removed
returns-clause-removed g c = λ listed nodes is within.
    let r = top_is (g.K.Keys.meaning c.args.keys.now) (work g.C.Cells c.args.cells.now) c.args.tree.now.head listed nodes is c.root_in-root.result (root_read (reading (work g.C.Cells c.args.cells.now)) c.args.tree.now.head.number (root_of is.tree) c.root_in-root.result c.planned.result.now is.leads c.planned.ensures.planned c.root_in-root.ensures) c.args.version within (record { at = c.args.version; cover = c.rect.result }) (proper_entry (g.K.Keys.meaning c.args.keys.now) (reading (work g.C.Cells c.args.cells.now)) c.args.version (listed_boxed (g.K.Keys.meaning c.args.keys.now) (work g.C.Cells c.args.cells.now) c.args.tree.now.head listed nodes is c.root_in-root.result (root_read (reading (work g.C.Cells c.args.cells.now)) c.args.tree.now.head.number (root_of is.tree) c.root_in-root.result c.planned.result.now is.leads c.planned.ensures.planned c.root_in-root.ensures) c.args.version within) c.rect.result c.rect.ensures) c.node_at-node.result c.node_at-node.ensures in
    let shrunk = c.in-Some.ensures.found (says (g.K.Keys.meaning c.args.keys.now) (reading (work g.C.Cells c.args.cells.now))) r.h r.t r.shrinking in
    removed_whole (g.K.Keys.meaning c.args.keys.now) (says (g.K.Keys.meaning c.args.keys.now) (reading (work g.C.Cells c.args.cells.now))) (work g.C.Cells c.args.cells.now) c.args.tree.now.head (record { at = c.root_in-root.result; cover = c.node_at-node.result.cover }) c.node_at-node.result.level (record { at = c.args.version; cover = c.rect.result }) is.tree r (work g.C.Cells c.without_entry.new.cells) c.in-Some.entries.items shrunk c.args.version refl (work g.C.Cells c.lower_root.new.cells)
    (c.lower_root.ensures.lowered (says (g.K.Keys.meaning c.args.keys.now) (reading (work g.C.Cells c.args.cells.now))) r.h shrunk.now (root_lowers (g.K.Keys.meaning c.args.keys.now) (says (g.K.Keys.meaning c.args.keys.now) (reading (work g.C.Cells c.args.cells.now))) (work g.C.Cells c.args.cells.now) c.args.tree.now.head (record { at = c.root_in-root.result; cover = c.node_at-node.result.cover }) c.node_at-node.result.level (record { at = c.args.version; cover = c.rect.result }) is.tree r (work g.C.Cells c.without_entry.new.cells) c.in-Some.entries.items shrunk))

pub unreachable-requires : goal.unreachable-requires
unreachable-requires g c =
    let r = top_is (g.K.Keys.meaning c.args.keys.now) (work g.C.Cells c.args.cells.now) c.args.tree.now.head c.requires.standing.0 c.requires.standing.1 c.requires.standing.2 c.root_in-root.result (root_read (reading (work g.C.Cells c.args.cells.now)) c.args.tree.now.head.number (root_of c.requires.standing.2.tree) c.root_in-root.result c.planned.result.now c.requires.standing.2.leads c.planned.ensures.planned c.root_in-root.ensures) c.args.version c.requires.standing.3 (record { at = c.args.version; cover = c.rect.result }) (proper_entry (g.K.Keys.meaning c.args.keys.now) (reading (work g.C.Cells c.args.cells.now)) c.args.version (listed_boxed (g.K.Keys.meaning c.args.keys.now) (work g.C.Cells c.args.cells.now) c.args.tree.now.head c.requires.standing.0 c.requires.standing.1 c.requires.standing.2 c.root_in-root.result (root_read (reading (work g.C.Cells c.args.cells.now)) c.args.tree.now.head.number (root_of c.requires.standing.2.tree) c.root_in-root.result c.planned.result.now c.requires.standing.2.leads c.planned.ensures.planned c.root_in-root.ensures) c.args.version c.requires.standing.3) c.rect.result c.rect.ensures) c.node_at-node.result c.node_at-node.ensures in
    not_lacking c.requires.standing.0 c.args.version c.args.version refl c.requires.standing.3 (versions_below r.h r.t.below) (listed_below c.requires.standing.0 c.requires.standing.2.tree r.h r.t r.tree_is c.requires.standing.2.listed_is)
    (c.in_default.ensures.none (says (g.K.Keys.meaning c.args.keys.now) (reading (work g.C.Cells c.args.cells.now))) r.h r.t r.shrinking).0
