use Rattle.std.proofs.Common.{◌++◌, ◌∷◌, [], List, sym, ap, subst, ◌∙◌}
use Rattle.rdb_pages.specs.Pages.{zero_cell}
use Rattle.rdb_cells.specs.Work.{Work, work}
use Rattle.rdb_rtree.specs.Changes.{with_cell, cell_of, AreShared}
use Rattle.rdb_rtree.specs.declared.entry.Entry.{Entry}
use Rattle.rdb_rtree.proofs.SettleLemmas.{written_by}
use Rattle.rdb_rtree.proofs.ShareLemmas.{shared_one, shared_two}
use Rattle.rdb_rtree.proofs.remove.share.Goals as goal

pub returns-then-len-le-RTREE_ENTRIES-clause-shared : goal.returns-then-len-le-RTREE_ENTRIES-clause-shared
returns-then-len-le-RTREE_ENTRIES-clause-shared g c = λ said h ts is.
    let same = c.as_slice.ensures.value in
    let written = written_by c.args.level c.as_slice.result.now c.args.entries.items c.args.at c.put_node-node.result same c.put_node-node.ensures.at c.put_node-node.ensures.cover c.put_node-node.ensures.proper in
    let made = c.put_node-node.ensures.work
    ∙ ap (λ (v : Work). with_cell v c.args.at (cell_of c.args.level c.put_node-node.result.cover c.as_slice.result.now)) c.put_cell.ensures.work
    ∙ ap (λ (es : List Entry). with_cell (with_cell (work g.C.Cells c.args.cells.now) c.args.other zero_cell) c.args.at (cell_of c.args.level c.put_node-node.result.cover es)) same in
    subst (λ (v : Work). AreShared said (work g.C.Cells c.args.cells.now) v c.args.at c.args.other h ts c.args.above.now.items c.push.new.self.items) (sym made)
    (shared_one said (work g.C.Cells c.args.cells.now) c.args.at c.args.other c.args.level h ts c.args.entries.items is c.put_node-node.result written c.args.above.now.items c.push.new.self.items c.push.ensures.items)

pub returns-clause-shared : goal.returns-clause-shared
returns-clause-shared g c = λ said h ts is.
    let is_second = written_by c.args.level c.as_slice-2.result.now c.split-left.result.1.items c.args.other c.put_node-second.result c.as_slice-2.ensures.value c.put_node-second.ensures.at c.put_node-second.ensures.cover c.put_node-second.ensures.proper in
    let is_first = written_by c.args.level c.as_slice-3.result.now c.split-left.result.0.items c.args.at c.put_node-first.result c.as_slice-3.ensures.value c.put_node-first.ensures.at c.put_node-first.ensures.cover c.put_node-first.ensures.proper in
    let behind = c.put_node-second.ensures.work
    ∙ ap (λ (es : List Entry). with_cell (work g.C.Cells c.args.cells.now) c.args.other (cell_of c.args.level c.put_node-second.result.cover es)) c.as_slice-2.ensures.value in
    let made = c.put_node-first.ensures.work
    ∙ ap (λ (v : Work). with_cell v c.args.at (cell_of c.args.level c.put_node-first.result.cover c.as_slice-3.result.now)) behind
    ∙ ap (λ (es : List Entry). with_cell (with_cell (work g.C.Cells c.args.cells.now) c.args.other (cell_of c.args.level c.put_node-second.result.cover c.split-left.result.1.items)) c.args.at (cell_of c.args.level c.put_node-first.result.cover es)) c.as_slice-3.ensures.value in
    subst (λ (v : Work). AreShared said (work g.C.Cells c.args.cells.now) v c.args.at c.args.other h ts c.args.above.now.items c.push-3.new.self.items) (sym made)
    (shared_two said (work g.C.Cells c.args.cells.now) c.args.at c.args.other c.args.level h ts c.args.entries.items is c.split-left.result.0.items c.split-left.result.1.items c.split-left.ensures.all c.put_node-second.result c.put_node-first.result is_second is_first
    c.split-left.ensures.left.0 c.split-left.ensures.right.0 c.args.above.now.items c.push-3.new.self.items
    (c.push-3.ensures.items ∙ ap (λ (es : List Entry). es ++ c.put_node-second.result ∷ []) c.push-2.ensures.items))
