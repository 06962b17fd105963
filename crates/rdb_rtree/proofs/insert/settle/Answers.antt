use Rattle.std.proofs.Common.{◌++◌, ◌∷◌, [], List, refl, sym, ap, subst, ◌∙◌, arith}
use Rattle.rdb_cells.specs.Work.{Work, work}
use Rattle.rdb_cells.proofs.WorkLemmas.{take_is}
use Rattle.rdb_rtree.specs.Changes.{with_cell, with_taken, cell_of, AreSettled}
use Rattle.rdb_rtree.specs.declared.entry.Entry.{Entry}
use Rattle.rdb_rtree.proofs.SettleLemmas.{written_by, settled_one, settled_two}
use Rattle.rdb_rtree.proofs.insert.settle.Goals as goal

pub returns-then-len-le-RTREE_ENTRIES-clause-settled : goal.returns-then-len-le-RTREE_ENTRIES-clause-settled
returns-then-len-le-RTREE_ENTRIES-clause-settled g c = λ said h ts is.
    let r = c.put_node-node.result in
    let same = c.as_slice.ensures.value in
    let written = written_by c.args.level c.as_slice.result.now c.args.entries.items c.args.at c.put_node-node.result same c.put_node-node.ensures.at c.put_node-node.ensures.cover c.put_node-node.ensures.proper in
    let made = c.put_node-node.ensures.work ∙ ap (λ (es : List Entry). with_cell (work g.C.Cells c.args.cells.now) c.args.at (cell_of c.args.level c.put_node-node.result.cover es)) same in
    subst (λ (v : Work). AreSettled said (work g.C.Cells c.args.cells.now) v c.args.at h ts c.args.above.now.items c.push.new.self.items) (sym made)
    (settled_one said (work g.C.Cells c.args.cells.now) c.args.at c.args.level h ts c.args.entries.items is c.put_node-node.result written c.args.above.now.items c.push.new.self.items c.push.ensures.items)

pub returns-clause-settled : goal.returns-clause-settled
returns-clause-settled g c = λ said h ts is.
    let w = work g.C.Cells c.args.cells.now in
    let left = c.split-left.result.0.items in
    let right = c.split-left.result.1.items in
    let other = c.take-other.result in
    let taken = take_is g.C.Cells c.args.cells.now c.take-other.new.self (work g.C.Cells c.args.cells.now) c.take-other.result refl c.take-other.ensures.taken in
    let is_second = written_by c.args.level c.as_slice-2.result.now c.split-left.result.1.items c.take-other.result c.put_node-second.result c.as_slice-2.ensures.value c.put_node-second.ensures.at c.put_node-second.ensures.cover c.put_node-second.ensures.proper in
    let is_first = written_by c.args.level c.as_slice-3.result.now c.split-left.result.0.items c.args.at c.put_node-first.result c.as_slice-3.ensures.value c.put_node-first.ensures.at c.put_node-first.ensures.cover c.put_node-first.ensures.proper in
    let behind = c.put_node-second.ensures.work
    ∙ ap (λ (v : Work). with_cell v c.take-other.result (cell_of c.args.level c.put_node-second.result.cover c.as_slice-2.result.now)) taken
    ∙ ap (λ (es : List Entry). with_cell (with_taken (work g.C.Cells c.args.cells.now) c.take-other.result) c.take-other.result (cell_of c.args.level c.put_node-second.result.cover es)) c.as_slice-2.ensures.value in
    let made = c.put_node-first.ensures.work
    ∙ ap (λ (v : Work). with_cell v c.args.at (cell_of c.args.level c.put_node-first.result.cover c.as_slice-3.result.now)) behind
    ∙ ap (λ (es : List Entry). with_cell (with_cell (with_taken (work g.C.Cells c.args.cells.now) c.take-other.result) c.take-other.result (cell_of c.args.level c.put_node-second.result.cover c.split-left.result.1.items)) c.args.at (cell_of c.args.level c.put_node-first.result.cover es)) c.as_slice-3.ensures.value in
    let over = c.if-len-le-RTREE_ENTRIES.false in
    let many = c.len.ensures.value in
    subst (λ (v : Work). AreSettled said (work g.C.Cells c.args.cells.now) v c.args.at h ts c.args.above.now.items c.push-3.new.self.items) (sym made)
    (settled_two said (work g.C.Cells c.args.cells.now) c.args.at c.args.level h ts c.args.entries.items is c.split-left.result.0.items c.split-left.result.1.items c.split-left.ensures.all c.take-other.result c.take-other.ensures.lowest c.put_node-second.result c.put_node-first.result is_second is_first
    (omega arith) c.split-left.ensures.left.0 c.split-left.ensures.right.0 c.args.above.now.items c.push-3.new.self.items
    (c.push-3.ensures.items ∙ ap (λ (es : List Entry). es ++ c.put_node-second.result ∷ []) c.push-2.ensures.items))
