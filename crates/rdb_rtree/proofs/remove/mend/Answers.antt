use Rattle.std.proofs.Common.{◌++◌, suc, List, length, sym, ap, subst, ◌∙◌, arith}
use Rattle.rdb_cells.specs.Work.{Work, work, reading}
use Rattle.rdb_rtree.specs.Changes.{with_cell, cell_of, IsMended}
use Rattle.rdb_rtree.specs.declared.entry.Entry.{Entry}
use Rattle.rdb_rtree.proofs.ChosenLemmas.{pick, few_entries}
use Rattle.rdb_rtree.proofs.MendLemmas.{mended_alone, mended_shared, sibling_keyed, both_share}
use Rattle.rdb_rtree.proofs.SettleLemmas.{written_by}
use Rattle.rdb_rtree.proofs.remove.mend.Goals as goal

pub returns-then-len-ge-LEAST_ENTRIES-clause-mended : goal.returns-then-len-ge-LEAST_ENTRIES-clause-mended
returns-then-len-ge-LEAST_ENTRIES-clause-mended g c = λ said h own beside is.
    let same = c.as_slice.ensures.value in
    let enough = c.if-len-ge-LEAST_ENTRIES.true in
    let many = c.len.ensures.value in
    let written = written_by c.args.level c.as_slice.result.now c.args.left.items c.args.at c.put_node-node.result same c.put_node-node.ensures.at c.put_node-node.ensures.cover c.put_node-node.ensures.proper in
    let made = c.put_node-node.ensures.work ∙ ap (λ (es : List Entry). with_cell (work g.C.Cells c.args.cells.now) c.args.at (cell_of c.args.level c.put_node-node.result.cover es)) same in
    subst (λ (v : Work). IsMended said (work g.C.Cells c.args.cells.now) v c.args.at h own beside c.push.new.self.items) (sym made)
    (mended_alone (g.K.Keys.meaning c.args.keys.now) said (work g.C.Cells c.args.cells.now) c.args.at c.args.level h own beside c.args.left.items c.args.above.now.items is c.put_node-node.result written (omega arith) c.push.new.self.items c.push.ensures.items)

pub entries_at-others-requires : goal.entries_at-others-requires
entries_at-others-requires g c =
    let same = ap (length {A = Entry}) c.as_slice-2.ensures.value in
    let low = c.least_grown-place.ensures in
    let p = (pick c.requires.mends.0 (suc c.requires.mends.1) c.requires.mends.3 c.args.above.now.items c.remove-sibling.new.self.items c.least_grown-place.result c.remove-sibling.result (omega arith) c.remove-sibling.ensures.value c.remove-sibling.ensures.items c.requires.mends.4.others_are) in
    (c.requires.mends.0, c.requires.mends.1, p.one, sibling_keyed (g.K.Keys.meaning c.args.keys.now) c.requires.mends.0 (work g.C.Cells c.args.cells.now) c.args.at c.args.level c.requires.mends.1 c.requires.mends.2 c.requires.mends.3 c.args.left.items c.args.above.now.items c.requires.mends.4 c.remove-sibling.result c.remove-sibling.new.self.items p)

pub together-both-requires : goal.together-both-requires
together-both-requires g c =
    let same = ap (length {A = Entry}) c.as_slice-2.ensures.value in
    let low = c.least_grown-place.ensures in
    let p = (pick c.requires.mends.0 (suc c.requires.mends.1) c.requires.mends.3 c.args.above.now.items c.remove-sibling.new.self.items c.least_grown-place.result c.remove-sibling.result (omega arith) c.remove-sibling.ensures.value c.remove-sibling.ensures.items c.requires.mends.4.others_are) in
    let few = few_entries (g.K.Keys.meaning c.args.keys.now) c.requires.mends.0 (reading (work g.C.Cells c.args.cells.now)) c.remove-sibling.result.at c.args.level c.requires.mends.1 p.one (sibling_keyed (g.K.Keys.meaning c.args.keys.now) c.requires.mends.0 (work g.C.Cells c.args.cells.now) c.args.at c.args.level c.requires.mends.1 c.requires.mends.2 c.requires.mends.3 c.args.left.items c.args.above.now.items c.requires.mends.4 c.remove-sibling.result c.remove-sibling.new.self.items p) c.entries_at-others.result.items (c.entries_at-others.ensures c.requires.mends.0 c.requires.mends.1 p.one (sibling_keyed (g.K.Keys.meaning c.args.keys.now) c.requires.mends.0 (work g.C.Cells c.args.cells.now) c.args.at c.args.level c.requires.mends.1 c.requires.mends.2 c.requires.mends.3 c.args.left.items c.args.above.now.items c.requires.mends.4 c.remove-sibling.result c.remove-sibling.new.self.items p)) in
    let seen = ap (length {A = Entry}) c.as_slice-4.ensures.value in
    let short = c.if-len-ge-LEAST_ENTRIES.false in
    let many = c.len.ensures.value in
    omega arith

pub share-requires-clause-shares : goal.share-requires-clause-shares
share-requires-clause-shares g c =
    let same = ap (length {A = Entry}) c.as_slice-2.ensures.value in
    let low = c.least_grown-place.ensures in
    let p = (pick c.requires.mends.0 (suc c.requires.mends.1) c.requires.mends.3 c.args.above.now.items c.remove-sibling.new.self.items c.least_grown-place.result c.remove-sibling.result (omega arith) c.remove-sibling.ensures.value c.remove-sibling.ensures.items c.requires.mends.4.others_are) in
    (c.requires.mends.0, c.requires.mends.1, c.requires.mends.2 ++ p.one.below, (both_share (g.K.Keys.meaning c.args.keys.now) c.requires.mends.0 (work g.C.Cells c.args.cells.now) c.args.at c.args.level c.requires.mends.1 c.requires.mends.2 c.requires.mends.3 c.args.left.items c.args.above.now.items c.requires.mends.4 c.remove-sibling.result c.remove-sibling.new.self.items p c.together-both.result.items (c.together-both.ensures ∙ ap (λ (es : List Entry). c.args.left.items ++ es) (c.as_slice-4.ensures.value ∙ c.entries_at-others.ensures c.requires.mends.0 c.requires.mends.1 p.one (sibling_keyed (g.K.Keys.meaning c.args.keys.now) c.requires.mends.0 (work g.C.Cells c.args.cells.now) c.args.at c.args.level c.requires.mends.1 c.requires.mends.2 c.requires.mends.3 c.args.left.items c.args.above.now.items c.requires.mends.4 c.remove-sibling.result c.remove-sibling.new.self.items p)))))

pub returns-clause-mended : goal.returns-clause-mended
returns-clause-mended g c = λ said h own beside is.
    let same = ap (length {A = Entry}) c.as_slice-2.ensures.value in
    let low = c.least_grown-place.ensures in
    let p = (pick said (suc h) beside c.args.above.now.items c.remove-sibling.new.self.items c.least_grown-place.result c.remove-sibling.result (omega arith) c.remove-sibling.ensures.value c.remove-sibling.ensures.items is.others_are) in
    mended_shared (g.K.Keys.meaning c.args.keys.now) said (work g.C.Cells c.args.cells.now) c.args.at c.args.level h own beside c.args.left.items c.args.above.now.items is c.remove-sibling.result c.remove-sibling.new.self.items p (work g.C.Cells c.share.new.cells) c.share.new.above.items (c.share.ensures.shared said h (own ++ p.one.below) (both_share (g.K.Keys.meaning c.args.keys.now) said (work g.C.Cells c.args.cells.now) c.args.at c.args.level h own beside c.args.left.items c.args.above.now.items is c.remove-sibling.result c.remove-sibling.new.self.items p c.together-both.result.items (c.together-both.ensures ∙ ap (λ (es : List Entry). c.args.left.items ++ es) (c.as_slice-4.ensures.value ∙ c.entries_at-others.ensures said h p.one (sibling_keyed (g.K.Keys.meaning c.args.keys.now) said (work g.C.Cells c.args.cells.now) c.args.at c.args.level h own beside c.args.left.items c.args.above.now.items is c.remove-sibling.result c.remove-sibling.new.self.items p)))))
