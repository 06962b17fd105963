use Rattle.std.proofs.Common.{List, length, sym, ap, subst, ◌∙◌, arith}
use Rattle.std.proofs.lemmas.List.{length-map}
use Rattle.rdb_pages.specs.Pages.{zero_cell}
use Rattle.rdb_pages.specs.declared.cell.CellRef.{CellRef}
use Rattle.rdb_cells.specs.HeadFormat.{index_head_cell, rooted_head}
use Rattle.rdb_cells.specs.Work.{Work, work}
use Rattle.rdb_rtree.specs.Changes.{with_cell, cell_of, first_place, IsLowered}
use Rattle.rdb_rtree.specs.Trees.{entry_of, root_entries}
use Rattle.rdb_rtree.specs.declared.entry.Entry.{Entry}
use Rattle.rdb_rtree.proofs.LowerLemmas.{least_some, lowered_kept, lowered_led}
use Rattle.rdb_rtree.proofs.SettleLemmas.{written_by}
use Rattle.rdb_rtree.proofs.remove.lower_root.Goals as goal

pub put_node-root-requires-clause-level : goal.put_node-root-requires-clause-level
put_node-root-requires-clause-level g c = c.requires.lowers.3.low

pub put_node-root-requires-clause-entries : goal.put_node-root-requires-clause-entries
put_node-root-requires-clause-entries g c =
    let is = c.requires.lowers.3 in
    let same = ap (length {A = Entry}) c.as_slice-left.ensures.value in
    let many = ap (length {A = Entry}) c.requires.lowers.3.entries_are ∙ length-map c.requires.lowers.2 (entry_of c.requires.lowers.0 c.requires.lowers.1) in
    let few = c.requires.lowers.3.fit in
    let least = c.least_of_root.ensures in
    let some = least_some c.args.level in
    let enough = c.if-left-least_of_root.true in
    (omega arith, omega arith)

pub returns-then-left-least_of_root-clause-lowered : goal.returns-then-left-least_of_root-clause-lowered
returns-then-left-least_of_root-clause-lowered g c = λ said h ts is.
    let same = c.as_slice-left.ensures.value in
    let long = ap (length {A = Entry}) c.as_slice-left.ensures.value in
    let many = ap (length {A = Entry}) is.entries_are ∙ length-map ts (entry_of said h) in
    let least = c.least_of_root.ensures ∙ ap root_entries is.level_is in
    let enough = c.if-left-least_of_root.true in
    let written = written_by c.args.level c.as_slice-left.result.now c.args.entries.items c.args.root c.put_node-root.result same c.put_node-root.ensures.at c.put_node-root.ensures.cover c.put_node-root.ensures.proper in
    let made = c.put_node-root.ensures.work ∙ ap (λ (es : List Entry). with_cell (work g.C.Cells c.args.cells.now) c.args.root (cell_of c.args.level c.put_node-root.result.cover es)) same in
    subst (λ (v : Work). IsLowered said (work g.C.Cells c.args.cells.now) v c.args.head c.args.root h ts) (sym made)
    (lowered_kept said (work g.C.Cells c.args.cells.now) c.args.head c.args.root c.args.level h ts c.args.entries.items is c.put_node-root.result written (omega arith))

pub returns-clause-lowered : goal.returns-clause-lowered
returns-clause-lowered g c = λ said h ts is.
    let long = ap (length {A = Entry}) c.as_slice-left.ensures.value in
    let many = ap (length {A = Entry}) is.entries_are ∙ length-map ts (entry_of said h) in
    let least = c.least_of_root.ensures ∙ ap root_entries is.level_is in
    let short = c.if-left-least_of_root.false in
    let top = c.first_place.ensures ∙ ap first_place (c.as_slice-left.ensures.value ∙ is.entries_are) in
    let made = c.lead_to.ensures.work ∙ ap (λ (r : CellRef). with_cell (with_cell (work g.C.Cells c.args.cells.now) c.args.root zero_cell) c.args.head (index_head_cell (rooted_head r))) top in
    subst (λ (v : Work). IsLowered said (work g.C.Cells c.args.cells.now) v c.args.head c.args.root h ts) (sym made)
    (lowered_led said (work g.C.Cells c.args.cells.now) c.args.head c.args.root c.args.level h ts c.args.entries.items is (omega arith))
