use Rattle.std.proofs.Common.{◌-◌, length, ap, arith}
use Rattle.rdb_cells.specs.Work.{work, reading}
use Rattle.rdb_cells.proofs.IndexLemmas.{fewer_than}
use Rattle.rdb_rtree.specs.declared.entry.Entry.{Entry}
use Rattle.rdb_rtree.proofs.ChosenLemmas.{as_many, few_entries, pick_growing, pick_settles, pick_take, pick_places, pick_grown}
use Rattle.rdb_rtree.proofs.GrowLemmas.{grown_leaf}
use Rattle.rdb_rtree.proofs.insert.+with_entry.Goals as goal

pub push-requires : goal.push-requires
push-requires g m c =
    let is = c.requires.tree.3 in
    let few = few_entries (g.K.Keys.meaning c.args.keys.now) c.requires.tree.0 (reading (work g.C.Cells c.args.cells.now)) c.args.at c.args.level c.requires.tree.1 c.requires.tree.2 c.requires.tree.3.keyed c.entries_at-entries.result.items (c.entries_at-entries.ensures c.requires.tree.0 c.requires.tree.1 c.requires.tree.2 c.requires.tree.3.keyed) in
    omega arith

pub returns-then-level-eq0-clause-grown : goal.returns-then-level-eq0-clause-grown
returns-then-level-eq0-clause-grown g m c = λ said h t is.
    grown_leaf (g.K.Keys.meaning c.args.keys.now) said (work g.C.Cells c.args.cells.now) c.args.at c.args.level c.args.entry h t is c.if-level-eq0.true c.entries_at-entries.result.items c.push.new.self.items (c.entries_at-entries.ensures said h t is.keyed) c.push.ensures.items

pub least_grown-place-requires : goal.least_grown-place-requires
least_grown-place-requires g m c =
    let many = as_many (g.K.Keys.meaning c.args.keys.now) c.requires.tree.0 (reading (work g.C.Cells c.args.cells.now)) c.args.at c.args.level c.requires.tree.1 c.requires.tree.2 c.requires.tree.3.keyed c.entries_at-entries.result.items (c.entries_at-entries.ensures c.requires.tree.0 c.requires.tree.1 c.requires.tree.2 c.requires.tree.3.keyed) in
    let same = ap (length {A = Entry}) c.as_slice.ensures.value in
    let some = c.requires.tree.3.some in
    omega arith

pub with_entry-below-requires : goal.with_entry-below-requires
with_entry-below-requires g m c κs within =
    let same = ap (length {A = Entry}) c.as_slice.ensures.value in
    let low = c.least_grown-place.ensures in
    let falls = c.decreases in
    let inner = c.if-level-eq0.false in
    let room = c.requires.places in
    let child = pick_growing (g.K.Keys.meaning c.args.keys.now) c.requires.tree.0 (work g.C.Cells c.args.cells.now) c.args.at c.args.level c.args.entry c.entries_at-entries.result.items c.remove-child.new.self.items c.least_grown-place.result c.remove-child.result c.if-level-eq0.false (omega arith) c.remove-child.ensures.value c.remove-child.ensures.items c.requires.tree.1 c.requires.tree.2 c.requires.tree.3 (c.entries_at-entries.ensures c.requires.tree.0 c.requires.tree.1 c.requires.tree.2 c.requires.tree.3.keyed) in
    (omega arith, (within.0, (within.1, ((c.requires.tree.0, child.0, child.1, child.2), (fewer_than (work g.C.Cells c.args.cells.now) (c.args.level - 1) c.args.level (omega arith) c.requires.free, omega arith)))))

pub settle-requires-clause-settles : goal.settle-requires-clause-settles
settle-requires-clause-settles g m c =
    let same = ap (length {A = Entry}) c.as_slice.ensures.value in
    let low = c.least_grown-place.ensures in
    let settles = pick_settles (g.K.Keys.meaning c.args.keys.now) c.requires.tree.0 (work g.C.Cells c.args.cells.now) c.args.at c.args.level c.args.entry c.entries_at-entries.result.items c.remove-child.new.self.items c.least_grown-place.result c.remove-child.result c.if-level-eq0.false (omega arith) c.remove-child.ensures.value c.remove-child.ensures.items (work g.C.Cells c.with_entry-below.new.cells) c.with_entry-below.result.items (c.with_entry-below.ensures.grown c.requires.tree.0) c.requires.tree.1 c.requires.tree.2 c.requires.tree.3 (c.entries_at-entries.ensures c.requires.tree.0 c.requires.tree.1 c.requires.tree.2 c.requires.tree.3.keyed) in
    (c.requires.tree.0, settles.0, settles.1, settles.2)

pub settle-requires-clause-above : goal.settle-requires-clause-above
settle-requires-clause-above g m c =
    let few = few_entries (g.K.Keys.meaning c.args.keys.now) c.requires.tree.0 (reading (work g.C.Cells c.args.cells.now)) c.args.at c.args.level c.requires.tree.1 c.requires.tree.2 c.requires.tree.3.keyed c.entries_at-entries.result.items (c.entries_at-entries.ensures c.requires.tree.0 c.requires.tree.1 c.requires.tree.2 c.requires.tree.3.keyed) in
    let less = c.remove-child.ensures.len in
    omega arith

pub settle-requires-clause-free : goal.settle-requires-clause-free
settle-requires-clause-free g m c = λ many.
    let same = ap (length {A = Entry}) c.as_slice.ensures.value in
    let low = c.least_grown-place.ensures in
    pick_take (g.K.Keys.meaning c.args.keys.now) c.requires.tree.0 (work g.C.Cells c.args.cells.now) c.args.at c.args.level c.args.entry c.entries_at-entries.result.items c.remove-child.new.self.items c.least_grown-place.result c.remove-child.result c.if-level-eq0.false (omega arith) c.remove-child.ensures.value c.remove-child.ensures.items (work g.C.Cells c.with_entry-below.new.cells) c.with_entry-below.result.items (c.with_entry-below.ensures.grown c.requires.tree.0) c.requires.tree.1 c.requires.tree.2 c.requires.tree.3 (c.entries_at-entries.ensures c.requires.tree.0 c.requires.tree.1 c.requires.tree.2 c.requires.tree.3.keyed) c.requires.free

pub settle-requires-clause-places : goal.settle-requires-clause-places
settle-requires-clause-places g m c =
    let same = ap (length {A = Entry}) c.as_slice.ensures.value in
    let low = c.least_grown-place.ensures in
    pick_places (g.K.Keys.meaning c.args.keys.now) c.requires.tree.0 (work g.C.Cells c.args.cells.now) c.args.at c.args.level c.args.entry c.entries_at-entries.result.items c.remove-child.new.self.items c.least_grown-place.result c.remove-child.result c.if-level-eq0.false (omega arith) c.remove-child.ensures.value c.remove-child.ensures.items (work g.C.Cells c.with_entry-below.new.cells) c.with_entry-below.result.items (c.with_entry-below.ensures.grown c.requires.tree.0) c.requires.tree.1 c.requires.tree.2 c.requires.tree.3 (c.entries_at-entries.ensures c.requires.tree.0 c.requires.tree.1 c.requires.tree.2 c.requires.tree.3.keyed) c.requires.places

pub returns-clause-grown : goal.returns-clause-grown
returns-clause-grown g m c = λ said h t is.
    let same = ap (length {A = Entry}) c.as_slice.ensures.value in
    let low = c.least_grown-place.ensures in
    pick_grown (g.K.Keys.meaning c.args.keys.now) said (work g.C.Cells c.args.cells.now) c.args.at c.args.level c.args.entry c.entries_at-entries.result.items c.remove-child.new.self.items c.least_grown-place.result c.remove-child.result c.if-level-eq0.false (omega arith) c.remove-child.ensures.value c.remove-child.ensures.items (work g.C.Cells c.with_entry-below.new.cells) c.with_entry-below.result.items (c.with_entry-below.ensures.grown said) (work g.C.Cells c.settle.new.cells) c.settle.new.above.items (c.settle.ensures.settled said) h t is (c.entries_at-entries.ensures said h t is.keyed)
