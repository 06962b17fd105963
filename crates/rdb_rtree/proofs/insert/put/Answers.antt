use Rattle.std.proofs.Common.{◌+◌, List, length, sym, ap, subst, ◌∙◌, arith}
use borrow.Author.Tests.{eqb-true, eqb-false}
use Rattle.rdb_cells.specs.Keys.{says}
use Rattle.rdb_cells.specs.Work.{work, reading}
use Rattle.rdb_cells.proofs.IndexLemmas.{fewer_than}
use Rattle.rdb_cells.proofs.WorkLemmas.{one_left}
use Rattle.rdb_rtree.specs.Changes.{AreSettled, IsPlanted, IsTreePut}
use Rattle.rdb_rtree.specs.Trees.{Tree, root_of}
use Rattle.rdb_rtree.specs.declared.entry.Entry.{Entry}
use Rattle.rdb_rtree.proofs.PutLemmas.{first_put, rooted, level_low, root_take, root_places}
use Rattle.rdb_rtree.proofs.RootLemmas.{proper_box, proper_entry, root_settles, put_kept, put_split, split_take, split_places, many_tops}
use Rattle.rdb_rtree.proofs.WholeLemmas.{root_read}
use Rattle.rdb_rtree.proofs.insert.put.Goals as goal

pub rect-requires : goal.rect-requires
rect-requires g c =
    proper_box (g.K.Keys.meaning c.args.keys.now) (reading (work g.C.Cells c.args.cells.now)) c.args.version c.requires.version

pub plant-requires-clause-free : goal.plant-requires-clause-free
plant-requires-clause-free g c =
    one_left (work g.C.Cells c.args.cells.now) (fewer_than (work g.C.Cells c.args.cells.now) 1 12 (omega arith) c.requires.free)

pub returns-then-eq-clause-put : goal.returns-then-eq-clause-put
returns-then-eq-clause-put g c = λ listed nodes is.
    first_put (g.K.Keys.meaning c.args.keys.now) (work g.C.Cells c.args.cells.now) c.args.tree.now.head listed nodes is c.root_in-root.result (root_read (reading (work g.C.Cells c.args.cells.now)) c.args.tree.now.head.number (root_of is.tree) c.root_in-root.result c.planned.result.now is.leads c.planned.ensures.planned c.root_in-root.ensures) c.args.version (record { at = c.args.version; cover = c.rect.result }) c.requires.version (proper_entry (g.K.Keys.meaning c.args.keys.now) (reading (work g.C.Cells c.args.cells.now)) c.args.version c.requires.version c.rect.result c.rect.ensures) (eqb-true c.root_in-root.result.number 0 (sym c.eq.ensures ∙ c.if-eq.true)) (work g.C.Cells c.plant.new.cells) c.plant.ensures.planted

pub with_entry-entries-requires-clause-tree : goal.with_entry-entries-requires-clause-tree
with_entry-entries-requires-clause-tree g c =
    let r = (rooted (g.K.Keys.meaning c.args.keys.now) (work g.C.Cells c.args.cells.now) c.args.tree.now.head c.requires.standing.0 c.requires.standing.1 c.requires.standing.2 c.root_in-root.result (root_read (reading (work g.C.Cells c.args.cells.now)) c.args.tree.now.head.number (root_of c.requires.standing.2.tree) c.root_in-root.result c.planned.result.now c.requires.standing.2.leads c.planned.ensures.planned c.root_in-root.ensures) c.args.version (record { at = c.args.version; cover = c.rect.result }) c.requires.version (proper_entry (g.K.Keys.meaning c.args.keys.now) (reading (work g.C.Cells c.args.cells.now)) c.args.version c.requires.version c.rect.result c.rect.ensures) c.node_at-level.result c.node_at-level.ensures (eqb-false c.root_in-root.result.number 0 (sym c.eq.ensures ∙ c.if-eq.false))) in
    ((says (g.K.Keys.meaning c.args.keys.now) (reading (work g.C.Cells c.args.cells.now))), r.h, r.t, r.growing)

pub with_entry-entries-requires-clause-free : goal.with_entry-entries-requires-clause-free
with_entry-entries-requires-clause-free g c =
    let r = (rooted (g.K.Keys.meaning c.args.keys.now) (work g.C.Cells c.args.cells.now) c.args.tree.now.head c.requires.standing.0 c.requires.standing.1 c.requires.standing.2 c.root_in-root.result (root_read (reading (work g.C.Cells c.args.cells.now)) c.args.tree.now.head.number (root_of c.requires.standing.2.tree) c.root_in-root.result c.planned.result.now c.requires.standing.2.leads c.planned.ensures.planned c.root_in-root.ensures) c.args.version (record { at = c.args.version; cover = c.rect.result }) c.requires.version (proper_entry (g.K.Keys.meaning c.args.keys.now) (reading (work g.C.Cells c.args.cells.now)) c.args.version c.requires.version c.rect.result c.rect.ensures) c.node_at-level.result c.node_at-level.ensures (eqb-false c.root_in-root.result.number 0 (sym c.eq.ensures ∙ c.if-eq.false))) in
    let low = level_low (g.K.Keys.meaning c.args.keys.now) (says (g.K.Keys.meaning c.args.keys.now) (reading (work g.C.Cells c.args.cells.now))) (work g.C.Cells c.args.cells.now) c.args.tree.now.head c.root_in-root.result c.node_at-level.result.level (record { at = c.args.version; cover = c.rect.result }) c.requires.standing.2.tree r in
    fewer_than (work g.C.Cells c.args.cells.now) c.node_at-level.result.level 12 (omega arith) c.requires.free

pub with_entry-entries-requires-clause-places : goal.with_entry-entries-requires-clause-places
with_entry-entries-requires-clause-places g c =
    let r = (rooted (g.K.Keys.meaning c.args.keys.now) (work g.C.Cells c.args.cells.now) c.args.tree.now.head c.requires.standing.0 c.requires.standing.1 c.requires.standing.2 c.root_in-root.result (root_read (reading (work g.C.Cells c.args.cells.now)) c.args.tree.now.head.number (root_of c.requires.standing.2.tree) c.root_in-root.result c.planned.result.now c.requires.standing.2.leads c.planned.ensures.planned c.root_in-root.ensures) c.args.version (record { at = c.args.version; cover = c.rect.result }) c.requires.version (proper_entry (g.K.Keys.meaning c.args.keys.now) (reading (work g.C.Cells c.args.cells.now)) c.args.version c.requires.version c.rect.result c.rect.ensures) c.node_at-level.result c.node_at-level.ensures (eqb-false c.root_in-root.result.number 0 (sym c.eq.ensures ∙ c.if-eq.false))) in
    let low = level_low (g.K.Keys.meaning c.args.keys.now) (says (g.K.Keys.meaning c.args.keys.now) (reading (work g.C.Cells c.args.cells.now))) (work g.C.Cells c.args.cells.now) c.args.tree.now.head c.root_in-root.result c.node_at-level.result.level (record { at = c.args.version; cover = c.rect.result }) c.requires.standing.2.tree r in
    let room = c.requires.places in
    omega arith

pub settle-requires-clause-settles : goal.settle-requires-clause-settles
settle-requires-clause-settles g c =
    let r = (rooted (g.K.Keys.meaning c.args.keys.now) (work g.C.Cells c.args.cells.now) c.args.tree.now.head c.requires.standing.0 c.requires.standing.1 c.requires.standing.2 c.root_in-root.result (root_read (reading (work g.C.Cells c.args.cells.now)) c.args.tree.now.head.number (root_of c.requires.standing.2.tree) c.root_in-root.result c.planned.result.now c.requires.standing.2.leads c.planned.ensures.planned c.root_in-root.ensures) c.args.version (record { at = c.args.version; cover = c.rect.result }) c.requires.version (proper_entry (g.K.Keys.meaning c.args.keys.now) (reading (work g.C.Cells c.args.cells.now)) c.args.version c.requires.version c.rect.result c.rect.ensures) c.node_at-level.result c.node_at-level.ensures (eqb-false c.root_in-root.result.number 0 (sym c.eq.ensures ∙ c.if-eq.false))) in
    ((says (g.K.Keys.meaning c.args.keys.now) (reading (work g.C.Cells c.args.cells.now))), r.h, (c.with_entry-entries.ensures.grown (says (g.K.Keys.meaning c.args.keys.now) (reading (work g.C.Cells c.args.cells.now))) r.h r.t r.growing).now, root_settles (g.K.Keys.meaning c.args.keys.now) (says (g.K.Keys.meaning c.args.keys.now) (reading (work g.C.Cells c.args.cells.now))) (work g.C.Cells c.args.cells.now) c.args.tree.now.head c.root_in-root.result c.node_at-level.result.level (record { at = c.args.version; cover = c.rect.result }) r.h r.t r.growing r.enough r.leads (work g.C.Cells c.with_entry-entries.new.cells) c.with_entry-entries.result.items (c.with_entry-entries.ensures.grown (says (g.K.Keys.meaning c.args.keys.now) (reading (work g.C.Cells c.args.cells.now))) r.h r.t r.growing))

pub settle-requires-clause-free : goal.settle-requires-clause-free
settle-requires-clause-free g c = λ many.
    let r = (rooted (g.K.Keys.meaning c.args.keys.now) (work g.C.Cells c.args.cells.now) c.args.tree.now.head c.requires.standing.0 c.requires.standing.1 c.requires.standing.2 c.root_in-root.result (root_read (reading (work g.C.Cells c.args.cells.now)) c.args.tree.now.head.number (root_of c.requires.standing.2.tree) c.root_in-root.result c.planned.result.now c.requires.standing.2.leads c.planned.ensures.planned c.root_in-root.ensures) c.args.version (record { at = c.args.version; cover = c.rect.result }) c.requires.version (proper_entry (g.K.Keys.meaning c.args.keys.now) (reading (work g.C.Cells c.args.cells.now)) c.args.version c.requires.version c.rect.result c.rect.ensures) c.node_at-level.result c.node_at-level.ensures (eqb-false c.root_in-root.result.number 0 (sym c.eq.ensures ∙ c.if-eq.false))) in
    root_take (g.K.Keys.meaning c.args.keys.now) (says (g.K.Keys.meaning c.args.keys.now) (reading (work g.C.Cells c.args.cells.now))) (work g.C.Cells c.args.cells.now) c.args.tree.now.head c.root_in-root.result c.node_at-level.result.level (record { at = c.args.version; cover = c.rect.result }) c.requires.standing.2.tree r (work g.C.Cells c.with_entry-entries.new.cells) c.with_entry-entries.result.items (c.with_entry-entries.ensures.grown (says (g.K.Keys.meaning c.args.keys.now) (reading (work g.C.Cells c.args.cells.now))) r.h r.t r.growing) c.requires.free

pub settle-requires-clause-places : goal.settle-requires-clause-places
settle-requires-clause-places g c =
    let r = (rooted (g.K.Keys.meaning c.args.keys.now) (work g.C.Cells c.args.cells.now) c.args.tree.now.head c.requires.standing.0 c.requires.standing.1 c.requires.standing.2 c.root_in-root.result (root_read (reading (work g.C.Cells c.args.cells.now)) c.args.tree.now.head.number (root_of c.requires.standing.2.tree) c.root_in-root.result c.planned.result.now c.requires.standing.2.leads c.planned.ensures.planned c.root_in-root.ensures) c.args.version (record { at = c.args.version; cover = c.rect.result }) c.requires.version (proper_entry (g.K.Keys.meaning c.args.keys.now) (reading (work g.C.Cells c.args.cells.now)) c.args.version c.requires.version c.rect.result c.rect.ensures) c.node_at-level.result c.node_at-level.ensures (eqb-false c.root_in-root.result.number 0 (sym c.eq.ensures ∙ c.if-eq.false))) in
    root_places (g.K.Keys.meaning c.args.keys.now) (says (g.K.Keys.meaning c.args.keys.now) (reading (work g.C.Cells c.args.cells.now))) (work g.C.Cells c.args.cells.now) c.args.tree.now.head c.root_in-root.result c.node_at-level.result.level (record { at = c.args.version; cover = c.rect.result }) c.requires.standing.2.tree r (work g.C.Cells c.with_entry-entries.new.cells) c.with_entry-entries.result.items (c.with_entry-entries.ensures.grown (says (g.K.Keys.meaning c.args.keys.now) (reading (work g.C.Cells c.args.cells.now))) r.h r.t r.growing) c.requires.places

pub overflow_add-level : goal.overflow_add-level
overflow_add-level g c =
    let r = (rooted (g.K.Keys.meaning c.args.keys.now) (work g.C.Cells c.args.cells.now) c.args.tree.now.head c.requires.standing.0 c.requires.standing.1 c.requires.standing.2 c.root_in-root.result (root_read (reading (work g.C.Cells c.args.cells.now)) c.args.tree.now.head.number (root_of c.requires.standing.2.tree) c.root_in-root.result c.planned.result.now c.requires.standing.2.leads c.planned.ensures.planned c.root_in-root.ensures) c.args.version (record { at = c.args.version; cover = c.rect.result }) c.requires.version (proper_entry (g.K.Keys.meaning c.args.keys.now) (reading (work g.C.Cells c.args.cells.now)) c.args.version c.requires.version c.rect.result c.rect.ensures) c.node_at-level.result c.node_at-level.ensures (eqb-false c.root_in-root.result.number 0 (sym c.eq.ensures ∙ c.if-eq.false))) in
    let low = level_low (g.K.Keys.meaning c.args.keys.now) (says (g.K.Keys.meaning c.args.keys.now) (reading (work g.C.Cells c.args.cells.now))) (work g.C.Cells c.args.cells.now) c.args.tree.now.head c.root_in-root.result c.node_at-level.result.level (record { at = c.args.version; cover = c.rect.result }) c.requires.standing.2.tree r in
    omega arith

pub plant-requires-then-len-gt1-clause-level : goal.plant-requires-then-len-gt1-clause-level
plant-requires-then-len-gt1-clause-level g c =
    let r = (rooted (g.K.Keys.meaning c.args.keys.now) (work g.C.Cells c.args.cells.now) c.args.tree.now.head c.requires.standing.0 c.requires.standing.1 c.requires.standing.2 c.root_in-root.result (root_read (reading (work g.C.Cells c.args.cells.now)) c.args.tree.now.head.number (root_of c.requires.standing.2.tree) c.root_in-root.result c.planned.result.now c.requires.standing.2.leads c.planned.ensures.planned c.root_in-root.ensures) c.args.version (record { at = c.args.version; cover = c.rect.result }) c.requires.version (proper_entry (g.K.Keys.meaning c.args.keys.now) (reading (work g.C.Cells c.args.cells.now)) c.args.version c.requires.version c.rect.result c.rect.ensures) c.node_at-level.result c.node_at-level.ensures (eqb-false c.root_in-root.result.number 0 (sym c.eq.ensures ∙ c.if-eq.false))) in
    let low = level_low (g.K.Keys.meaning c.args.keys.now) (says (g.K.Keys.meaning c.args.keys.now) (reading (work g.C.Cells c.args.cells.now))) (work g.C.Cells c.args.cells.now) c.args.tree.now.head c.root_in-root.result c.node_at-level.result.level (record { at = c.args.version; cover = c.rect.result }) c.requires.standing.2.tree r in
    omega arith

pub plant-requires-then-len-gt1-clause-entries : goal.plant-requires-then-len-gt1-clause-entries
plant-requires-then-len-gt1-clause-entries g c =
    let r = (rooted (g.K.Keys.meaning c.args.keys.now) (work g.C.Cells c.args.cells.now) c.args.tree.now.head c.requires.standing.0 c.requires.standing.1 c.requires.standing.2 c.root_in-root.result (root_read (reading (work g.C.Cells c.args.cells.now)) c.args.tree.now.head.number (root_of c.requires.standing.2.tree) c.root_in-root.result c.planned.result.now c.requires.standing.2.leads c.planned.ensures.planned c.root_in-root.ensures) c.args.version (record { at = c.args.version; cover = c.rect.result }) c.requires.version (proper_entry (g.K.Keys.meaning c.args.keys.now) (reading (work g.C.Cells c.args.cells.now)) c.args.version c.requires.version c.rect.result c.rect.ensures) c.node_at-level.result c.node_at-level.ensures (eqb-false c.root_in-root.result.number 0 (sym c.eq.ensures ∙ c.if-eq.false))) in
    let few = many_tops (g.K.Keys.meaning c.args.keys.now) (says (g.K.Keys.meaning c.args.keys.now) (reading (work g.C.Cells c.args.cells.now))) (work g.C.Cells c.args.cells.now) c.args.tree.now.head c.root_in-root.result c.node_at-level.result.level (record { at = c.args.version; cover = c.rect.result }) r.h r.t r.growing r.enough r.leads (work g.C.Cells c.with_entry-entries.new.cells) c.with_entry-entries.result.items (c.with_entry-entries.ensures.grown (says (g.K.Keys.meaning c.args.keys.now) (reading (work g.C.Cells c.args.cells.now))) r.h r.t r.growing) (work g.C.Cells c.settle.new.cells) c.settle.new.above.items (subst (λ (es : List Entry). AreSettled (says (g.K.Keys.meaning c.args.keys.now) (reading (work g.C.Cells c.args.cells.now))) (work g.C.Cells c.with_entry-entries.new.cells) (work g.C.Cells c.settle.new.cells) c.root_in-root.result r.h (c.with_entry-entries.ensures.grown (says (g.K.Keys.meaning c.args.keys.now) (reading (work g.C.Cells c.args.cells.now))) r.h r.t r.growing).now es c.settle.new.above.items) c.new-tops.ensures (c.settle.ensures.settled (says (g.K.Keys.meaning c.args.keys.now) (reading (work g.C.Cells c.args.cells.now))) r.h (c.with_entry-entries.ensures.grown (says (g.K.Keys.meaning c.args.keys.now) (reading (work g.C.Cells c.args.cells.now))) r.h r.t r.growing).now (root_settles (g.K.Keys.meaning c.args.keys.now) (says (g.K.Keys.meaning c.args.keys.now) (reading (work g.C.Cells c.args.cells.now))) (work g.C.Cells c.args.cells.now) c.args.tree.now.head c.root_in-root.result c.node_at-level.result.level (record { at = c.args.version; cover = c.rect.result }) r.h r.t r.growing r.enough r.leads (work g.C.Cells c.with_entry-entries.new.cells) c.with_entry-entries.result.items (c.with_entry-entries.ensures.grown (says (g.K.Keys.meaning c.args.keys.now) (reading (work g.C.Cells c.args.cells.now))) r.h r.t r.growing)))) in
    let same = ap (length {A = Entry}) c.as_slice.ensures.value in
    let more = c.if-len-gt1.true in
    let many = c.len.ensures.value in
    (omega arith, omega arith)

pub plant-requires-then-len-gt1-clause-free : goal.plant-requires-then-len-gt1-clause-free
plant-requires-then-len-gt1-clause-free g c =
    let r = (rooted (g.K.Keys.meaning c.args.keys.now) (work g.C.Cells c.args.cells.now) c.args.tree.now.head c.requires.standing.0 c.requires.standing.1 c.requires.standing.2 c.root_in-root.result (root_read (reading (work g.C.Cells c.args.cells.now)) c.args.tree.now.head.number (root_of c.requires.standing.2.tree) c.root_in-root.result c.planned.result.now c.requires.standing.2.leads c.planned.ensures.planned c.root_in-root.ensures) c.args.version (record { at = c.args.version; cover = c.rect.result }) c.requires.version (proper_entry (g.K.Keys.meaning c.args.keys.now) (reading (work g.C.Cells c.args.cells.now)) c.args.version c.requires.version c.rect.result c.rect.ensures) c.node_at-level.result c.node_at-level.ensures (eqb-false c.root_in-root.result.number 0 (sym c.eq.ensures ∙ c.if-eq.false))) in
    split_take (g.K.Keys.meaning c.args.keys.now) (says (g.K.Keys.meaning c.args.keys.now) (reading (work g.C.Cells c.args.cells.now))) (work g.C.Cells c.args.cells.now) c.args.tree.now.head c.root_in-root.result c.node_at-level.result.level (record { at = c.args.version; cover = c.rect.result }) r.h r.t r.growing r.enough r.leads (work g.C.Cells c.with_entry-entries.new.cells) c.with_entry-entries.result.items (c.with_entry-entries.ensures.grown (says (g.K.Keys.meaning c.args.keys.now) (reading (work g.C.Cells c.args.cells.now))) r.h r.t r.growing) (work g.C.Cells c.settle.new.cells) c.settle.new.above.items (subst (λ (es : List Entry). AreSettled (says (g.K.Keys.meaning c.args.keys.now) (reading (work g.C.Cells c.args.cells.now))) (work g.C.Cells c.with_entry-entries.new.cells) (work g.C.Cells c.settle.new.cells) c.root_in-root.result r.h (c.with_entry-entries.ensures.grown (says (g.K.Keys.meaning c.args.keys.now) (reading (work g.C.Cells c.args.cells.now))) r.h r.t r.growing).now es c.settle.new.above.items) c.new-tops.ensures (c.settle.ensures.settled (says (g.K.Keys.meaning c.args.keys.now) (reading (work g.C.Cells c.args.cells.now))) r.h (c.with_entry-entries.ensures.grown (says (g.K.Keys.meaning c.args.keys.now) (reading (work g.C.Cells c.args.cells.now))) r.h r.t r.growing).now (root_settles (g.K.Keys.meaning c.args.keys.now) (says (g.K.Keys.meaning c.args.keys.now) (reading (work g.C.Cells c.args.cells.now))) (work g.C.Cells c.args.cells.now) c.args.tree.now.head c.root_in-root.result c.node_at-level.result.level (record { at = c.args.version; cover = c.rect.result }) r.h r.t r.growing r.enough r.leads (work g.C.Cells c.with_entry-entries.new.cells) c.with_entry-entries.result.items (c.with_entry-entries.ensures.grown (says (g.K.Keys.meaning c.args.keys.now) (reading (work g.C.Cells c.args.cells.now))) r.h r.t r.growing)))) c.requires.free r.low

pub plant-requires-then-len-gt1-clause-places : goal.plant-requires-then-len-gt1-clause-places
plant-requires-then-len-gt1-clause-places g c =
    let r = (rooted (g.K.Keys.meaning c.args.keys.now) (work g.C.Cells c.args.cells.now) c.args.tree.now.head c.requires.standing.0 c.requires.standing.1 c.requires.standing.2 c.root_in-root.result (root_read (reading (work g.C.Cells c.args.cells.now)) c.args.tree.now.head.number (root_of c.requires.standing.2.tree) c.root_in-root.result c.planned.result.now c.requires.standing.2.leads c.planned.ensures.planned c.root_in-root.ensures) c.args.version (record { at = c.args.version; cover = c.rect.result }) c.requires.version (proper_entry (g.K.Keys.meaning c.args.keys.now) (reading (work g.C.Cells c.args.cells.now)) c.args.version c.requires.version c.rect.result c.rect.ensures) c.node_at-level.result c.node_at-level.ensures (eqb-false c.root_in-root.result.number 0 (sym c.eq.ensures ∙ c.if-eq.false))) in
    split_places (g.K.Keys.meaning c.args.keys.now) (says (g.K.Keys.meaning c.args.keys.now) (reading (work g.C.Cells c.args.cells.now))) (work g.C.Cells c.args.cells.now) c.args.tree.now.head c.root_in-root.result c.node_at-level.result.level (record { at = c.args.version; cover = c.rect.result }) r.h r.t r.growing r.enough r.leads (work g.C.Cells c.with_entry-entries.new.cells) c.with_entry-entries.result.items (c.with_entry-entries.ensures.grown (says (g.K.Keys.meaning c.args.keys.now) (reading (work g.C.Cells c.args.cells.now))) r.h r.t r.growing) (work g.C.Cells c.settle.new.cells) c.settle.new.above.items (subst (λ (es : List Entry). AreSettled (says (g.K.Keys.meaning c.args.keys.now) (reading (work g.C.Cells c.args.cells.now))) (work g.C.Cells c.with_entry-entries.new.cells) (work g.C.Cells c.settle.new.cells) c.root_in-root.result r.h (c.with_entry-entries.ensures.grown (says (g.K.Keys.meaning c.args.keys.now) (reading (work g.C.Cells c.args.cells.now))) r.h r.t r.growing).now es c.settle.new.above.items) c.new-tops.ensures (c.settle.ensures.settled (says (g.K.Keys.meaning c.args.keys.now) (reading (work g.C.Cells c.args.cells.now))) r.h (c.with_entry-entries.ensures.grown (says (g.K.Keys.meaning c.args.keys.now) (reading (work g.C.Cells c.args.cells.now))) r.h r.t r.growing).now (root_settles (g.K.Keys.meaning c.args.keys.now) (says (g.K.Keys.meaning c.args.keys.now) (reading (work g.C.Cells c.args.cells.now))) (work g.C.Cells c.args.cells.now) c.args.tree.now.head c.root_in-root.result c.node_at-level.result.level (record { at = c.args.version; cover = c.rect.result }) r.h r.t r.growing r.enough r.leads (work g.C.Cells c.with_entry-entries.new.cells) c.with_entry-entries.result.items (c.with_entry-entries.ensures.grown (says (g.K.Keys.meaning c.args.keys.now) (reading (work g.C.Cells c.args.cells.now))) r.h r.t r.growing)))) c.requires.places r.low

pub returns-then-len-gt1-clause-put : goal.returns-then-len-gt1-clause-put
returns-then-len-gt1-clause-put g c = λ listed nodes is.
    let r = (rooted (g.K.Keys.meaning c.args.keys.now) (work g.C.Cells c.args.cells.now) c.args.tree.now.head listed nodes is c.root_in-root.result (root_read (reading (work g.C.Cells c.args.cells.now)) c.args.tree.now.head.number (root_of is.tree) c.root_in-root.result c.planned.result.now is.leads c.planned.ensures.planned c.root_in-root.ensures) c.args.version (record { at = c.args.version; cover = c.rect.result }) c.requires.version (proper_entry (g.K.Keys.meaning c.args.keys.now) (reading (work g.C.Cells c.args.cells.now)) c.args.version c.requires.version c.rect.result c.rect.ensures) c.node_at-level.result c.node_at-level.ensures (eqb-false c.root_in-root.result.number 0 (sym c.eq.ensures ∙ c.if-eq.false))) in
    let more = c.if-len-gt1.true in
    let many = c.len.ensures.value in
    subst (λ (tree : Tree). IsTreePut (says (g.K.Keys.meaning c.args.keys.now) (reading (work g.C.Cells c.args.cells.now))) (work g.C.Cells c.args.cells.now) (work g.C.Cells c.plant-then-len-gt1.new.cells) c.args.version c.args.tree.now.head.number tree) (sym r.tree_is)
    (put_split (g.K.Keys.meaning c.args.keys.now) (says (g.K.Keys.meaning c.args.keys.now) (reading (work g.C.Cells c.args.cells.now))) (work g.C.Cells c.args.cells.now) c.args.tree.now.head c.root_in-root.result c.node_at-level.result.level (record { at = c.args.version; cover = c.rect.result }) r.h r.t r.growing r.enough r.leads (work g.C.Cells c.with_entry-entries.new.cells) c.with_entry-entries.result.items (c.with_entry-entries.ensures.grown (says (g.K.Keys.meaning c.args.keys.now) (reading (work g.C.Cells c.args.cells.now))) r.h r.t r.growing) (work g.C.Cells c.settle.new.cells) c.settle.new.above.items (subst (λ (es : List Entry). AreSettled (says (g.K.Keys.meaning c.args.keys.now) (reading (work g.C.Cells c.args.cells.now))) (work g.C.Cells c.with_entry-entries.new.cells) (work g.C.Cells c.settle.new.cells) c.root_in-root.result r.h (c.with_entry-entries.ensures.grown (says (g.K.Keys.meaning c.args.keys.now) (reading (work g.C.Cells c.args.cells.now))) r.h r.t r.growing).now es c.settle.new.above.items) c.new-tops.ensures (c.settle.ensures.settled (says (g.K.Keys.meaning c.args.keys.now) (reading (work g.C.Cells c.args.cells.now))) r.h (c.with_entry-entries.ensures.grown (says (g.K.Keys.meaning c.args.keys.now) (reading (work g.C.Cells c.args.cells.now))) r.h r.t r.growing).now (root_settles (g.K.Keys.meaning c.args.keys.now) (says (g.K.Keys.meaning c.args.keys.now) (reading (work g.C.Cells c.args.cells.now))) (work g.C.Cells c.args.cells.now) c.args.tree.now.head c.root_in-root.result c.node_at-level.result.level (record { at = c.args.version; cover = c.rect.result }) r.h r.t r.growing r.enough r.leads (work g.C.Cells c.with_entry-entries.new.cells) c.with_entry-entries.result.items (c.with_entry-entries.ensures.grown (says (g.K.Keys.meaning c.args.keys.now) (reading (work g.C.Cells c.args.cells.now))) r.h r.t r.growing)))) (omega arith) r.low (work g.C.Cells c.plant-then-len-gt1.new.cells) (subst (λ (es : List Entry). IsPlanted (work g.C.Cells c.settle.new.cells) (work g.C.Cells c.plant-then-len-gt1.new.cells) c.args.tree.now.head (c.node_at-level.result.level + 1) es) c.as_slice.ensures.value c.plant-then-len-gt1.ensures.planted))

pub returns-else-len-gt1-clause-put : goal.returns-else-len-gt1-clause-put
returns-else-len-gt1-clause-put g c = λ listed nodes is.
    let r = (rooted (g.K.Keys.meaning c.args.keys.now) (work g.C.Cells c.args.cells.now) c.args.tree.now.head listed nodes is c.root_in-root.result (root_read (reading (work g.C.Cells c.args.cells.now)) c.args.tree.now.head.number (root_of is.tree) c.root_in-root.result c.planned.result.now is.leads c.planned.ensures.planned c.root_in-root.ensures) c.args.version (record { at = c.args.version; cover = c.rect.result }) c.requires.version (proper_entry (g.K.Keys.meaning c.args.keys.now) (reading (work g.C.Cells c.args.cells.now)) c.args.version c.requires.version c.rect.result c.rect.ensures) c.node_at-level.result c.node_at-level.ensures (eqb-false c.root_in-root.result.number 0 (sym c.eq.ensures ∙ c.if-eq.false))) in
    let few = c.if-len-gt1.false in
    let many = c.len.ensures.value in
    subst (λ (tree : Tree). IsTreePut (says (g.K.Keys.meaning c.args.keys.now) (reading (work g.C.Cells c.args.cells.now))) (work g.C.Cells c.args.cells.now) (work g.C.Cells c.settle.new.cells) c.args.version c.args.tree.now.head.number tree) (sym r.tree_is)
    (put_kept (g.K.Keys.meaning c.args.keys.now) (says (g.K.Keys.meaning c.args.keys.now) (reading (work g.C.Cells c.args.cells.now))) (work g.C.Cells c.args.cells.now) c.args.tree.now.head c.root_in-root.result c.node_at-level.result.level (record { at = c.args.version; cover = c.rect.result }) r.h r.t r.growing r.enough r.leads (work g.C.Cells c.with_entry-entries.new.cells) c.with_entry-entries.result.items (c.with_entry-entries.ensures.grown (says (g.K.Keys.meaning c.args.keys.now) (reading (work g.C.Cells c.args.cells.now))) r.h r.t r.growing) (work g.C.Cells c.settle.new.cells) c.settle.new.above.items (subst (λ (es : List Entry). AreSettled (says (g.K.Keys.meaning c.args.keys.now) (reading (work g.C.Cells c.args.cells.now))) (work g.C.Cells c.with_entry-entries.new.cells) (work g.C.Cells c.settle.new.cells) c.root_in-root.result r.h (c.with_entry-entries.ensures.grown (says (g.K.Keys.meaning c.args.keys.now) (reading (work g.C.Cells c.args.cells.now))) r.h r.t r.growing).now es c.settle.new.above.items) c.new-tops.ensures (c.settle.ensures.settled (says (g.K.Keys.meaning c.args.keys.now) (reading (work g.C.Cells c.args.cells.now))) r.h (c.with_entry-entries.ensures.grown (says (g.K.Keys.meaning c.args.keys.now) (reading (work g.C.Cells c.args.cells.now))) r.h r.t r.growing).now (root_settles (g.K.Keys.meaning c.args.keys.now) (says (g.K.Keys.meaning c.args.keys.now) (reading (work g.C.Cells c.args.cells.now))) (work g.C.Cells c.args.cells.now) c.args.tree.now.head c.root_in-root.result c.node_at-level.result.level (record { at = c.args.version; cover = c.rect.result }) r.h r.t r.growing r.enough r.leads (work g.C.Cells c.with_entry-entries.new.cells) c.with_entry-entries.result.items (c.with_entry-entries.ensures.grown (says (g.K.Keys.meaning c.args.keys.now) (reading (work g.C.Cells c.args.cells.now))) r.h r.t r.growing)))) (omega arith) r.low)
