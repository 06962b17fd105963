use Rattle.std.proofs.Common.{◌≡◌, ◌+◌, ℕ, Some, length, ap, subst, ◌∙◌, arith}
use Rattle.rdb_cells.specs.Work.{work, TakesAtMost}
use Rattle.rdb_cells.proofs.IndexLemmas.{fewer_than}
use Rattle.rdb_cells.proofs.WorkLemmas.{at_most_then}
use Rattle.rdb_rows.specs.Rows.{cells_for}
use Rattle.rdb_store.specs.Indexed.{class_over, parts_of}
use Rattle.rdb_store.proofs.OwnPlans.{own_then}
use Rattle.rdb_store.proofs.PutSteps.{held_some, label_fits, puts_made, encoded_row, can_add_it, own_put_in, put_keeps_room, lacks_it, row_put}
use Rattle.rdb_store.proofs.plans.put_row.Goals as goal

pub label_of-label-requires-clause-holds : goal.label_of-label-requires-clause-holds
label_of-label-requires-clause-holds g c =
    let r = c.requires.ready.ready in
    held_some (class_over g.I.Index.nature g.K.Keys.meaning c.args.indexes.now c.requires.ready.of) (work g.C.Cells c.args.cells.now)
    r.of_class r.objects c.args.new.now r.holds c.args.objects.class c.requires.class.1

pub put_version-version-requires-clause-label : goal.put_version-version-requires-clause-label
put_version-version-requires-clause-label g c =
    let r = c.requires.ready.ready in
    label_fits (class_over g.I.Index.nature g.K.Keys.meaning c.args.indexes.now c.requires.ready.of) (work g.C.Cells c.args.cells.now)
    r.of_class r.objects c.args.new.now r.holds c.args.objects.class c.requires.class.1
    c.label_of-label.result c.label_of-label.ensures c.requires.class.0

pub put_version-version-requires-clause-free : goal.put_version-version-requires-clause-free
put_version-version-requires-clause-free g c =
    let bytes = length c.args.bytes.now in
    let parts = parts_of g.I.Index.nature c.args.indexes.now in
    fewer_than (work g.C.Cells c.args.cells.now) (cells_for bytes + 1) (cells_for bytes + 2 + parts) (omega arith) c.requires.free

pub add_version-requires-clause-version : goal.add_version-requires-clause-version
add_version-requires-clause-version g c =
    let of = c.requires.ready.of in
    let r = c.requires.ready.ready in
    let row = c.requires.ready.row in
    let encodes = c.requires.ready.encodes in
    let class = class_over g.I.Index.nature g.K.Keys.meaning c.args.indexes.now of in
    let w = work g.C.Cells c.args.cells.now in
    let put = work g.C.Cells c.put_version-version.new.cells in
    let version = c.put_version-version.result in
    let made = puts_made class w r.of_class r.objects c.args.new.now r.holds c.args.objects.class c.requires.class.1
    c.label_of-label.result c.label_of-label.ensures put version.number (Some row) (Some c.args.bytes.now)
    (encoded_row of.types row c.args.bytes.now encodes) c.put_version-version.ensures.puts in
    can_add_it class r.lawful w put r.of_class r.objects c.args.new.now (Some row) (encodes.fits, encodes.proper) r.serial r.holds
    c.args.objects.class c.requires.class.1 version made

pub add_version-requires-clause-free : goal.add_version-requires-clause-free
add_version-requires-clause-free g c held slots holds none =
    let bytes = length c.args.bytes.now in
    let parts = parts_of g.I.Index.nature c.args.indexes.now in
    c.put_version-version.ensures.takes.enough 1
    (fewer_than (work g.C.Cells c.args.cells.now) (1 + (cells_for bytes + 1)) (cells_for bytes + 2 + parts) (omega arith) c.requires.free)

pub put_into-requires-clause-lacks : goal.put_into-requires-clause-lacks
put_into-requires-clause-lacks g c =
    let of = c.requires.ready.of in
    let r = c.requires.ready.ready in
    let row = c.requires.ready.row in
    let encodes = c.requires.ready.encodes in
    let class = class_over g.I.Index.nature g.K.Keys.meaning c.args.indexes.now of in
    let w = work g.C.Cells c.args.cells.now in
    let put = work g.C.Cells c.put_version-version.new.cells in
    let version = c.put_version-version.result in
    let made = puts_made class w r.of_class r.objects c.args.new.now r.holds c.args.objects.class c.requires.class.1
    c.label_of-label.result c.label_of-label.ensures put version.number (Some row) (Some c.args.bytes.now)
    (encoded_row of.types row c.args.bytes.now encodes) c.put_version-version.ensures.puts in
    lacks_it g.I.Index.nature g.K.Keys.meaning c.args.indexes.now of r.lawful w put (work g.C.Cells c.add_version.new.cells)
    r.of_class r.objects c.args.new.now row c.args.bytes.now encodes r.serial r.holds c.args.objects.class c.requires.class.1
    version made c.add_version.ensures.adds

pub put_into-requires-clause-places : goal.put_into-requires-clause-places
put_into-requires-clause-places g c =
    let put = c.put_version-version.ensures.places in
    let linked = c.add_version.ensures.adds.places in
    let room = c.add_version.ensures.adds.goes_on.room ∙ put_keeps_room (work g.C.Cells c.args.cells.now) (work g.C.Cells c.put_version-version.new.cells)
    c.put_version-version.result.number _ c.put_version-version.ensures.puts in
    let most = c.requires.places in
    omega arith

pub put_into-requires-clause-free : goal.put_into-requires-clause-free
put_into-requires-clause-free g c =
    let bytes = length c.args.bytes.now in
    let parts = parts_of g.I.Index.nature c.args.indexes.now in
    c.add_version.ensures.adds.takes.enough parts (c.put_version-version.ensures.takes.enough (parts + 1)
    (fewer_than (work g.C.Cells c.args.cells.now) (parts + 1 + (cells_for bytes + 1)) (cells_for bytes + 2 + parts) (omega arith) c.requires.free))

pub returns-clause-puts : goal.returns-clause-puts
returns-clause-puts g c of lawful of_class row encodes objects fresh holds =
    let class = class_over g.I.Index.nature g.K.Keys.meaning c.args.indexes.now of in
    let w = work g.C.Cells c.args.cells.now in
    let put = work g.C.Cells c.put_version-version.new.cells in
    let version = c.put_version-version.result in
    let made = puts_made class w of_class objects c.args.new.now holds c.args.objects.class c.requires.class.1
    c.label_of-label.result c.label_of-label.ensures put version.number (Some row) (Some c.args.bytes.now)
    (encoded_row of.types row c.args.bytes.now encodes) c.put_version-version.ensures.puts in
    row_put g.I.Index.nature g.K.Keys.meaning c.args.indexes.now of lawful w put (work g.C.Cells c.add_version.new.cells)
    of_class objects c.args.new.now row c.args.bytes.now encodes fresh holds c.args.objects.class c.requires.class.1
    version made c.add_version.ensures.adds (work g.C.Cells c.put_into.new.cells) c.put_into.ensures.puts

pub returns-clause-takes : goal.returns-clause-takes
returns-clause-takes g c =
    let bytes = length c.args.bytes.now in
    let parts = parts_of g.I.Index.nature c.args.indexes.now in
    let w = work g.C.Cells c.args.cells.now in
    let put = work g.C.Cells c.put_version-version.new.cells in
    let linked = work g.C.Cells c.add_version.new.cells in
    let last = work g.C.Cells c.put_into.new.cells in
    let all = at_most_then (cells_for bytes + 1 + 1) parts w linked last
    (at_most_then (cells_for bytes + 1) 1 w put linked c.put_version-version.ensures.takes c.add_version.ensures.adds.takes) c.put_into.ensures.takes in
    let same : cells_for bytes + 1 + 1 + parts ≡ cells_for bytes + 2 + parts = omega arith in
    subst (λ (n : ℕ). TakesAtMost n w last) same all

pub returns-clause-own : goal.returns-clause-own
returns-clause-own g c =
    let of = c.requires.ready.of in
    let r = c.requires.ready.ready in
    let row = c.requires.ready.row in
    let encodes = c.requires.ready.encodes in
    let class = class_over g.I.Index.nature g.K.Keys.meaning c.args.indexes.now of in
    let w = work g.C.Cells c.args.cells.now in
    let put = work g.C.Cells c.put_version-version.new.cells in
    let linked = work g.C.Cells c.add_version.new.cells in
    let version = c.put_version-version.result in
    let made = puts_made class w r.of_class r.objects c.args.new.now r.holds c.args.objects.class c.requires.class.1
    c.label_of-label.result c.label_of-label.ensures put version.number (Some row) (Some c.args.bytes.now)
    (encoded_row of.types row c.args.bytes.now encodes) c.put_version-version.ensures.puts in
    let below = c.add_version.ensures.below.0 ∙ c.put_version-version.ensures.below.0 in
    own_then w linked (work g.C.Cells c.put_into.new.cells) (ap g.C.Cells.class_of below) (c.add_version.ensures.below.1 ∙ c.put_version-version.ensures.below.1)
    (own_put_in class r.lawful w put r.of_class r.objects c.args.new.now (Some row) (encodes.fits, encodes.proper) r.serial r.holds
    c.args.objects.class c.requires.class.1 version made linked c.add_version.ensures.adds)
    c.put_into.ensures.own

pub returns-clause-places : goal.returns-clause-places
returns-clause-places g c =
    let put = c.put_version-version.ensures.places in
    let linked = c.add_version.ensures.adds.places in
    let last = c.put_into.ensures.places in
    omega arith

pub returns-clause-room : goal.returns-clause-room
returns-clause-room g c = c.put_into.ensures.room ∙ c.add_version.ensures.adds.goes_on.room ∙ put_keeps_room (work g.C.Cells c.args.cells.now)
    (work g.C.Cells c.put_version-version.new.cells) c.put_version-version.result.number _ c.put_version-version.ensures.puts
