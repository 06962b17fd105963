use Rattle.std.proofs.Common.{None, refl, ◌∙◌, arith}
use Rattle.rdb_cells.specs.Work.{work}
use Rattle.rdb_cells.proofs.WorkLemmas.{at_most_then, none_at_most}
use Rattle.rdb_store.specs.Shapes.{nature_of_class}
use Rattle.rdb_store.specs.Stored.{all_linked}
use Rattle.rdb_store.proofs.PutSteps.{held_some, label_fits, puts_made, can_add_it, has_slot, put_held, own_put_in, death_put, had_versions, put_keeps_room}
use Rattle.rdb_store.proofs.plans.put_death.Goals as goal

pub label_of-label-requires-clause-holds : goal.label_of-label-requires-clause-holds
label_of-label-requires-clause-holds g c =
    let r = c.requires.ready.ready in
    held_some (nature_of_class c.requires.ready.shape) (work g.C.Cells c.args.cells.now)
    r.of_class r.objects c.args.new.now r.holds c.args.objects.class c.requires.class.1

pub put_tombstone-version-requires-clause-label : goal.put_tombstone-version-requires-clause-label
put_tombstone-version-requires-clause-label g c =
    let r = c.requires.ready.ready in
    label_fits (nature_of_class c.requires.ready.shape) (work g.C.Cells c.args.cells.now)
    r.of_class r.objects c.args.new.now r.holds c.args.objects.class c.requires.class.1
    c.label_of-label.result c.label_of-label.ensures c.requires.class.0

pub add_version-requires-clause-version : goal.add_version-requires-clause-version
add_version-requires-clause-version g c =
    let class = nature_of_class c.requires.ready.shape in
    let r = c.requires.ready.ready in
    let w = work g.C.Cells c.args.cells.now in
    let put = work g.C.Cells c.put_tombstone-version.new.cells in
    let version = c.put_tombstone-version.result in
    let made = puts_made class w r.of_class r.objects c.args.new.now r.holds c.args.objects.class c.requires.class.1
    c.label_of-label.result c.label_of-label.ensures put version.number None None refl c.put_tombstone-version.ensures.puts in
    can_add_it class r.lawful w put r.of_class r.objects c.args.new.now None tt r.serial r.holds
    c.args.objects.class c.requires.class.1 version made

pub add_version-requires-clause-free : goal.add_version-requires-clause-free
add_version-requires-clause-free g c =
    let class = nature_of_class c.requires.ready.shape in
    let r = c.requires.ready.ready in
    let w = work g.C.Cells c.args.cells.now in
    let put = work g.C.Cells c.put_tombstone-version.new.cells in
    let version = c.put_tombstone-version.result in
    let made = puts_made class w r.of_class r.objects c.args.new.now r.holds c.args.objects.class c.requires.class.1
    c.label_of-label.result c.label_of-label.ensures put version.number None None refl c.put_tombstone-version.ensures.puts in
    has_slot class r.lawful w put r.of_class r.objects c.args.new.now None tt r.serial r.holds
    c.args.objects.class c.requires.class.1 version made c.requires.ready.object

pub returns-clause-puts : goal.returns-clause-puts
returns-clause-puts g c shape lawful of_class objects fresh holds =
    let class = nature_of_class shape in
    let w = work g.C.Cells c.args.cells.now in
    let put = work g.C.Cells c.put_tombstone-version.new.cells in
    let version = c.put_tombstone-version.result in
    let made = puts_made class w of_class objects c.args.new.now holds c.args.objects.class c.requires.class.1
    c.label_of-label.result c.label_of-label.ensures put version.number None None refl c.put_tombstone-version.ensures.puts in
    death_put class lawful w put of_class objects c.args.new.now None tt fresh holds c.args.objects.class c.requires.class.1
    version made (work g.C.Cells c.add_version.new.cells) c.add_version.ensures.adds refl

pub returns-clause-takes : goal.returns-clause-takes
returns-clause-takes g c =
    let class = nature_of_class c.requires.ready.shape in
    let r = c.requires.ready.ready in
    let w = work g.C.Cells c.args.cells.now in
    let put = work g.C.Cells c.put_tombstone-version.new.cells in
    let linked = work g.C.Cells c.add_version.new.cells in
    let version = c.put_tombstone-version.result in
    let made = puts_made class w r.of_class r.objects c.args.new.now r.holds c.args.objects.class c.requires.class.1
    c.label_of-label.result c.label_of-label.ensures put version.number None None refl c.put_tombstone-version.ensures.puts in
    let held = put_held class r.lawful w put r.of_class r.objects c.args.new.now None tt r.serial r.holds c.args.objects.class c.requires.class.1 version made in
    let none = c.add_version.ensures.adds.takes_none (all_linked r.objects) r.holds.0.slots held (had_versions r.objects c.args.new.now.id c.requires.ready.object) in
    at_most_then 1 0 w put linked c.put_tombstone-version.ensures.takes (none_at_most put linked none)

pub returns-clause-own : goal.returns-clause-own
returns-clause-own g c =
    let class = nature_of_class c.requires.ready.shape in
    let r = c.requires.ready.ready in
    let w = work g.C.Cells c.args.cells.now in
    let put = work g.C.Cells c.put_tombstone-version.new.cells in
    let version = c.put_tombstone-version.result in
    let made = puts_made class w r.of_class r.objects c.args.new.now r.holds c.args.objects.class c.requires.class.1
    c.label_of-label.result c.label_of-label.ensures put version.number None None refl c.put_tombstone-version.ensures.puts in
    own_put_in class r.lawful w put r.of_class r.objects c.args.new.now None tt r.serial r.holds
    c.args.objects.class c.requires.class.1 version made (work g.C.Cells c.add_version.new.cells) c.add_version.ensures.adds

pub returns-clause-places : goal.returns-clause-places
returns-clause-places g c =
    let put = c.put_tombstone-version.ensures.places in
    let linked = c.add_version.ensures.adds.places in
    omega arith

pub returns-clause-room : goal.returns-clause-room
returns-clause-room g c = c.add_version.ensures.adds.goes_on.room ∙ put_keeps_room (work g.C.Cells c.args.cells.now)
    (work g.C.Cells c.put_tombstone-version.new.cells) c.put_tombstone-version.result.number _ c.put_tombstone-version.ensures.puts
