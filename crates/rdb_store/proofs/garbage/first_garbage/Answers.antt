use Rattle.rdb_store.proofs.UnseenObjects.{going_first, some_chain, has_object, going_on, ends_at_none, ends_at_most}
use Rattle.rdb_store.proofs.garbage.first_garbage.Goals as goal

pub loop-init : goal.loop-init
loop-init g c held holds =
    going_first (g.C.Cells.image c.args.cells.now) c.args.objects.class c.args.floor held holds c.first_object-next.result c.first_object-next.ensures

pub sooner-first-requires : goal.sooner-first-requires
sooner-first-requires g c =
    let held = c.requires.holds in
    some_chain (g.C.Cells.image c.args.cells.now) c.args.objects.class c.args.floor held.0 held.1 c.loop.counter c.loop.next c.loop.first
    (c.loop.invariant held.0 held.1) c.in-Some.object c.in-Some.is

pub next_object-next-requires-clause-has : goal.next_object-next-requires-clause-has
next_object-next-requires-clause-has g c =
    let held = c.requires.holds in
    has_object (g.C.Cells.image c.args.cells.now) c.args.objects.class c.args.floor held.0 held.1 c.loop.counter c.loop.next c.loop.first
    (c.loop.invariant held.0 held.1) c.in-Some.object c.in-Some.is

pub returns-in-None : goal.returns-in-None
returns-in-None g c held holds =
    ends_at_none (g.C.Cells.image c.args.cells.now) c.args.objects.class c.args.floor held holds c.loop.counter c.loop.next c.loop.first
    (c.loop.invariant held holds) c.in-None.is c.version_of.result c.version_of.ensures

pub loop-preserved : goal.loop-preserved
loop-preserved g c held holds =
    going_on (g.C.Cells.image c.args.cells.now) c.args.objects.class c.args.floor held holds c.loop.counter c.loop.next c.loop.first
    (c.loop.invariant held holds) c.in-Some.object c.in-Some.is
    c.next_object-next.result c.sooner-first.result c.next_object-next.ensures c.sooner-first.ensures

pub returns : goal.returns
returns g c held holds =
    ends_at_most (g.C.Cells.image c.args.cells.now) c.args.objects.class c.args.floor held holds c.loop.counter c.loop.next c.loop.first
    (c.loop.invariant held holds) (g.C.Cells.class_of c.args.cells.now) c.bounded.ensures c.loop-test.false c.version_of-2.result c.version_of-2.ensures
