use Rattle.std.proofs.Common.{ℕ, Option, is_some, sym, ap, subst, arith}
use Rattle.rdb_base.specs.declared.operation.Reply.TheVariants.{Count}
use Rattle.rdb_objects.specs.declared.walk.Found.{Found}
use Rattle.rdb_objects.specs.Order.{ListsInOrder, HasObject}
use Rattle.rdb_objects.specs.Slots.{HoldsSome}
use Rattle.rdb_objects.proofs.SortLemmas.{come_in_order}
use Rattle.rdb_sight.specs.Versions.{chain_of}
use Rattle.rdb_shown.proofs.ChainMaps.{rises_from}
use Rattle.rdb_store.specs.Stored.{all_linked}
use Rattle.rdb_cursor.proofs.Counting.{IsCounting, counting_first, counting_stands, counting_object, counting_more, counting_end, counting_all, at_most_one}
use Rattle.rdb_cursor.proofs.replies.count.Goals as goal

pub first_object-next-requires-clause-holds : goal.first_object-next-requires-clause-holds
first_object-next-requires-clause-holds g c =
    let look = c.requires in
    subst (λ (n : ℕ). HoldsSome (g.C.Cells.image c.args.view.now.cells.now) n) (sym c.objects-objects.ensures.class) (all_linked look.holds.0, look.holds.1.0.slots, look.holds.1.1.slots)

pub loop-init : goal.loop-init
loop-init g c = record {
  so_far = λ objects holds ordered lists.
      counting_first c.args.view.now.class.now (g.C.Cells.image c.args.view.now.cells.now) (g.C.Cells.class_of c.args.view.now.cells.now) objects holds.0 holds.1 (rises_from objects holds.1.ascending) ordered lists (g.M.Marks.marked c.args.view.now.marks.now) c.args.view.now.reader c.first_object-next.result
      (c.first_object-next.ensures ordered (subst (λ (n : ℕ). ListsInOrder (g.C.Cells.image c.args.view.now.cells.now) n ordered) (sym c.objects-objects.ensures.class) lists));
  few = omega arith;
}

pub seen_from-requires : goal.seen_from-requires
seen_from-requires g c =
    let objects = c.requires.holds.0 in
    let holds = c.requires.holds.1 in
    let sorted = come_in_order (g.C.Cells.image c.args.view.now.cells.now) c.args.view.now.class.now.number (all_linked objects) holds.0.slots holds.1.slots in
    let ordered = sorted.0 in
    let lists = sorted.1 in
    (c.in-Some.found.id, chain_of objects c.in-Some.found.id, counting_stands c.args.view.now.class.now (g.C.Cells.image c.args.view.now.cells.now) (g.C.Cells.class_of c.args.view.now.cells.now) objects holds.0 holds.1 (rises_from objects holds.1.ascending) ordered lists (g.M.Marks.marked c.args.view.now.marks.now) c.args.view.now.reader c.loop.counter c.loop.next c.loop.count (c.loop.invariant.so_far objects holds ordered lists) c.in-Some.found c.in-Some.is)

pub next_object-next-requires-clause-has : goal.next_object-next-requires-clause-has
next_object-next-requires-clause-has g c =
    let objects = c.requires.holds.0 in
    let holds = c.requires.holds.1 in
    let sorted = come_in_order (g.C.Cells.image c.args.view.now.cells.now) c.args.view.now.class.now.number (all_linked objects) holds.0.slots holds.1.slots in
    let ordered = sorted.0 in
    let lists = sorted.1 in
    subst (λ (n : ℕ). HasObject (g.C.Cells.image c.args.view.now.cells.now) n c.in-Some.found.id) (sym c.objects-objects.ensures.class)
    (counting_object c.args.view.now.class.now (g.C.Cells.image c.args.view.now.cells.now) (g.C.Cells.class_of c.args.view.now.cells.now) objects holds.0 holds.1 (rises_from objects holds.1.ascending) ordered lists (g.M.Marks.marked c.args.view.now.marks.now) c.args.view.now.reader c.loop.counter c.loop.next c.loop.count (c.loop.invariant.so_far objects holds ordered lists) c.in-Some.found c.in-Some.is)

pub loop-preserved : goal.loop-preserved
loop-preserved g c = record {
  so_far = λ objects holds ordered lists.
      let so_far = c.loop.invariant.so_far objects holds ordered lists in
      counting_more c.args.view.now.class.now (g.C.Cells.image c.args.view.now.cells.now) (g.C.Cells.class_of c.args.view.now.cells.now) objects holds.0 holds.1 (rises_from objects holds.1.ascending) ordered lists (g.M.Marks.marked c.args.view.now.marks.now) c.args.view.now.reader c.loop.counter c.loop.next c.loop.count so_far c.in-Some.found c.in-Some.is c.next_object-next.result c.with_one-count.result c.seen_from.result
      (c.next_object-next.ensures ordered (subst (λ (n : ℕ). ListsInOrder (g.C.Cells.image c.args.view.now.cells.now) n ordered) (sym c.objects-objects.ensures.class) lists))
      (c.seen_from.ensures c.in-Some.found.id (chain_of objects c.in-Some.found.id) (counting_stands c.args.view.now.class.now (g.C.Cells.image c.args.view.now.cells.now) (g.C.Cells.class_of c.args.view.now.cells.now) objects holds.0 holds.1 (rises_from objects holds.1.ascending) ordered lists (g.M.Marks.marked c.args.view.now.marks.now) c.args.view.now.reader c.loop.counter c.loop.next c.loop.count so_far c.in-Some.found c.in-Some.is))
      c.with_one-count.ensures;
  few = (let at_most = c.loop.invariant.few in let told = c.with_one-count.ensures in let one = at_most_one (is_some c.seen_from.result) in omega arith);
}

pub returns-in_default : goal.returns-in_default
returns-in_default g c objects holds =
    let sorted = come_in_order (g.C.Cells.image c.args.view.now.cells.now) c.args.view.now.class.now.number (all_linked objects) holds.0.slots holds.1.slots in
    let ordered = sorted.0 in
    let lists = sorted.1 in
    ap Count (counting_end c.args.view.now.class.now (g.C.Cells.image c.args.view.now.cells.now) (g.C.Cells.class_of c.args.view.now.cells.now) objects holds.0 holds.1 (rises_from objects holds.1.ascending) ordered lists (g.M.Marks.marked c.args.view.now.marks.now) c.args.view.now.reader c.loop.counter c.loop.count (subst (λ (o : Option Found). IsCounting c.args.view.now.class.now (g.C.Cells.image c.args.view.now.cells.now) (g.C.Cells.class_of c.args.view.now.cells.now) objects holds.0 holds.1 (rises_from objects holds.1.ascending) ordered lists (g.M.Marks.marked c.args.view.now.marks.now) c.args.view.now.reader c.loop.counter o c.loop.count) c.in_default.is (c.loop.invariant.so_far objects holds ordered lists)))

pub returns : goal.returns
returns g c objects holds =
    let sorted = come_in_order (g.C.Cells.image c.args.view.now.cells.now) c.args.view.now.class.now.number (all_linked objects) holds.0.slots holds.1.slots in
    let ordered = sorted.0 in
    let lists = sorted.1 in
    ap Count (counting_all c.args.view.now.class.now (g.C.Cells.image c.args.view.now.cells.now) (g.C.Cells.class_of c.args.view.now.cells.now) objects holds.0 holds.1 (rises_from objects holds.1.ascending) ordered lists (g.M.Marks.marked c.args.view.now.marks.now) c.args.view.now.reader
    c.loop.counter c.loop.next c.loop.count (c.loop.invariant.so_far objects holds ordered lists) c.bounded.ensures c.loop-test.false)
