use Rattle.std.proofs.Common.{◌<◌, ◌≤◌, ◌≡◌, ◌+◌, ◌^◌, ℕ, List, length, slice_index, Option, Some, IsSome, IsSomeAnd, refl, sym, ap, subst, ◌∙◌, arith}
use Rattle.std.proofs.lemmas.Option.{slice_get_within}
use Rattle.rdb_base.specs.declared.identity.Stamp.TheVariants as stamp
use Rattle.rdb_base.specs.Operations.{class_of as class_named}
use Rattle.rdb_registry.specs.declared.hand.Hand.{Hand}
use Rattle.rdb_registry.specs.declared.hand.Work.{Work}
use Rattle.rdb_registry.specs.declared.seat.Seat.{Seat}
use Rattle.rdb_registry.specs.declared.seat.Transaction.{Transaction}
use Rattle.rdb_registry.specs.OwnWrites.{header_of}
use Rattle.rdb_registry.specs.Registry.{Roll}
use Rattle.rdb_registry.specs.Seats.{seat_of, with_hand}
use Rattle.rdb_space.specs.Claim.{claim_of}
use Rattle.rdb_space.specs.Memory.{class_of, image_of}
use Rattle.rdb_store.specs.declared.plans.NewVersion.{NewVersion}
use Rattle.rdb_store.specs.Holds.{HoldsSome}
use Rattle.rdb_store.specs.Shapes.{class_in}
use Rattle.rdb_transactions.proofs.EditLemmas.{has_seat, same_seat}
use Rattle.rdb_transactions.proofs.SoundLemmas.{slot_there}
use Rattle.rdb_writes.proofs.WorkLemmas.{in_its_slot}
use Rattle.rdb_steps.specs.Invariant.{IsKept}
use Rattle.rdb_steps.specs.Kept.{tx_of}
use Rattle.rdb_steps.specs.Laid.{IsReadyToPut}
use Rattle.rdb_steps.specs.Planning.{HasObject, IsDue, MakesOwnPlan, aimed_at_put}
use Rattle.rdb_steps.specs.States.{ground_in}
use Rattle.rdb_steps.proofs.ClaimLemmas.{claim_small}
use Rattle.rdb_steps.proofs.ClassHolds.{class_there}
use Rattle.rdb_steps.proofs.DrawnLemmas.{id_fits, serial_fits, spent_fits}
use Rattle.rdb_steps.proofs.DuePlans.{due_holds, due_opened, due_room, due_unput, due_work, lent_is, within}
use Rattle.rdb_steps.proofs.OwnPlans.{ready}
use Rattle.rdb_steps.proofs.OwnSteps.{made_becomes, made_kept, made_nearer, made_whole, new_here, of_work, works_at}
use Rattle.rdb_steps.proofs.state.State.plan_operation.Goals as goal

pub draw_serial-serial-requires : goal.draw_serial-serial-requires
draw_serial-serial-requires g c = serial_fits c.args.self.now c.requires.whole c.sound.ensures

pub operation_of-requires : goal.operation_of-requires
operation_of-requires g c =
    let s = c.args.self.now in
    let seat = c.seat.result.now in
    let due = has_seat s.transactions.registry.seats c.args.c (IsDue c.args.class) seat c.requires.due c.seat.ensures in
    subst (λ (o : Option Work). IsSome o) (sym (due_work s c.args.c c.args.class c.requires.whole seat c.seat.ensures due c.requires.kept.0 c.requires.kept.1 c.requires.kept.2).1.0) refl

pub id_of-id-requires-clause-class : goal.id_of-id-requires-clause-class
id_of-id-requires-clause-class g c =
    let s = c.args.self.now in
    let seat = c.seat.result.now in
    let due = has_seat s.transactions.registry.seats c.args.c (IsDue c.args.class) seat c.requires.due c.seat.ensures in
    subst (λ (k : ℕ). k < length c.draw_serial-serial.new.self.ids.items) (sym (ap class_named (sym (subst (λ (o : Option Work). IsSomeAnd o (λ work. work.op ≡ c.operation_of.result.now)) (due_work s c.args.c c.args.class c.requires.whole seat c.seat.ensures due c.requires.kept.0 c.requires.kept.1 c.requires.kept.2).1.0 c.operation_of.ensures)) ∙ (due_work s c.args.c c.args.class c.requires.whole seat c.seat.ensures due c.requires.kept.0 c.requires.kept.1 c.requires.kept.2).1.1))
    (subst (λ (n : ℕ). c.args.class < n) (sym ((λ i. length (c.draw_serial-serial.ensures.ids i).items) ∙ c.requires.whole.ids)) (within s c.args.c c.args.class c.requires.whole seat c.seat.ensures due c.requires.kept.0 c.requires.kept.1 c.requires.kept.2))

pub id_of-id-requires-clause-fits : goal.id_of-id-requires-clause-fits
id_of-id-requires-clause-fits g c =
    let s = c.args.self.now in
    let seat = c.seat.result.now in
    let due = has_seat s.transactions.registry.seats c.args.c (IsDue c.args.class) seat c.requires.due c.seat.ensures in
    subst (λ (ns : List ℕ). slice_index ns (class_named c.operation_of.result.now) + 1 < 2 ^ 64) (sym (λ i. (c.draw_serial-serial.ensures.ids i).items))
    (id_fits s (class_named c.operation_of.result.now) c.requires.whole c.sound.ensures)

pub spend-requires-clause-class : goal.spend-requires-clause-class
spend-requires-clause-class g c =
    let s = c.args.self.now in
    let seat = c.seat.result.now in
    let due = has_seat s.transactions.registry.seats c.args.c (IsDue c.args.class) seat c.requires.due c.seat.ensures in
    subst (λ (n : ℕ). c.args.class < n) (sym c.requires.whole.classes) (within s c.args.c c.args.class c.requires.whole seat c.seat.ensures due c.requires.kept.0 c.requires.kept.1 c.requires.kept.2)

pub spend-requires-clause-fits : goal.spend-requires-clause-fits
spend-requires-clause-fits g c =
    let s = c.args.self.now in
    let seat = c.seat.result.now in
    let due = has_seat s.transactions.registry.seats c.args.c (IsDue c.args.class) seat c.requires.due c.seat.ensures in
    spent_fits s c.args.c.slot c.args.class c.args.need c.requires.whole c.sound.ensures (subst (λ (n : ℕ). n ≤ 1024) (sym (of_work s c.args.c seat c.seat.ensures (due_work s c.args.c c.args.class c.requires.whole seat c.seat.ensures due c.requires.kept.0 c.requires.kept.1 c.requires.kept.2).0 (due_work s c.args.c c.args.class c.requires.whole seat c.seat.ensures due c.requires.kept.0 c.requires.kept.1 c.requires.kept.2).1.0 (λ x work. c.args.need ≡ claim_of s.schema work.op (length work.bytes)) c.requires.need)) (claim_small s.schema (due_work s c.args.c c.args.class c.requires.whole seat c.seat.ensures due c.requires.kept.0 c.requires.kept.1 c.requires.kept.2).0.op (length (due_work s c.args.c c.args.class c.requires.whole seat c.seat.ensures due c.requires.kept.0 c.requires.kept.1 c.requires.kept.2).0.bytes) c.requires.whole.schema ((c.requires.whole.furnished c.args.c.slot seat (in_its_slot s.transactions.registry.seats c.args.c seat c.seat.ensures)).work (due_work s c.args.c c.args.class c.requires.whole seat c.seat.ensures due c.requires.kept.0 c.requires.kept.1 c.requires.kept.2).0 (due_work s c.args.c c.args.class c.requires.whole seat c.seat.ensures due c.requires.kept.0 c.requires.kept.1 c.requires.kept.2).1.0).short))

pub spend-requires-clause-slot : goal.spend-requires-clause-slot
spend-requires-clause-slot g c =
    let s = c.args.self.now in
    let seat = c.seat.result.now in
    let due = has_seat s.transactions.registry.seats c.args.c (IsDue c.args.class) seat c.requires.due c.seat.ensures in
    let there = slice_get_within s.transactions.registry.seats c.args.c.slot (Some seat) (slot_there s.transactions.registry.seats c.args.c.slot seat (in_its_slot s.transactions.registry.seats c.args.c seat c.seat.ensures)) in
    let count = c.sound.ensures.count in
    omega (arith, there, count)

pub version_to_put-new-requires : goal.version_to_put-new-requires
version_to_put-new-requires g c =
    let s = c.args.self.now in
    let seat = c.seat.result.now in
    let due = has_seat s.transactions.registry.seats c.args.c (IsDue c.args.class) seat c.requires.due c.seat.ensures in
    subst (λ (x : Seat). IsSome x.transaction) (sym (same_seat s.transactions.registry.seats c.args.c c.seat-2.result.now seat (subst (λ (r : Roll). seat_of r.seats c.args.c ≡ Some c.seat-2.result.now) c.spend.ensures c.seat-2.ensures) c.seat.ensures)) (subst (λ (o : Option Transaction). IsSome o) (sym (due_opened s c.args.c c.args.class c.requires.whole seat c.seat.ensures due c.requires.kept.0 c.requires.kept.1 c.requires.kept.2).1.0) refl)

pub lay_put-requires-clause-empty : goal.lay_put-requires-clause-empty
lay_put-requires-clause-empty g c =
    let s = c.args.self.now in
    let seat = c.seat.result.now in
    let due = has_seat s.transactions.registry.seats c.args.c (IsDue c.args.class) seat c.requires.due c.seat.ensures in
    ap (λ (h : Hand). h.plan.pairs) (lent_is s.transactions.registry.seats c.args.c seat c.seat_mut-hand.result.now c.seat.ensures (subst (λ (r : Roll). IsSomeAnd (seat_of r.seats c.args.c) (λ x. c.seat_mut-hand.result.now ≡ x.hand)) c.spend.ensures c.seat_mut-hand.ensures.value)) ∙ due.plan

pub lay_put-requires-clause-room : goal.lay_put-requires-clause-room
lay_put-requires-clause-room g c =
    let s = c.args.self.now in
    let seat = c.seat.result.now in
    let due = has_seat s.transactions.registry.seats c.args.c (IsDue c.args.class) seat c.requires.due c.seat.ensures in
    ap (λ (h : Hand). h.plan.room) (lent_is s.transactions.registry.seats c.args.c seat c.seat_mut-hand.result.now c.seat.ensures (subst (λ (r : Roll). IsSomeAnd (seat_of r.seats c.args.c) (λ x. c.seat_mut-hand.result.now ≡ x.hand)) c.spend.ensures c.seat_mut-hand.ensures.value)) ∙ due_room s c.args.c c.args.class c.requires.whole seat c.seat.ensures due c.requires.kept.0 c.requires.kept.1 c.requires.kept.2

pub lay_put-requires-clause-class : goal.lay_put-requires-clause-class
lay_put-requires-clause-class g c =
    let s = c.args.self.now in
    let seat = c.seat.result.now in
    let due = has_seat s.transactions.registry.seats c.args.c (IsDue c.args.class) seat c.requires.due c.seat.ensures in
    subst (λ (n : NewVersion). n.class < length s.store) (sym (new_here s c.args.c c.args.class c.args.need c.requires.whole seat c.seat.ensures due (due_work s c.args.c c.args.class c.requires.whole seat c.seat.ensures due c.requires.kept.0 c.requires.kept.1 c.requires.kept.2).0 (due_work s c.args.c c.args.class c.requires.whole seat c.seat.ensures due c.requires.kept.0 c.requires.kept.1 c.requires.kept.2).1.0 (due_work s c.args.c c.args.class c.requires.whole seat c.seat.ensures due c.requires.kept.0 c.requires.kept.1 c.requires.kept.2).1.1 (due_opened s c.args.c c.args.class c.requires.whole seat c.seat.ensures due c.requires.kept.0 c.requires.kept.1 c.requires.kept.2).0 (due_opened s c.args.c c.args.class c.requires.whole seat c.seat.ensures due c.requires.kept.0 c.requires.kept.1 c.requires.kept.2).1.0 c.draw_serial-serial.new.self c.id_of-id.new.self c.draw_serial-serial.ensures.serials c.draw_serial-serial.ensures.ids c.operation_of.result.now (subst (λ (o : Option Work). IsSomeAnd o (λ work. work.op ≡ c.operation_of.result.now)) (due_work s c.args.c c.args.class c.requires.whole seat c.seat.ensures due c.requires.kept.0 c.requires.kept.1 c.requires.kept.2).1.0 c.operation_of.ensures) c.id_of-id.ensures.serials c.id_of-id.ensures.ids c.id_of-id.result c.draw_serial-serial.result c.id_of-id.ensures.id c.draw_serial-serial.ensures.serial c.version_to_put-new.result (subst (λ (x : Seat). c.version_to_put-new.result ≡ record { class = c.args.class; id = c.id_of-id.result; serial = c.draw_serial-serial.result; stamp = stamp.By (tx_of x (due_opened s c.args.c c.args.class c.requires.whole seat c.seat.ensures due c.requires.kept.0 c.requires.kept.1 c.requires.kept.2).0); replaces = header_of x.hand.own.items (c.args.class, c.id_of-id.result) }) (same_seat s.transactions.registry.seats c.args.c c.seat-2.result.now seat (subst (λ (r : Roll). seat_of r.seats c.args.c ≡ Some c.seat-2.result.now) c.spend.ensures c.seat-2.ensures) c.seat.ensures) (c.version_to_put-new.ensures (due_opened s c.args.c c.args.class c.requires.whole seat c.seat.ensures due c.requires.kept.0 c.requires.kept.1 c.requires.kept.2).0 (ap (λ (x : Seat). x.transaction) (same_seat s.transactions.registry.seats c.args.c c.seat-2.result.now seat (subst (λ (r : Roll). seat_of r.seats c.args.c ≡ Some c.seat-2.result.now) c.spend.ensures c.seat-2.ensures) c.seat.ensures) ∙ (due_opened s c.args.c c.args.class c.requires.whole seat c.seat.ensures due c.requires.kept.0 c.requires.kept.1 c.requires.kept.2).1.0))))) (class_there s.schema s.store c.args.class c.requires.whole.store (within s c.args.c c.args.class c.requires.whole seat c.seat.ensures due c.requires.kept.0 c.requires.kept.1 c.requires.kept.2))

pub lay_put-requires-clause-holds : goal.lay_put-requires-clause-holds
lay_put-requires-clause-holds g c =
    let s = c.args.self.now in
    let seat = c.seat.result.now in
    let due = has_seat s.transactions.registry.seats c.args.c (IsDue c.args.class) seat c.requires.due c.seat.ensures in
    subst (λ (n : NewVersion). HoldsSome (class_in s.store n.class) (image_of s.memory) (class_of s.memory)) (sym (new_here s c.args.c c.args.class c.args.need c.requires.whole seat c.seat.ensures due (due_work s c.args.c c.args.class c.requires.whole seat c.seat.ensures due c.requires.kept.0 c.requires.kept.1 c.requires.kept.2).0 (due_work s c.args.c c.args.class c.requires.whole seat c.seat.ensures due c.requires.kept.0 c.requires.kept.1 c.requires.kept.2).1.0 (due_work s c.args.c c.args.class c.requires.whole seat c.seat.ensures due c.requires.kept.0 c.requires.kept.1 c.requires.kept.2).1.1 (due_opened s c.args.c c.args.class c.requires.whole seat c.seat.ensures due c.requires.kept.0 c.requires.kept.1 c.requires.kept.2).0 (due_opened s c.args.c c.args.class c.requires.whole seat c.seat.ensures due c.requires.kept.0 c.requires.kept.1 c.requires.kept.2).1.0 c.draw_serial-serial.new.self c.id_of-id.new.self c.draw_serial-serial.ensures.serials c.draw_serial-serial.ensures.ids c.operation_of.result.now (subst (λ (o : Option Work). IsSomeAnd o (λ work. work.op ≡ c.operation_of.result.now)) (due_work s c.args.c c.args.class c.requires.whole seat c.seat.ensures due c.requires.kept.0 c.requires.kept.1 c.requires.kept.2).1.0 c.operation_of.ensures) c.id_of-id.ensures.serials c.id_of-id.ensures.ids c.id_of-id.result c.draw_serial-serial.result c.id_of-id.ensures.id c.draw_serial-serial.ensures.serial c.version_to_put-new.result (subst (λ (x : Seat). c.version_to_put-new.result ≡ record { class = c.args.class; id = c.id_of-id.result; serial = c.draw_serial-serial.result; stamp = stamp.By (tx_of x (due_opened s c.args.c c.args.class c.requires.whole seat c.seat.ensures due c.requires.kept.0 c.requires.kept.1 c.requires.kept.2).0); replaces = header_of x.hand.own.items (c.args.class, c.id_of-id.result) }) (same_seat s.transactions.registry.seats c.args.c c.seat-2.result.now seat (subst (λ (r : Roll). seat_of r.seats c.args.c ≡ Some c.seat-2.result.now) c.spend.ensures c.seat-2.ensures) c.seat.ensures) (c.version_to_put-new.ensures (due_opened s c.args.c c.args.class c.requires.whole seat c.seat.ensures due c.requires.kept.0 c.requires.kept.1 c.requires.kept.2).0 (ap (λ (x : Seat). x.transaction) (same_seat s.transactions.registry.seats c.args.c c.seat-2.result.now seat (subst (λ (r : Roll). seat_of r.seats c.args.c ≡ Some c.seat-2.result.now) c.spend.ensures c.seat-2.ensures) c.seat.ensures) ∙ (due_opened s c.args.c c.args.class c.requires.whole seat c.seat.ensures due c.requires.kept.0 c.requires.kept.1 c.requires.kept.2).1.0))))) (due_holds s c.args.c c.args.class c.requires.whole seat c.seat.ensures due c.requires.kept.0 c.requires.kept.1 c.requires.kept.2)

pub lay_put-requires-clause-work : goal.lay_put-requires-clause-work
lay_put-requires-clause-work g c =
    let s = c.args.self.now in
    let seat = c.seat.result.now in
    let due = has_seat s.transactions.registry.seats c.args.c (IsDue c.args.class) seat c.requires.due c.seat.ensures in
    subst (λ (o : Option Work). IsSomeAnd o (IsReadyToPut s.store (image_of s.memory) (class_of s.memory) c.version_to_put-new.result)) (sym (ap (λ (h : Hand). h.work) (lent_is s.transactions.registry.seats c.args.c seat c.seat_mut-hand.result.now c.seat.ensures (subst (λ (r : Roll). IsSomeAnd (seat_of r.seats c.args.c) (λ x. c.seat_mut-hand.result.now ≡ x.hand)) c.spend.ensures c.seat_mut-hand.ensures.value)) ∙ (due_work s c.args.c c.args.class c.requires.whole seat c.seat.ensures due c.requires.kept.0 c.requires.kept.1 c.requires.kept.2).1.0))
    (subst (λ (n : NewVersion). IsReadyToPut s.store (image_of s.memory) (class_of s.memory) n (due_work s c.args.c c.args.class c.requires.whole seat c.seat.ensures due c.requires.kept.0 c.requires.kept.1 c.requires.kept.2).0) (sym (new_here s c.args.c c.args.class c.args.need c.requires.whole seat c.seat.ensures due (due_work s c.args.c c.args.class c.requires.whole seat c.seat.ensures due c.requires.kept.0 c.requires.kept.1 c.requires.kept.2).0 (due_work s c.args.c c.args.class c.requires.whole seat c.seat.ensures due c.requires.kept.0 c.requires.kept.1 c.requires.kept.2).1.0 (due_work s c.args.c c.args.class c.requires.whole seat c.seat.ensures due c.requires.kept.0 c.requires.kept.1 c.requires.kept.2).1.1 (due_opened s c.args.c c.args.class c.requires.whole seat c.seat.ensures due c.requires.kept.0 c.requires.kept.1 c.requires.kept.2).0 (due_opened s c.args.c c.args.class c.requires.whole seat c.seat.ensures due c.requires.kept.0 c.requires.kept.1 c.requires.kept.2).1.0 c.draw_serial-serial.new.self c.id_of-id.new.self c.draw_serial-serial.ensures.serials c.draw_serial-serial.ensures.ids c.operation_of.result.now (subst (λ (o : Option Work). IsSomeAnd o (λ work. work.op ≡ c.operation_of.result.now)) (due_work s c.args.c c.args.class c.requires.whole seat c.seat.ensures due c.requires.kept.0 c.requires.kept.1 c.requires.kept.2).1.0 c.operation_of.ensures) c.id_of-id.ensures.serials c.id_of-id.ensures.ids c.id_of-id.result c.draw_serial-serial.result c.id_of-id.ensures.id c.draw_serial-serial.ensures.serial c.version_to_put-new.result (subst (λ (x : Seat). c.version_to_put-new.result ≡ record { class = c.args.class; id = c.id_of-id.result; serial = c.draw_serial-serial.result; stamp = stamp.By (tx_of x (due_opened s c.args.c c.args.class c.requires.whole seat c.seat.ensures due c.requires.kept.0 c.requires.kept.1 c.requires.kept.2).0); replaces = header_of x.hand.own.items (c.args.class, c.id_of-id.result) }) (same_seat s.transactions.registry.seats c.args.c c.seat-2.result.now seat (subst (λ (r : Roll). seat_of r.seats c.args.c ≡ Some c.seat-2.result.now) c.spend.ensures c.seat-2.ensures) c.seat.ensures) (c.version_to_put-new.ensures (due_opened s c.args.c c.args.class c.requires.whole seat c.seat.ensures due c.requires.kept.0 c.requires.kept.1 c.requires.kept.2).0 (ap (λ (x : Seat). x.transaction) (same_seat s.transactions.registry.seats c.args.c c.seat-2.result.now seat (subst (λ (r : Roll). seat_of r.seats c.args.c ≡ Some c.seat-2.result.now) c.spend.ensures c.seat-2.ensures) c.seat.ensures) ∙ (due_opened s c.args.c c.args.class c.requires.whole seat c.seat.ensures due c.requires.kept.0 c.requires.kept.1 c.requires.kept.2).1.0)))))
    (ready s c.args.c c.args.class c.requires.whole seat c.seat.ensures due c.requires.kept.0 c.requires.kept.1 c.requires.kept.2 (due_work s c.args.c c.args.class c.requires.whole seat c.seat.ensures due c.requires.kept.0 c.requires.kept.1 c.requires.kept.2).0 (due_work s c.args.c c.args.class c.requires.whole seat c.seat.ensures due c.requires.kept.0 c.requires.kept.1 c.requires.kept.2).1.0 (due_work s c.args.c c.args.class c.requires.whole seat c.seat.ensures due c.requires.kept.0 c.requires.kept.1 c.requires.kept.2).1.1 (due_opened s c.args.c c.args.class c.requires.whole seat c.seat.ensures due c.requires.kept.0 c.requires.kept.1 c.requires.kept.2).0 (due_opened s c.args.c c.args.class c.requires.whole seat c.seat.ensures due c.requires.kept.0 c.requires.kept.1 c.requires.kept.2).1.0 (of_work s c.args.c seat c.seat.ensures (due_work s c.args.c c.args.class c.requires.whole seat c.seat.ensures due c.requires.kept.0 c.requires.kept.1 c.requires.kept.2).0 (due_work s c.args.c c.args.class c.requires.whole seat c.seat.ensures due c.requires.kept.0 c.requires.kept.1 c.requires.kept.2).1.0 (λ x work. HasObject c.requires.kept.1 work.op) c.requires.kept.3) c.args.need c.requires.free.0 (of_work s c.args.c seat c.seat.ensures (due_work s c.args.c c.args.class c.requires.whole seat c.seat.ensures due c.requires.kept.0 c.requires.kept.1 c.requires.kept.2).0 (due_work s c.args.c c.args.class c.requires.whole seat c.seat.ensures due c.requires.kept.0 c.requires.kept.1 c.requires.kept.2).1.0 (λ x work. c.args.need ≡ claim_of s.schema work.op (length work.bytes)) c.requires.need) c.requires.free.1 c.requires.free.2))

pub returns-clause-kept : goal.returns-clause-kept
returns-clause-kept g c =
    let s = c.args.self.now in
    let seat = c.seat.result.now in
    let due = has_seat s.transactions.registry.seats c.args.c (IsDue c.args.class) seat c.requires.due c.seat.ensures in
    λ settled aimed kept. works_at s c.args.c seat c.seat.ensures (due_work s c.args.c c.args.class c.requires.whole seat c.seat.ensures due c.requires.kept.0 c.requires.kept.1 c.requires.kept.2).0 (due_work s c.args.c c.args.class c.requires.whole seat c.seat.ensures due c.requires.kept.0 c.requires.kept.1 c.requires.kept.2).1.0
    (λ x work. HasObject aimed work.op → (u : Transaction) → x.transaction ≡ Some u → IsKept s.schema s.transactions.manager c.id_of-id.new.self.serials c.id_of-id.new.self.ids.items
    (ground_in s.memory (record c.spend.new.self { seats = with_hand c.spend.new.self.seats c.args.c.slot c.lay_put.new.hand })) settled (aimed_at_put s x u work.op c.lay_put.result aimed))
    (made_kept s c.args.c c.args.class c.args.need c.requires.whole seat c.seat.ensures due (due_work s c.args.c c.args.class c.requires.whole seat c.seat.ensures due c.requires.kept.0 c.requires.kept.1 c.requires.kept.2).0 (due_work s c.args.c c.args.class c.requires.whole seat c.seat.ensures due c.requires.kept.0 c.requires.kept.1 c.requires.kept.2).1.0 (due_work s c.args.c c.args.class c.requires.whole seat c.seat.ensures due c.requires.kept.0 c.requires.kept.1 c.requires.kept.2).1.1 (due_opened s c.args.c c.args.class c.requires.whole seat c.seat.ensures due c.requires.kept.0 c.requires.kept.1 c.requires.kept.2).0 (due_opened s c.args.c c.args.class c.requires.whole seat c.seat.ensures due c.requires.kept.0 c.requires.kept.1 c.requires.kept.2).1.0 c.draw_serial-serial.new.self c.id_of-id.new.self c.draw_serial-serial.ensures.serials c.draw_serial-serial.ensures.ids c.operation_of.result.now (subst (λ (o : Option Work). IsSomeAnd o (λ work. work.op ≡ c.operation_of.result.now)) (due_work s c.args.c c.args.class c.requires.whole seat c.seat.ensures due c.requires.kept.0 c.requires.kept.1 c.requires.kept.2).1.0 c.operation_of.ensures) c.id_of-id.ensures.serials c.id_of-id.ensures.ids c.id_of-id.result c.draw_serial-serial.result c.id_of-id.ensures.id c.draw_serial-serial.ensures.serial c.version_to_put-new.result (subst (λ (x : Seat). c.version_to_put-new.result ≡ record { class = c.args.class; id = c.id_of-id.result; serial = c.draw_serial-serial.result; stamp = stamp.By (tx_of x (due_opened s c.args.c c.args.class c.requires.whole seat c.seat.ensures due c.requires.kept.0 c.requires.kept.1 c.requires.kept.2).0); replaces = header_of x.hand.own.items (c.args.class, c.id_of-id.result) }) (same_seat s.transactions.registry.seats c.args.c c.seat-2.result.now seat (subst (λ (r : Roll). seat_of r.seats c.args.c ≡ Some c.seat-2.result.now) c.spend.ensures c.seat-2.ensures) c.seat.ensures) (c.version_to_put-new.ensures (due_opened s c.args.c c.args.class c.requires.whole seat c.seat.ensures due c.requires.kept.0 c.requires.kept.1 c.requires.kept.2).0 (ap (λ (x : Seat). x.transaction) (same_seat s.transactions.registry.seats c.args.c c.seat-2.result.now seat (subst (λ (r : Roll). seat_of r.seats c.args.c ≡ Some c.seat-2.result.now) c.spend.ensures c.seat-2.ensures) c.seat.ensures) ∙ (due_opened s c.args.c c.args.class c.requires.whole seat c.seat.ensures due c.requires.kept.0 c.requires.kept.1 c.requires.kept.2).1.0))) c.spend.new.self c.spend.ensures c.seat_mut-hand.result.now c.lay_put.new.hand c.seat_mut-hand.ensures.value c.lay_put.result c.lay_put.ensures.hand c.lay_put.ensures.leads c.lay_put.ensures.plan c.logged_once.ensures settled aimed kept)

pub returns-clause-becomes : goal.returns-clause-becomes
returns-clause-becomes g c =
    let s = c.args.self.now in
    let seat = c.seat.result.now in
    let due = has_seat s.transactions.registry.seats c.args.c (IsDue c.args.class) seat c.requires.due c.seat.ensures in
    works_at s c.args.c seat c.seat.ensures (due_work s c.args.c c.args.class c.requires.whole seat c.seat.ensures due c.requires.kept.0 c.requires.kept.1 c.requires.kept.2).0 (due_work s c.args.c c.args.class c.requires.whole seat c.seat.ensures due c.requires.kept.0 c.requires.kept.1 c.requires.kept.2).1.0
    (λ x work. MakesOwnPlan s (record s { transactions = record s.transactions { registry = record c.spend.new.self { seats = with_hand c.spend.new.self.seats c.args.c.slot c.lay_put.new.hand } }; counters = c.id_of-id.new.self })
    c.args.c work.op c.args.class c.args.need c.lay_put.result)
    (made_becomes s c.args.c c.args.class c.args.need c.requires.whole seat c.seat.ensures due (due_work s c.args.c c.args.class c.requires.whole seat c.seat.ensures due c.requires.kept.0 c.requires.kept.1 c.requires.kept.2).0 (due_work s c.args.c c.args.class c.requires.whole seat c.seat.ensures due c.requires.kept.0 c.requires.kept.1 c.requires.kept.2).1.0 (due_work s c.args.c c.args.class c.requires.whole seat c.seat.ensures due c.requires.kept.0 c.requires.kept.1 c.requires.kept.2).1.1 (due_opened s c.args.c c.args.class c.requires.whole seat c.seat.ensures due c.requires.kept.0 c.requires.kept.1 c.requires.kept.2).0 (due_opened s c.args.c c.args.class c.requires.whole seat c.seat.ensures due c.requires.kept.0 c.requires.kept.1 c.requires.kept.2).1.0 c.draw_serial-serial.new.self c.id_of-id.new.self c.draw_serial-serial.ensures.serials c.draw_serial-serial.ensures.ids c.operation_of.result.now (subst (λ (o : Option Work). IsSomeAnd o (λ work. work.op ≡ c.operation_of.result.now)) (due_work s c.args.c c.args.class c.requires.whole seat c.seat.ensures due c.requires.kept.0 c.requires.kept.1 c.requires.kept.2).1.0 c.operation_of.ensures) c.id_of-id.ensures.serials c.id_of-id.ensures.ids c.id_of-id.result c.draw_serial-serial.result c.id_of-id.ensures.id c.draw_serial-serial.ensures.serial c.version_to_put-new.result (subst (λ (x : Seat). c.version_to_put-new.result ≡ record { class = c.args.class; id = c.id_of-id.result; serial = c.draw_serial-serial.result; stamp = stamp.By (tx_of x (due_opened s c.args.c c.args.class c.requires.whole seat c.seat.ensures due c.requires.kept.0 c.requires.kept.1 c.requires.kept.2).0); replaces = header_of x.hand.own.items (c.args.class, c.id_of-id.result) }) (same_seat s.transactions.registry.seats c.args.c c.seat-2.result.now seat (subst (λ (r : Roll). seat_of r.seats c.args.c ≡ Some c.seat-2.result.now) c.spend.ensures c.seat-2.ensures) c.seat.ensures) (c.version_to_put-new.ensures (due_opened s c.args.c c.args.class c.requires.whole seat c.seat.ensures due c.requires.kept.0 c.requires.kept.1 c.requires.kept.2).0 (ap (λ (x : Seat). x.transaction) (same_seat s.transactions.registry.seats c.args.c c.seat-2.result.now seat (subst (λ (r : Roll). seat_of r.seats c.args.c ≡ Some c.seat-2.result.now) c.spend.ensures c.seat-2.ensures) c.seat.ensures) ∙ (due_opened s c.args.c c.args.class c.requires.whole seat c.seat.ensures due c.requires.kept.0 c.requires.kept.1 c.requires.kept.2).1.0))) c.spend.new.self c.spend.ensures c.seat_mut-hand.result.now c.lay_put.new.hand c.seat_mut-hand.ensures.value c.lay_put.result c.lay_put.ensures.hand c.lay_put.ensures.leads c.lay_put.ensures.plan c.logged_once.ensures c.requires.kept.0 c.requires.kept.1 c.requires.kept.2 (of_work s c.args.c seat c.seat.ensures (due_work s c.args.c c.args.class c.requires.whole seat c.seat.ensures due c.requires.kept.0 c.requires.kept.1 c.requires.kept.2).0 (due_work s c.args.c c.args.class c.requires.whole seat c.seat.ensures due c.requires.kept.0 c.requires.kept.1 c.requires.kept.2).1.0 (λ x work. HasObject c.requires.kept.1 work.op) c.requires.kept.3))

pub returns-clause-nearer : goal.returns-clause-nearer
returns-clause-nearer g c =
    let s = c.args.self.now in
    let seat = c.seat.result.now in
    let due = has_seat s.transactions.registry.seats c.args.c (IsDue c.args.class) seat c.requires.due c.seat.ensures in
    made_nearer s c.args.c c.args.class c.args.need c.requires.whole seat c.seat.ensures due (due_work s c.args.c c.args.class c.requires.whole seat c.seat.ensures due c.requires.kept.0 c.requires.kept.1 c.requires.kept.2).0 (due_work s c.args.c c.args.class c.requires.whole seat c.seat.ensures due c.requires.kept.0 c.requires.kept.1 c.requires.kept.2).1.0 (due_work s c.args.c c.args.class c.requires.whole seat c.seat.ensures due c.requires.kept.0 c.requires.kept.1 c.requires.kept.2).1.1 (due_opened s c.args.c c.args.class c.requires.whole seat c.seat.ensures due c.requires.kept.0 c.requires.kept.1 c.requires.kept.2).0 (due_opened s c.args.c c.args.class c.requires.whole seat c.seat.ensures due c.requires.kept.0 c.requires.kept.1 c.requires.kept.2).1.0 c.draw_serial-serial.new.self c.id_of-id.new.self c.draw_serial-serial.ensures.serials c.draw_serial-serial.ensures.ids c.operation_of.result.now (subst (λ (o : Option Work). IsSomeAnd o (λ work. work.op ≡ c.operation_of.result.now)) (due_work s c.args.c c.args.class c.requires.whole seat c.seat.ensures due c.requires.kept.0 c.requires.kept.1 c.requires.kept.2).1.0 c.operation_of.ensures) c.id_of-id.ensures.serials c.id_of-id.ensures.ids c.id_of-id.result c.draw_serial-serial.result c.id_of-id.ensures.id c.draw_serial-serial.ensures.serial c.version_to_put-new.result (subst (λ (x : Seat). c.version_to_put-new.result ≡ record { class = c.args.class; id = c.id_of-id.result; serial = c.draw_serial-serial.result; stamp = stamp.By (tx_of x (due_opened s c.args.c c.args.class c.requires.whole seat c.seat.ensures due c.requires.kept.0 c.requires.kept.1 c.requires.kept.2).0); replaces = header_of x.hand.own.items (c.args.class, c.id_of-id.result) }) (same_seat s.transactions.registry.seats c.args.c c.seat-2.result.now seat (subst (λ (r : Roll). seat_of r.seats c.args.c ≡ Some c.seat-2.result.now) c.spend.ensures c.seat-2.ensures) c.seat.ensures) (c.version_to_put-new.ensures (due_opened s c.args.c c.args.class c.requires.whole seat c.seat.ensures due c.requires.kept.0 c.requires.kept.1 c.requires.kept.2).0 (ap (λ (x : Seat). x.transaction) (same_seat s.transactions.registry.seats c.args.c c.seat-2.result.now seat (subst (λ (r : Roll). seat_of r.seats c.args.c ≡ Some c.seat-2.result.now) c.spend.ensures c.seat-2.ensures) c.seat.ensures) ∙ (due_opened s c.args.c c.args.class c.requires.whole seat c.seat.ensures due c.requires.kept.0 c.requires.kept.1 c.requires.kept.2).1.0))) c.spend.new.self c.spend.ensures c.seat_mut-hand.result.now c.lay_put.new.hand c.seat_mut-hand.ensures.value c.lay_put.result c.lay_put.ensures.hand c.lay_put.ensures.leads c.lay_put.ensures.plan c.logged_once.ensures c.requires.kept.0 c.requires.kept.1 c.requires.kept.2 (due_unput s c.args.c c.args.class c.requires.whole seat c.seat.ensures due c.requires.kept.0 c.requires.kept.1 c.requires.kept.2)

pub returns-clause-whole : goal.returns-clause-whole
returns-clause-whole g c =
    let s = c.args.self.now in
    let seat = c.seat.result.now in
    let due = has_seat s.transactions.registry.seats c.args.c (IsDue c.args.class) seat c.requires.due c.seat.ensures in
    made_whole s c.args.c c.args.class c.args.need c.requires.whole seat c.seat.ensures due (due_work s c.args.c c.args.class c.requires.whole seat c.seat.ensures due c.requires.kept.0 c.requires.kept.1 c.requires.kept.2).0 (due_work s c.args.c c.args.class c.requires.whole seat c.seat.ensures due c.requires.kept.0 c.requires.kept.1 c.requires.kept.2).1.0 (due_work s c.args.c c.args.class c.requires.whole seat c.seat.ensures due c.requires.kept.0 c.requires.kept.1 c.requires.kept.2).1.1 (due_opened s c.args.c c.args.class c.requires.whole seat c.seat.ensures due c.requires.kept.0 c.requires.kept.1 c.requires.kept.2).0 (due_opened s c.args.c c.args.class c.requires.whole seat c.seat.ensures due c.requires.kept.0 c.requires.kept.1 c.requires.kept.2).1.0 c.draw_serial-serial.new.self c.id_of-id.new.self c.draw_serial-serial.ensures.serials c.draw_serial-serial.ensures.ids c.operation_of.result.now (subst (λ (o : Option Work). IsSomeAnd o (λ work. work.op ≡ c.operation_of.result.now)) (due_work s c.args.c c.args.class c.requires.whole seat c.seat.ensures due c.requires.kept.0 c.requires.kept.1 c.requires.kept.2).1.0 c.operation_of.ensures) c.id_of-id.ensures.serials c.id_of-id.ensures.ids c.id_of-id.result c.draw_serial-serial.result c.id_of-id.ensures.id c.draw_serial-serial.ensures.serial c.version_to_put-new.result (subst (λ (x : Seat). c.version_to_put-new.result ≡ record { class = c.args.class; id = c.id_of-id.result; serial = c.draw_serial-serial.result; stamp = stamp.By (tx_of x (due_opened s c.args.c c.args.class c.requires.whole seat c.seat.ensures due c.requires.kept.0 c.requires.kept.1 c.requires.kept.2).0); replaces = header_of x.hand.own.items (c.args.class, c.id_of-id.result) }) (same_seat s.transactions.registry.seats c.args.c c.seat-2.result.now seat (subst (λ (r : Roll). seat_of r.seats c.args.c ≡ Some c.seat-2.result.now) c.spend.ensures c.seat-2.ensures) c.seat.ensures) (c.version_to_put-new.ensures (due_opened s c.args.c c.args.class c.requires.whole seat c.seat.ensures due c.requires.kept.0 c.requires.kept.1 c.requires.kept.2).0 (ap (λ (x : Seat). x.transaction) (same_seat s.transactions.registry.seats c.args.c c.seat-2.result.now seat (subst (λ (r : Roll). seat_of r.seats c.args.c ≡ Some c.seat-2.result.now) c.spend.ensures c.seat-2.ensures) c.seat.ensures) ∙ (due_opened s c.args.c c.args.class c.requires.whole seat c.seat.ensures due c.requires.kept.0 c.requires.kept.1 c.requires.kept.2).1.0))) c.spend.new.self c.spend.ensures c.seat_mut-hand.result.now c.lay_put.new.hand c.seat_mut-hand.ensures.value c.lay_put.result c.lay_put.ensures.hand c.lay_put.ensures.leads c.lay_put.ensures.plan c.logged_once.ensures c.requires.kept.0 c.requires.kept.1 c.requires.kept.2 (subst (λ (n : ℕ). n ≤ 1024) (sym (of_work s c.args.c seat c.seat.ensures (due_work s c.args.c c.args.class c.requires.whole seat c.seat.ensures due c.requires.kept.0 c.requires.kept.1 c.requires.kept.2).0 (due_work s c.args.c c.args.class c.requires.whole seat c.seat.ensures due c.requires.kept.0 c.requires.kept.1 c.requires.kept.2).1.0 (λ x work. c.args.need ≡ claim_of s.schema work.op (length work.bytes)) c.requires.need)) (claim_small s.schema (due_work s c.args.c c.args.class c.requires.whole seat c.seat.ensures due c.requires.kept.0 c.requires.kept.1 c.requires.kept.2).0.op (length (due_work s c.args.c c.args.class c.requires.whole seat c.seat.ensures due c.requires.kept.0 c.requires.kept.1 c.requires.kept.2).0.bytes) c.requires.whole.schema ((c.requires.whole.furnished c.args.c.slot seat (in_its_slot s.transactions.registry.seats c.args.c seat c.seat.ensures)).work (due_work s c.args.c c.args.class c.requires.whole seat c.seat.ensures due c.requires.kept.0 c.requires.kept.1 c.requires.kept.2).0 (due_work s c.args.c c.args.class c.requires.whole seat c.seat.ensures due c.requires.kept.0 c.requires.kept.1 c.requires.kept.2).1.0).short)) (due_unput s c.args.c c.args.class c.requires.whole seat c.seat.ensures due c.requires.kept.0 c.requires.kept.1 c.requires.kept.2)
