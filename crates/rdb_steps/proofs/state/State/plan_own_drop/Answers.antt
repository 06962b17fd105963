use Rattle.std.proofs.Common.{◌<◌, ◌≡◌, ℕ, Option, Some, IfNone, IfSome, IsSome, refl, sym, ap, subst, ◌∙◌}
use Rattle.rdb_base.specs.declared.identity.ConnId.{ConnId}
use Rattle.rdb_registry.specs.declared.hand.Hand.{Hand}
use Rattle.rdb_registry.specs.declared.seat.Seat.{Seat}
use Rattle.rdb_registry.specs.declared.seat.Transaction.{Transaction}
use Rattle.rdb_registry.specs.Registry.{IsRoll, Roll}
use Rattle.rdb_registry.specs.Seats.{IsHolder, NoneHolds, add_latch, seat_of, with_hand}
use Rattle.rdb_transactions.proofs.EditLemmas.{has_seat, record_after}
use Rattle.rdb_writes.proofs.WorkLemmas.{in_its_slot}
use Rattle.rdb_steps.specs.Invariant.{IsKept}
use Rattle.rdb_steps.specs.Kept.{tx_of}
use Rattle.rdb_steps.specs.Making.{without_own}
use Rattle.rdb_steps.specs.Planning.{FirstWrite, IsToDrop, LaysLatched}
use Rattle.rdb_steps.specs.States.{ground_in}
use Rattle.rdb_steps.proofs.ClassHolds.{class_there}
use Rattle.rdb_steps.proofs.OwnDropPlans.{own_holds, own_there, own_within}
use Rattle.rdb_steps.proofs.OwnDropSteps.{dropped_kept, dropped_lays, dropped_nearer, dropped_only, dropped_whole, first_write, lent_after}
use Rattle.rdb_steps.proofs.state.State.plan_own_drop.Goals as goal

pub first_own-own-requires : goal.first_own-own-requires
first_own-own-requires g c = (has_seat c.args.self.now.transactions.registry.seats c.args.c IsToDrop c.seat.result.now c.requires.due c.seat.ensures).own

pub holder-requires : goal.holder-requires
holder-requires g c =
    let s = c.args.self.now in
    let seat = c.seat.result.now in
    let own = c.first_own-own.result in
    let due = has_seat s.transactions.registry.seats c.args.c IsToDrop seat c.requires.due c.seat.ensures in
    subst (λ (n : ℕ). own.class < n) (sym c.requires.whole.classes) (own_within s c.args.c c.requires.whole seat c.seat.ensures due c.requires.kept.0 c.requires.kept.1 c.requires.kept.2 own c.first_own-own.ensures.first)

pub take_latch-requires-clause-class : goal.take_latch-requires-clause-class
take_latch-requires-clause-class g c =
    let s = c.args.self.now in
    let seat = c.seat.result.now in
    let own = c.first_own-own.result in
    let due = has_seat s.transactions.registry.seats c.args.c IsToDrop seat c.requires.due c.seat.ensures in
    subst (λ (n : ℕ). own.class < n) (sym c.requires.whole.classes) (own_within s c.args.c c.requires.whole seat c.seat.ensures due c.requires.kept.0 c.requires.kept.1 c.requires.kept.2 own c.first_own-own.ensures.first)

pub take_latch-requires-clause-free : goal.take_latch-requires-clause-free
take_latch-requires-clause-free g c =
    let s = c.args.self.now in
    let seat = c.seat.result.now in
    let own = c.first_own-own.result in
    let due = has_seat s.transactions.registry.seats c.args.c IsToDrop seat c.requires.due c.seat.ensures in
    λ other x ne there. (subst (λ (o : Option ConnId). IfNone o (NoneHolds s.transactions.registry.seats own.class)) c.in-None.is c.holder.ensures.none) other x there

pub lay_drop-requires-clause-empty : goal.lay_drop-requires-clause-empty
lay_drop-requires-clause-empty g c =
    let s = c.args.self.now in
    let seat = c.seat.result.now in
    let own = c.first_own-own.result in
    let due = has_seat s.transactions.registry.seats c.args.c IsToDrop seat c.requires.due c.seat.ensures in
    ap (λ (h : Hand). h.plan.pairs) (lent_after s c.args.c seat c.seat.ensures c.take_latch.new.self own.class c.take_latch.ensures c.seat_mut-hand.result.now c.seat_mut-hand.ensures.value) ∙ due.plan

pub lay_drop-requires-clause-room : goal.lay_drop-requires-clause-room
lay_drop-requires-clause-room g c =
    let s = c.args.self.now in
    let seat = c.seat.result.now in
    let own = c.first_own-own.result in
    let due = has_seat s.transactions.registry.seats c.args.c IsToDrop seat c.requires.due c.seat.ensures in
    ap (λ (h : Hand). h.plan.room) (lent_after s c.args.c seat c.seat.ensures c.take_latch.new.self own.class c.take_latch.ensures c.seat_mut-hand.result.now c.seat_mut-hand.ensures.value) ∙ (c.requires.whole.furnished c.args.c.slot seat (in_its_slot s.transactions.registry.seats c.args.c seat c.seat.ensures)).plan

pub lay_drop-requires-clause-class : goal.lay_drop-requires-clause-class
lay_drop-requires-clause-class g c =
    let s = c.args.self.now in
    let seat = c.seat.result.now in
    let own = c.first_own-own.result in
    let due = has_seat s.transactions.registry.seats c.args.c IsToDrop seat c.requires.due c.seat.ensures in
    class_there s.schema s.store own.class c.requires.whole.store (own_within s c.args.c c.requires.whole seat c.seat.ensures due c.requires.kept.0 c.requires.kept.1 c.requires.kept.2 own c.first_own-own.ensures.first)

pub lay_drop-requires-clause-holds : goal.lay_drop-requires-clause-holds
lay_drop-requires-clause-holds g c =
    let s = c.args.self.now in
    let seat = c.seat.result.now in
    let own = c.first_own-own.result in
    let due = has_seat s.transactions.registry.seats c.args.c IsToDrop seat c.requires.due c.seat.ensures in
    own_holds s c.args.c c.requires.whole seat c.seat.ensures due c.requires.kept.0 c.requires.kept.1 c.requires.kept.2 own c.first_own-own.ensures.first (subst (λ (o : Option ConnId). IfNone o (NoneHolds s.transactions.registry.seats own.class)) c.in-None.is c.holder.ensures.none) (subst (λ (r : Roll). IsRoll r) c.take_latch.ensures c.sound.ensures)

pub lay_drop-requires-clause-version : goal.lay_drop-requires-clause-version
lay_drop-requires-clause-version g c =
    let s = c.args.self.now in
    let seat = c.seat.result.now in
    let own = c.first_own-own.result in
    let due = has_seat s.transactions.registry.seats c.args.c IsToDrop seat c.requires.due c.seat.ensures in
    own_there s c.args.c c.requires.whole seat c.seat.ensures due c.requires.kept.0 c.requires.kept.1 c.requires.kept.2 own c.first_own-own.ensures.first (subst (λ (o : Option ConnId). IfNone o (NoneHolds s.transactions.registry.seats own.class)) c.in-None.is c.holder.ensures.none) (subst (λ (r : Roll). IsRoll r) c.take_latch.ensures c.sound.ensures)

pub returns-in-Some-clause-holder : goal.returns-in-Some-clause-holder
returns-in-Some-clause-holder g c =
    let s = c.args.self.now in
    let seat = c.seat.result.now in
    let own = c.first_own-own.result in
    let due = has_seat s.transactions.registry.seats c.args.c IsToDrop seat c.requires.due c.seat.ensures in
    first_write s c.args.c seat c.seat.ensures own c.first_own-own.ensures.first (λ x first. IsHolder s.transactions.registry.seats first.class c.in-Some.holder)
    (subst (λ (o : Option ConnId). IfSome o (IsHolder s.transactions.registry.seats own.class)) c.in-Some.is c.holder.ensures.found)

pub returns-in-Some-clause-record : goal.returns-in-Some-clause-record
returns-in-Some-clause-record g c =
    let s = c.args.self.now in
    let seat = c.seat.result.now in
    let own = c.first_own-own.result in
    let due = has_seat s.transactions.registry.seats c.args.c IsToDrop seat c.requires.due c.seat.ensures in
    record { seats = record { others = λ i ne. refl; rest = refl }; rest = refl }

pub returns-in-Some-clause-counts : goal.returns-in-Some-clause-counts
returns-in-Some-clause-counts g c =
    let s = c.args.self.now in
    let seat = c.seat.result.now in
    let own = c.first_own-own.result in
    let due = has_seat s.transactions.registry.seats c.args.c IsToDrop seat c.requires.due c.seat.ensures in
    record { counters = refl; journal = refl; claims = refl; spare = refl; manager = refl; schema = refl; store = refl }

pub returns-in-None-clause-counts : goal.returns-in-None-clause-counts
returns-in-None-clause-counts g c =
    let s = c.args.self.now in
    let seat = c.seat.result.now in
    let own = c.first_own-own.result in
    let due = has_seat s.transactions.registry.seats c.args.c IsToDrop seat c.requires.due c.seat.ensures in
    record { counters = refl; journal = refl; claims = refl; spare = refl; manager = refl; schema = refl; store = refl }

pub returns-in-None-clause-kept : goal.returns-in-None-clause-kept
returns-in-None-clause-kept g c =
    let s = c.args.self.now in
    let seat = c.seat.result.now in
    let own = c.first_own-own.result in
    let due = has_seat s.transactions.registry.seats c.args.c IsToDrop seat c.requires.due c.seat.ensures in
    λ settled aimed kept. first_write s c.args.c seat c.seat.ensures own c.first_own-own.ensures.first
    (λ x first. (t : Transaction) → x.transaction ≡ Some t → IsKept s.schema s.transactions.manager s.counters.serials s.counters.ids.items
    (ground_in s.memory (record c.take_latch.new.self { seats = with_hand c.take_latch.new.self.seats c.args.c.slot c.lay_drop.new.hand })) settled (without_own aimed first.class first.id (tx_of x t)))
    (dropped_kept s c.args.c c.requires.whole seat c.seat.ensures due own c.first_own-own.ensures.first c.take_latch.new.self c.take_latch.ensures (subst (λ (o : Option ConnId). IfNone o (NoneHolds s.transactions.registry.seats own.class)) c.in-None.is c.holder.ensures.none) c.sound.ensures c.seat_mut-hand.result.now c.lay_drop.new.hand c.seat_mut-hand.ensures.value c.lay_drop.ensures.hand c.lay_drop.ensures.plan c.lay_drop.ensures.leads settled aimed kept c.first_own-own.ensures.ordered)

pub returns-in-None-clause-record : goal.returns-in-None-clause-record
returns-in-None-clause-record g c =
    let s = c.args.self.now in
    let seat = c.seat.result.now in
    let own = c.first_own-own.result in
    let due = has_seat s.transactions.registry.seats c.args.c IsToDrop seat c.requires.due c.seat.ensures in
    record { seats = dropped_only s c.args.c c.requires.whole seat c.seat.ensures due own c.first_own-own.ensures.first c.take_latch.new.self c.take_latch.ensures (subst (λ (o : Option ConnId). IfNone o (NoneHolds s.transactions.registry.seats own.class)) c.in-None.is c.holder.ensures.none) c.sound.ensures c.seat_mut-hand.result.now c.lay_drop.new.hand c.seat_mut-hand.ensures.value c.lay_drop.ensures.hand c.lay_drop.ensures.plan c.lay_drop.ensures.leads; rest = refl }

pub returns-in-None-clause-becomes : goal.returns-in-None-clause-becomes
returns-in-None-clause-becomes g c =
    let s = c.args.self.now in
    let seat = c.seat.result.now in
    let own = c.first_own-own.result in
    let due = has_seat s.transactions.registry.seats c.args.c IsToDrop seat c.requires.due c.seat.ensures in
    first_write s c.args.c seat c.seat.ensures own c.first_own-own.ensures.first
    (λ x first. LaysLatched s (record s { transactions = record s.transactions { registry = record c.take_latch.new.self { seats = with_hand c.take_latch.new.self.seats c.args.c.slot c.lay_drop.new.hand } } }) c.args.c first.class)
    (dropped_lays s c.args.c c.requires.whole seat c.seat.ensures due own c.first_own-own.ensures.first c.take_latch.new.self c.take_latch.ensures (subst (λ (o : Option ConnId). IfNone o (NoneHolds s.transactions.registry.seats own.class)) c.in-None.is c.holder.ensures.none) c.sound.ensures c.seat_mut-hand.result.now c.lay_drop.new.hand c.seat_mut-hand.ensures.value c.lay_drop.ensures.hand c.lay_drop.ensures.plan c.lay_drop.ensures.leads c.requires.kept.0 c.requires.kept.1 c.requires.kept.2)

pub returns-in-None-clause-nearer : goal.returns-in-None-clause-nearer
returns-in-None-clause-nearer g c =
    let s = c.args.self.now in
    let seat = c.seat.result.now in
    let own = c.first_own-own.result in
    let due = has_seat s.transactions.registry.seats c.args.c IsToDrop seat c.requires.due c.seat.ensures in
    dropped_nearer s c.args.c c.requires.whole seat c.seat.ensures due own c.first_own-own.ensures.first c.take_latch.new.self c.take_latch.ensures (subst (λ (o : Option ConnId). IfNone o (NoneHolds s.transactions.registry.seats own.class)) c.in-None.is c.holder.ensures.none) c.sound.ensures c.seat_mut-hand.result.now c.lay_drop.new.hand c.seat_mut-hand.ensures.value c.lay_drop.ensures.hand c.lay_drop.ensures.plan c.lay_drop.ensures.leads c.requires.kept.0 c.requires.kept.1 c.requires.kept.2

pub returns-in-None-clause-whole : goal.returns-in-None-clause-whole
returns-in-None-clause-whole g c =
    let s = c.args.self.now in
    let seat = c.seat.result.now in
    let own = c.first_own-own.result in
    let due = has_seat s.transactions.registry.seats c.args.c IsToDrop seat c.requires.due c.seat.ensures in
    dropped_whole s c.args.c c.requires.whole seat c.seat.ensures due own c.first_own-own.ensures.first c.take_latch.new.self c.take_latch.ensures (subst (λ (o : Option ConnId). IfNone o (NoneHolds s.transactions.registry.seats own.class)) c.in-None.is c.holder.ensures.none) c.sound.ensures c.seat_mut-hand.result.now c.lay_drop.new.hand c.seat_mut-hand.ensures.value c.lay_drop.ensures.hand c.lay_drop.ensures.plan c.lay_drop.ensures.leads c.requires.kept.0 c.requires.kept.1 c.requires.kept.2

pub seat_mut-hand-requires : goal.seat_mut-hand-requires
seat_mut-hand-requires g c =
    let s = c.args.self.now in
    subst (λ (r : Roll). IsSome (seat_of r.seats c.args.c)) (sym c.take_latch.ensures)
    (subst (λ (o : Option Seat). IsSome o) (sym (record_after s.transactions.registry.seats c.args.c (add_latch c.first_own-own.result.class) c.seat.result.now (λ x. refl) c.seat.ensures)) refl)
