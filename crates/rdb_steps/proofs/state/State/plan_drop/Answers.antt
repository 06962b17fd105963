use Rattle.std.proofs.Common.{refl, ap, subst, ◌∙◌}
use Rattle.rdb_cells.specs.Records.{IsRecord}
use Rattle.rdb_registry.specs.declared.hand.Hand.{Hand}
use Rattle.rdb_registry.specs.Seats.{seat_of}
use Rattle.rdb_registry.proofs.SlotLemmas.{some_and_of}
use Rattle.rdb_steps.specs.Planning.{FallsWithVersion, IsDue}
use Rattle.rdb_steps.proofs.ClassHolds.{class_there}
use Rattle.rdb_steps.proofs.DuePlans.{drop_falls, due_holds, due_room, falls_of, garbage_planned, garbage_some, garbage_there, lays_in, lent_is, only_hand, whole_planned, within}
use Rattle.rdb_steps.proofs.state.State.plan_drop.Goals as goal

pub lay_drop-requires-clause-empty : goal.lay_drop-requires-clause-empty
lay_drop-requires-clause-empty g c =
    let s = c.args.self.now in
    let d = some_and_of (IsDue c.args.class) (seat_of s.transactions.registry.seats c.args.c) c.requires.due in
    ap (λ (h : Hand). h.plan.pairs) (lent_is s.transactions.registry.seats c.args.c d.0 c.seat_mut-hand.result.now d.1.0 c.seat_mut-hand.ensures.value) ∙ d.1.1.plan

pub lay_drop-requires-clause-room : goal.lay_drop-requires-clause-room
lay_drop-requires-clause-room g c =
    let s = c.args.self.now in
    let d = some_and_of (IsDue c.args.class) (seat_of s.transactions.registry.seats c.args.c) c.requires.due in
    ap (λ (h : Hand). h.plan.room) (lent_is s.transactions.registry.seats c.args.c d.0 c.seat_mut-hand.result.now d.1.0 c.seat_mut-hand.ensures.value)
    ∙ due_room s c.args.c c.args.class c.requires.whole d.0 d.1.0 d.1.1 c.requires.garbage.0 c.requires.garbage.1 c.requires.garbage.2

pub lay_drop-requires-clause-class : goal.lay_drop-requires-clause-class
lay_drop-requires-clause-class g c =
    let s = c.args.self.now in
    let d = some_and_of (IsDue c.args.class) (seat_of s.transactions.registry.seats c.args.c) c.requires.due in
    class_there s.schema s.store c.args.class c.requires.whole.store
    (within s c.args.c c.args.class c.requires.whole d.0 d.1.0 d.1.1 c.requires.garbage.0 c.requires.garbage.1 c.requires.garbage.2)

pub lay_drop-requires-clause-holds : goal.lay_drop-requires-clause-holds
lay_drop-requires-clause-holds g c =
    let s = c.args.self.now in
    let d = some_and_of (IsDue c.args.class) (seat_of s.transactions.registry.seats c.args.c) c.requires.due in
    due_holds s c.args.c c.args.class c.requires.whole d.0 d.1.0 d.1.1 c.requires.garbage.0 c.requires.garbage.1 c.requires.garbage.2

pub lay_drop-requires-clause-version : goal.lay_drop-requires-clause-version
lay_drop-requires-clause-version g c =
    let s = c.args.self.now in
    let d = some_and_of (IsDue c.args.class) (seat_of s.transactions.registry.seats c.args.c) c.requires.due in
    let r = c.requires.garbage in
    garbage_there s c.args.c c.args.class c.requires.whole d.0 d.1.0 d.1.1 r.0 r.1 r.2 c.args.version.number r.3 r.4 r.5 r.6 r.7

pub returns-clause-kept : goal.returns-clause-kept
returns-clause-kept g c =
    let s = c.args.self.now in
    let d = some_and_of (IsDue c.args.class) (seat_of s.transactions.registry.seats c.args.c) c.requires.due in
    let is = lent_is s.transactions.registry.seats c.args.c d.0 c.seat_mut-hand.result.now d.1.0 c.seat_mut-hand.ensures.value in
    let h = c.lay_drop.new.hand in
    λ settled aimed floor id newer older kept at.
    garbage_planned s c.args.c c.args.class c.requires.whole d.0 d.1.0 d.1.1 settled aimed kept c.args.version.number floor id newer older at h h.plan
    (c.lay_drop.ensures.hand ∙ ap (λ (x : Hand). record x { plan = h.plan }) is) (subst (λ (x : Hand). IsRecord x.undo) is c.logged_once.ensures) c.lay_drop.ensures.plan c.lay_drop.ensures.leads

pub returns-clause-record : goal.returns-clause-record
returns-clause-record g c = record { seats = only_hand c.args.self.now.transactions.registry c.args.c c.lay_drop.new.hand; rest = refl }

pub returns-clause-becomes : goal.returns-clause-becomes
returns-clause-becomes g c =
    let s = c.args.self.now in
    let d = some_and_of (IsDue c.args.class) (seat_of s.transactions.registry.seats c.args.c) c.requires.due in
    let r = c.requires.garbage in
    lays_in s c.args.c c.seat_mut-hand.result.now c.lay_drop.new.hand c.lay_drop.new.hand.plan c.seat_mut-hand.ensures.value c.lay_drop.ensures.hand
    (garbage_some s c.args.c c.args.class c.requires.whole d.0 d.1.0 d.1.1 r.0 r.1 r.2 c.args.version.number r.3 r.4 r.5 r.6 r.7 c.lay_drop.new.hand.plan.pairs c.lay_drop.ensures.leads)

pub returns-clause-counts : goal.returns-clause-counts
returns-clause-counts g c = record { counters = refl; journal = refl; claims = refl; spare = refl; manager = refl; schema = refl; store = refl }

pub returns-clause-nearer : goal.returns-clause-nearer
returns-clause-nearer g c =
    let s = c.args.self.now in
    let d = some_and_of (IsDue c.args.class) (seat_of s.transactions.registry.seats c.args.c) c.requires.due in
    let is = lent_is s.transactions.registry.seats c.args.c d.0 c.seat_mut-hand.result.now d.1.0 c.seat_mut-hand.ensures.value in
    let h = c.lay_drop.new.hand in
    let r = c.requires.garbage in
    falls_of s c.args.c c.args.class c.requires.whole d.0 d.1.0 d.1.1 r.0 r.1 r.2 h (FallsWithVersion s.transactions.manager)
    (drop_falls s c.args.c c.args.class c.requires.whole d.0 d.1.0 d.1.1 r.0 r.1 r.2 h h.plan
    (c.lay_drop.ensures.hand ∙ ap (λ (x : Hand). record x { plan = h.plan }) is) c.lay_drop.ensures.plan.once c.lay_drop.ensures.plan.room)

pub returns-clause-whole : goal.returns-clause-whole
returns-clause-whole g c =
    let s = c.args.self.now in
    let d = some_and_of (IsDue c.args.class) (seat_of s.transactions.registry.seats c.args.c) c.requires.due in
    let is = lent_is s.transactions.registry.seats c.args.c d.0 c.seat_mut-hand.result.now d.1.0 c.seat_mut-hand.ensures.value in
    let h = c.lay_drop.new.hand in
    let r = c.requires.garbage in
    whole_planned s c.args.c c.args.class c.requires.whole d.0 d.1.0 d.1.1 r.0 r.1 r.2 h h.plan
    (c.lay_drop.ensures.hand ∙ ap (λ (x : Hand). record x { plan = h.plan }) is) c.lay_drop.ensures.plan.room
