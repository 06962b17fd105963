-- A latch that no other holds is the taker's.
use Rattle.std.proofs.Common.{◌<◌, refl, sym, subst, length, set, arith}
use Rattle.std.proofs.lemmas.List.{length-set}
use Rattle.std.proofs.lemmas.Nat.{one_shl}
use Rattle.rdb_registry.specs.Registry.{Roll}
use Rattle.rdb_registry.specs.contracts.registry.Registry.{the_view}
use Rattle.rdb_registry.specs.Seats.{IsHeld, NoOtherHolds, changed, add_latch}
use Rattle.rdb_registry.specs.Kept.{seats_of}
use Rattle.rdb_registry.proofs.SlotLemmas.{found, held_within}
use Rattle.rdb_registry.proofs.KeptLemmas.{kept_seat, changed_is, latches_of, latch_others, latch_here, roll_is, told_by}
use Rattle.rdb_registry.proofs.registry.Registry.take_latch.Goals as goal

pub overflow_shl-class : goal.overflow_shl-class
overflow_shl-class c =
    let class : c.args.class < length c.self.inside.takers.items = subst (λ (r : Roll). c.args.class < r.classes) (sym c.self.view_is) c.requires.class in
    let few = c.self.invariant.classes in
    omega arith

pub index_mut-requires : goal.index_mut-requires
index_mut-requires c =
    let class : c.args.class < length c.self.inside.takers.items = subst (λ (r : Roll). c.args.class < r.classes) (sym c.self.view_is) c.requires.class in
    let len = c.self.inside.takers.ok.0 in
    omega arith

pub index_mut-requires-2 : goal.index_mut-requires-2
index_mut-requires-2 c =
    let within = held_within c.self.inside.slots.items c.args.c (subst (λ (r : Roll). IsHeld r.seats c.args.c) (sym c.self.view_is) c.requires.held) in
    let len = c.self.inside.slots.ok.0 in
    omega arith

pub invariant_of-self : goal.invariant_of-self
invariant_of-self c =
    let class : c.args.class < length c.self.inside.takers.items = subst (λ (r : Roll). c.args.class < r.classes) (sym c.self.view_is) c.requires.class in
    let few = c.self.invariant.classes in
    let is_held = subst (λ (r : Roll). IsHeld r.seats c.args.c) (sym c.self.view_is) c.requires.held in
    let free = subst (λ (r : Roll). NoOtherHolds r.seats c.args.c.slot c.args.class) (sym c.self.view_is) c.requires.free in
    let f = found c.self.inside.slots.items c.args.c c.index_mut-2.result.now is_held c.index_mut-2.ensures.value in
    let bit = one_shl c.args.class 64 (omega arith) in
    rw bit
    (kept_seat {takers' = set c.self.inside.takers.items c.args.class c.args.c.slot} c.self.invariant c.args.c.slot c.index_mut-2.result.now (add_latch c.args.class c.index_mut-2.result.now.seat)
    f.at f.is_held (record { conn = refl; condemned = refl }) (length-set c.self.inside.takers.items c.args.class c.args.c.slot)
    (latch_others (seats_of c.self.inside.slots.items) c.self.inside.takers.items c.args.c.slot c.args.class free)
    (latch_here c.self.inside.takers.items c.args.c.slot c.args.class c.index_mut-2.result.now.seat.latches class
    (latches_of c.self.invariant c.args.c.slot c.index_mut-2.result.now f.at f.is_held)) refl)

pub returns : goal.returns
returns c =
    let class : c.args.class < length c.self.inside.takers.items = subst (λ (r : Roll). c.args.class < r.classes) (sym c.self.view_is) c.requires.class in
    let few = c.self.invariant.classes in
    let is_held = subst (λ (r : Roll). IsHeld r.seats c.args.c) (sym c.self.view_is) c.requires.held in
    let f = found c.self.inside.slots.items c.args.c c.index_mut-2.result.now is_held c.index_mut-2.ensures.value in
    let bit = one_shl c.args.class 64 (omega arith) in
    rw bit
    (told_by _ _ _ (λ (r : Roll). record r { seats = changed r.seats c.args.c.slot (add_latch c.args.class) }) c.self.view_is
    (roll_is (the_view c.self.inside) _ _ (length-set c.self.inside.takers.items c.args.class c.args.c.slot) _
    (changed_is c.self.inside.slots.items c.args.c.slot c.index_mut-2.result.now (add_latch c.args.class) f.at f.is_held)))
