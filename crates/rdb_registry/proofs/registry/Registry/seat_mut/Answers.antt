-- A record with another hand is kept like the one before.
use Rattle.std.proofs.Common.{◌≡◌, Option, IsSomeAnd, refl, sym, subst}
use Rattle.rdb_registry.specs.declared.seat.Seat.{Seat}
use Rattle.rdb_registry.specs.Registry.{Roll}
use Rattle.rdb_registry.specs.Seats.{IsHeld, seat_of}
use Rattle.rdb_registry.proofs.SlotLemmas.{found}
use Rattle.rdb_registry.proofs.KeptLemmas.{kept_seat, changed_is, told, latches_of}
use Rattle.rdb_registry.proofs.registry.Registry.seat_mut.Goals as goal

pub invariant_of-self-lent : goal.invariant_of-self-lent
invariant_of-self-lent c =
    let is_held = subst (λ (r : Roll). IsHeld r.seats c.args.c) (sym c.self.view_is) c.requires in
    let f = found c.self.inside.slots.items c.args.c c.index_mut.result.now is_held c.index_mut.ensures.value in
    λ w. kept_seat {takers' = c.self.inside.takers.items} c.self.invariant c.args.c.slot c.index_mut.result.now (record c.index_mut.result.now.seat { hand = w }) f.at f.is_held (record { conn = refl; condemned = refl }) refl
    (λ class j other ne there holds taken. taken) (latches_of c.self.invariant c.args.c.slot c.index_mut.result.now f.at f.is_held) refl

pub returns : goal.returns
returns c =
    let is_held = subst (λ (r : Roll). IsHeld r.seats c.args.c) (sym c.self.view_is) c.requires in
    let f = found c.self.inside.slots.items c.args.c c.index_mut.result.now is_held c.index_mut.ensures.value in
    let here = subst (λ (o : Option Seat). IsSomeAnd o (λ (s : Seat). c.hand_mut.result.now ≡ s.hand)) (sym f.own) c.hand_mut.ensures.value in
    let value = subst (λ (r : Roll). IsSomeAnd (seat_of r.seats c.args.c) (λ (s : Seat). c.hand_mut.result.now ≡ s.hand)) c.self.view_is here in
    ((refl, λ w. told _ _ _ c.args.c.slot (λ (s : Seat). record s { hand = w }) c.self.view_is (changed_is c.self.inside.slots.items c.args.c.slot c.index_mut.result.now (λ (s : Seat). record s { hand = w }) f.at f.is_held)), record { writes_back = tt; value = value })
