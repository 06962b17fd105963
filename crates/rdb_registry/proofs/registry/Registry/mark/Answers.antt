-- A mark leaves the kind and the snapshot of its transaction.
use Rattle.std.proofs.Common.{refl, sym, subst}
use Rattle.rdb_registry.specs.Registry.{Roll}
use Rattle.rdb_registry.specs.Seats.{IsHeld, with_mark}
use Rattle.rdb_registry.proofs.SlotLemmas.{found}
use Rattle.rdb_registry.proofs.OpeningLemmas.{opening_marked, unmarked_held}
use Rattle.rdb_registry.proofs.KeptLemmas.{kept_seat, changed_is, told, latches_of}
use Rattle.rdb_registry.proofs.registry.Registry.mark.Goals as goal

pub invariant_of-self : goal.invariant_of-self
invariant_of-self c =
    let is_held = subst (λ (r : Roll). IsHeld r.seats c.args.c) (sym c.self.view_is) (unmarked_held _ c.requires) in
    let f = found c.self.inside.slots.items c.args.c c.index_mut.result.now is_held c.index_mut.ensures.value in
    rw c.marked-seat.ensures (kept_seat {takers' = c.self.inside.takers.items} c.self.invariant c.args.c.slot c.index_mut.result.now (with_mark c.args.commit c.index_mut.result.now.seat) f.at f.is_held (record { conn = refl; condemned = refl }) refl
    (λ class j other ne there holds taken. taken) (latches_of c.self.invariant c.args.c.slot c.index_mut.result.now f.at f.is_held)
    (opening_marked c.args.commit c.index_mut.result.now.seat.transaction))

pub returns : goal.returns
returns c =
    let is_held = subst (λ (r : Roll). IsHeld r.seats c.args.c) (sym c.self.view_is) (unmarked_held _ c.requires) in
    let f = found c.self.inside.slots.items c.args.c c.index_mut.result.now is_held c.index_mut.ensures.value in
    rw c.marked-seat.ensures (told _ _ _ c.args.c.slot (with_mark c.args.commit) c.self.view_is (changed_is c.self.inside.slots.items c.args.c.slot c.index_mut.result.now (with_mark c.args.commit) f.at f.is_held))
