-- The openings are those of the slots as they then are.
use Rattle.std.proofs.Common.{List, refl, sym, subst}
use Rattle.rdb_registry.specs.declared.seat.Slot.{Slot}
use Rattle.rdb_registry.specs.Registry.{Roll}
use Rattle.rdb_registry.specs.Seats.{IsHeld, openings, without_transaction}
use Rattle.rdb_registry.specs.Kept.{seats_of, AreOpenings}
use Rattle.rdb_registry.proofs.SlotLemmas.{found, is_some_from}
use Rattle.rdb_registry.proofs.KeptLemmas.{kept_opened, changed_is, told, latches_of}
use Rattle.rdb_registry.proofs.registry.Registry.end.Goals as goal

pub invariant_of-self : goal.invariant_of-self
invariant_of-self c =
    let is_held = subst (λ (r : Roll). IsHeld r.seats c.args.c) (sym c.self.view_is) (is_some_from _ _ c.requires) in
    let f = found c.self.inside.slots.items c.args.c c.index_mut.result.now is_held c.index_mut.ensures.value in
    kept_opened {takers' = c.self.inside.takers.items} c.self.invariant c.args.c.slot c.index_mut.result.now (without_transaction c.index_mut.result.now.seat) f.at f.is_held (record { conn = refl; condemned = refl }) refl
    (λ class j other ne there holds taken. taken) (latches_of c.self.invariant c.args.c.slot c.index_mut.result.now f.at f.is_held)
    (subst (λ (all : List Slot). AreOpenings (openings (seats_of all)) c.of-self-inside.result) c.deref.ensures.value c.of-self-inside.ensures)

pub returns : goal.returns
returns c =
    let is_held = subst (λ (r : Roll). IsHeld r.seats c.args.c) (sym c.self.view_is) (is_some_from _ _ c.requires) in
    let f = found c.self.inside.slots.items c.args.c c.index_mut.result.now is_held c.index_mut.ensures.value in
    told _ _ _ c.args.c.slot (without_transaction) c.self.view_is (changed_is c.self.inside.slots.items c.args.c.slot c.index_mut.result.now (without_transaction) f.at f.is_held)
