-- A record without latches is kept like the one before.
use Rattle.std.proofs.Common.{refl, sym, subst}
use Rattle.rdb_registry.specs.Registry.{Roll}
use Rattle.rdb_registry.specs.Seats.{IsHeld, with_latches}
use Rattle.rdb_registry.proofs.SlotLemmas.{found}
use Rattle.rdb_registry.proofs.KeptLemmas.{kept_seat, changed_is, told, no_latch}
use Rattle.rdb_registry.proofs.registry.Registry.release_latches.Goals as goal

pub invariant_of-self : goal.invariant_of-self
invariant_of-self c =
    let is_held = subst (λ (r : Roll). IsHeld r.seats c.args.c) (sym c.self.view_is) c.requires in
    let f = found c.self.inside.slots.items c.args.c c.index_mut.result.now is_held c.index_mut.ensures.value in
    kept_seat c.self.invariant c.args.c.slot c.index_mut.result.now (with_latches 0 c.index_mut.result.now.seat) f.at f.is_held (record { conn = refl; condemned = refl }) refl
    (λ class j other ne there holds taken. taken) (no_latch _) refl

pub returns : goal.returns
returns c =
    let is_held = subst (λ (r : Roll). IsHeld r.seats c.args.c) (sym c.self.view_is) c.requires in
    let f = found c.self.inside.slots.items c.args.c c.index_mut.result.now is_held c.index_mut.ensures.value in
    told _ _ _ c.args.c.slot (with_latches 0) c.self.view_is (changed_is c.self.inside.slots.items c.args.c.slot c.index_mut.result.now (with_latches 0) f.at f.is_held)
