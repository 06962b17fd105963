-- A free slot has no record.
use Rattle.std.proofs.Common.{None, List, set, ap, subst, sym, ◌∙◌}
use Rattle.rdb_registry.specs.declared.seat.Slot.{Slot}
use Rattle.rdb_registry.specs.Registry.{Roll}
use Rattle.rdb_registry.specs.contracts.registry.Registry.{the_view}
use Rattle.rdb_registry.specs.Seats.{Seats, IsHeld, openings}
use Rattle.rdb_registry.specs.Kept.{seats_of, AreOpenings}
use Rattle.rdb_registry.proofs.SlotLemmas.{found}
use Rattle.rdb_registry.proofs.KeptLemmas.{kept_freed, seats_of_set, record_free, told_by}
use Rattle.rdb_registry.proofs.registry.Registry.free.Goals as goal

pub invariant_of-self : goal.invariant_of-self
invariant_of-self c =
    let is_held = subst (λ (r : Roll). IsHeld r.seats c.args.c) (sym c.self.view_is) c.requires in
    let f = found c.self.inside.slots.items c.args.c c.index_mut-slot.result.now is_held c.index_mut-slot.ensures.value in
    kept_freed c.self.invariant c.args.c.slot c.index_mut-slot.result.now c.free.new.self f.at c.free.ensures
    (subst (λ (all : List Slot). AreOpenings (openings (seats_of all)) c.of-self-inside.result) c.deref.ensures.value c.of-self-inside.ensures)

pub returns : goal.returns
returns c =
    told_by _ _ _ (λ (r : Roll). record r { seats = set r.seats c.args.c.slot None }) c.self.view_is
    (ap (λ (s : Seats). record (the_view c.self.inside) { seats = s })
    (seats_of_set c.self.inside.slots.items c.args.c.slot c.free.new.self ∙ ap (set (seats_of c.self.inside.slots.items) c.args.c.slot) (record_free c.free.new.self c.free.ensures)))
