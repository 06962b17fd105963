-- Each connection that wasn't condemned has its place in the list.
use Rattle.std.proofs.Common.{◌≡◌, ◌++◌, ◌∷◌, [], None, IsSomeAnd, refl, ap, subst, sym, ◌∙◌, arith}
use Rattle.rdb_registry.specs.declared.seat.Seat.{Seat}
use Rattle.rdb_registry.specs.declared.seat.Condemned.{Condemned}
use Rattle.rdb_registry.specs.Registry.{Roll}
use Rattle.rdb_registry.specs.contracts.registry.Registry.{the_view}
use Rattle.rdb_registry.specs.Seats.{Seats, seat_of, changed, with_condemned}
use Rattle.rdb_registry.specs.Kept.{seats_of}
use Rattle.rdb_registry.proofs.SlotLemmas.{found, found_at, held_by, held_within, some_and_of, is_some_from}
use Rattle.rdb_registry.proofs.KeptLemmas.{kept_condemned, room_to_condemn, changed_is, told_by}
use Rattle.rdb_registry.proofs.registry.Registry.condemn.Goals as goal

pub append-requires : goal.append-requires
append-requires c =
    let asked = subst (λ (r : Roll). IsSomeAnd (seat_of r.seats c.args.d) (λ (s : Seat). s.condemned ≡ None)) (sym c.self.view_is) c.requires in
    let there = some_and_of (λ (s : Seat). s.condemned ≡ None) (seat_of (seats_of c.self.inside.slots.items) c.args.d) asked in
    let h = held_by c.self.inside.slots.items c.args.d there.0 there.1.0 in
    room_to_condemn c.self.invariant c.args.d.slot h.slot h.at h.is_held (ap (λ (s : Seat). s.condemned) h.seat_is ∙ there.1.1)

pub index_mut-requires : goal.index_mut-requires
index_mut-requires c =
    let asked = subst (λ (r : Roll). IsSomeAnd (seat_of r.seats c.args.d) (λ (s : Seat). s.condemned ≡ None)) (sym c.self.view_is) c.requires in
    let within = held_within c.self.inside.slots.items c.args.d (is_some_from _ _ asked) in
    let len = c.self.inside.slots.ok.0 in
    omega arith

pub invariant_of-self : goal.invariant_of-self
invariant_of-self c =
    let asked = subst (λ (r : Roll). IsSomeAnd (seat_of r.seats c.args.d) (λ (s : Seat). s.condemned ≡ None)) (sym c.self.view_is) c.requires in
    let there = some_and_of (λ (s : Seat). s.condemned ≡ None) (seat_of (seats_of c.self.inside.slots.items) c.args.d) asked in
    let h = held_by c.self.inside.slots.items c.args.d there.0 there.1.0 in
    let f = found_at h c.index_mut.result.now c.index_mut.ensures.value in
    rw c.append.ensures
    (kept_condemned c.self.invariant c.args.d.slot c.index_mut.result.now (record { conn = c.args.d; condemned = record { by = c.args.by; at = c.args.at } }) f.0.at f.0.is_held
    (ap (λ (s : Seat). s.condemned) f.1 ∙ there.1.1) f.0.conn refl)

pub returns : goal.returns
returns c =
    let asked = subst (λ (r : Roll). IsSomeAnd (seat_of r.seats c.args.d) (λ (s : Seat). s.condemned ≡ None)) (sym c.self.view_is) c.requires in
    let is_held = is_some_from _ _ asked in
    let f = found c.self.inside.slots.items c.args.d c.index_mut.result.now is_held c.index_mut.ensures.value in
    let what : Condemned = record { by = c.args.by; at = c.args.at } in
    rw c.append.ensures
    (told_by _ _ _ (λ (r : Roll). record r { seats = changed r.seats c.args.d.slot (with_condemned what); condemned = r.condemned ++ record { conn = c.args.d; condemned = what } ∷ [] }) c.self.view_is
    (ap (λ (s : Seats). record (the_view c.self.inside) { seats = s; condemned = c.self.inside.condemned.items ++ record { conn = c.args.d; condemned = what } ∷ [] })
    (changed_is c.self.inside.slots.items c.args.d.slot c.index_mut.result.now (with_condemned what) f.at f.is_held)))
