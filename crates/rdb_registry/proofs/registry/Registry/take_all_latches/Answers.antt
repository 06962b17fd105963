-- Where no other holds any latch, all are the taker's.
use Rattle.std.proofs.Common.{◌≡◌, ℕ, refl, sym, ap, subst, ◌∙◌, length, replicate, arith}
use Rattle.std.proofs.lemmas.List.{length-replicate}
use Rattle.rdb_registry.specs.Registry.{Roll}
use Rattle.rdb_registry.specs.contracts.registry.Registry.{the_view}
use Rattle.rdb_registry.specs.Seats.{IsHeld, NoOtherHolds, changed, with_latches, all_latches}
use Rattle.rdb_registry.specs.Kept.{seats_of}
use Rattle.rdb_registry.proofs.SlotLemmas.{found}
use Rattle.rdb_registry.proofs.KeptLemmas.{kept_seat, changed_is, all_others, all_here, roll_is, told_by}
use Rattle.rdb_registry.proofs.registry.Registry.take_all_latches.Goals as goal

pub invariant_of-self : goal.invariant_of-self
invariant_of-self c =
    let is_held = subst (λ (r : Roll). IsHeld r.seats c.args.c) (sym c.self.view_is) c.requires.held in
    let free = subst (λ (r : Roll). (class : ℕ) → NoOtherHolds r.seats c.args.c.slot class) (sym c.self.view_is) c.requires.free in
    let f = found c.self.inside.slots.items c.args.c c.index_mut.result.now is_held c.index_mut.ensures.value in
    let n = c.self.inside.takers.len in
    let takers : c.fill.new.self.items ≡ replicate n c.args.c.slot = c.fill.ensures.items (λ y e. e) in
    let latches : c.all_latches.result ≡ all_latches n = c.all_latches.ensures ∙ ap all_latches c.len.ensures in
    let same : n ≡ length c.self.inside.takers.items = omega (arith, c.self.inside.takers.ok.0) in
    rw (takers, latches)
    (kept_seat {takers' = replicate n c.args.c.slot} c.self.invariant c.args.c.slot c.index_mut.result.now (with_latches (all_latches n) c.index_mut.result.now.seat)
    f.at f.is_held (record { conn = refl; condemned = refl }) (length-replicate n c.args.c.slot ∙ same)
    (λ class j other ne there holds taken. all_others (seats_of c.self.inside.slots.items) (replicate n c.args.c.slot) c.args.c.slot free class j other ne there holds)
    (all_here n c.args.c.slot) refl)

pub returns : goal.returns
returns c =
    let is_held = subst (λ (r : Roll). IsHeld r.seats c.args.c) (sym c.self.view_is) c.requires.held in
    let f = found c.self.inside.slots.items c.args.c c.index_mut.result.now is_held c.index_mut.ensures.value in
    let n = c.self.inside.takers.len in
    let takers : c.fill.new.self.items ≡ replicate n c.args.c.slot = c.fill.ensures.items (λ y e. e) in
    let same : n ≡ length c.self.inside.takers.items = omega (arith, c.self.inside.takers.ok.0) in
    let latches : c.all_latches.result ≡ all_latches (length c.self.inside.takers.items) = c.all_latches.ensures ∙ ap all_latches (c.len.ensures ∙ same) in
    rw latches
    (told_by _ _ _ (λ (r : Roll). record r { seats = changed r.seats c.args.c.slot (with_latches (all_latches r.classes)) }) c.self.view_is
    (roll_is (the_view c.self.inside) _ _ (ap length takers ∙ (length-replicate n c.args.c.slot ∙ same)) _
    (changed_is c.self.inside.slots.items c.args.c.slot c.index_mut.result.now (with_latches (all_latches (length c.self.inside.takers.items))) f.at f.is_held)))
