-- A new record in the lowest free slot.
use Rattle.std.proofs.Common.{◌≡◌, ◌+◌, List, set, Some, is_none, position, refl, sym, ap, subst, ◌∙◌}
use Rattle.std.proofs.lemmas.List.{length-set}
use Rattle.rdb_base.specs.declared.identity.ConnId.{ConnId}
use Rattle.rdb_registry.specs.declared.seat.Slot.{Slot}
use Rattle.rdb_registry.specs.contracts.registry.Registry.{the_view}
use Rattle.rdb_registry.specs.Kept.{seats_of}
use Rattle.rdb_registry.proofs.SlotLemmas.{lowest_is_free}
use Rattle.rdb_registry.proofs.KeptLemmas.{kept_same, kept_connected, still_free, seats_of_set, record_held, on_err, roll_same, roll_after, connects_is}
use Rattle.rdb_registry.proofs.registry.Registry.connect.Goals as goal

pub invariant_of-self : goal.invariant_of-self
invariant_of-self c = kept_same c.self.invariant refl refl c.make_room.ensures.items c.make_room.ensures.room

pub connect-requires : goal.connect-requires
connect-requires c =
    let first = sym (subst (λ (all : List Slot). Some c.in-Some.slot ≡ position is_none (seats_of all)) c.deref.ensures.value c.in-Some.ensures) in
    (lowest_is_free c.self.inside.slots.items c.in-Some.slot c.index_mut.result.now first c.index_mut.ensures.value).1

pub invariant_of-self-in_err-connect : goal.invariant_of-self-in_err-connect
invariant_of-self-in_err-connect c =
    let first = sym (subst (λ (all : List Slot). Some c.in-Some.slot ≡ position is_none (seats_of all)) c.deref.ensures.value c.in-Some.ensures) in
    let free = lowest_is_free c.self.inside.slots.items c.in-Some.slot c.index_mut.result.now first c.index_mut.ensures.value in
    kept_same c.self.invariant (still_free c.self.inside.slots.items c.in-Some.slot c.index_mut.result.now c.connect.new.self free.0 free.1 c.in_err-connect.ensures.err)
    (length-set c.self.inside.slots.items c.in-Some.slot c.connect.new.self) c.make_room.ensures.items c.make_room.ensures.room

pub returns-in_err-connect-clause-err : goal.returns-in_err-connect-clause-err
returns-in_err-connect-clause-err c =
    let first = sym (subst (λ (all : List Slot). Some c.in-Some.slot ≡ position is_none (seats_of all)) c.deref.ensures.value c.in-Some.ensures) in
    let free = lowest_is_free c.self.inside.slots.items c.in-Some.slot c.index_mut.result.now first c.index_mut.ensures.value in
    let seats = still_free c.self.inside.slots.items c.in-Some.slot c.index_mut.result.now c.connect.new.self free.0 free.1 c.in_err-connect.ensures.err in
    let items = c.make_room.ensures.items in
    on_err _ _ (roll_same (the_view c.self.inside) _ _ seats items ∙ c.self.view_is)

pub invariant_of-self-2 : goal.invariant_of-self-2
invariant_of-self-2 c =
    let first = sym (subst (λ (all : List Slot). Some c.in-Some.slot ≡ position is_none (seats_of all)) c.deref.ensures.value c.in-Some.ensures) in
    let free = lowest_is_free c.self.inside.slots.items c.in-Some.slot c.index_mut.result.now first c.index_mut.ensures.value in
    let conn : ConnId = record { slot = c.in-Some.slot; serial = c.self.inside.serials + 1 } in
    let kept = kept_same c.self.invariant refl refl c.make_room.ensures.items c.make_room.ensures.room in
    kept_connected kept c.in-Some.slot c.index_mut.result.now c.connect.new.self conn free.0 free.1 c.in_ok-connect.ensures.ok.0 c.in_ok-connect.ensures.ok.1 refl refl c.in_ok-make_room.ensures.enough

pub returns-clause-ok : goal.returns-clause-ok
returns-clause-ok c =
    let first = sym (subst (λ (all : List Slot). Some c.in-Some.slot ≡ position is_none (seats_of all)) c.deref.ensures.value c.in-Some.ensures) in
    let seats =
    seats_of_set c.self.inside.slots.items c.in-Some.slot c.connect.new.self
    ∙ ap (set (seats_of c.self.inside.slots.items) c.in-Some.slot) (record_held c.connect.new.self c.in_ok-connect.ensures.ok.0) in
    let items = c.make_room.ensures.items in
    let after = roll_after (the_view c.self.inside) _ _ _ (c.self.inside.serials + 1) seats items in
    connects_is _ _ _ _ c.self.view_is
    (record { slot = first; serial = refl; seat = (c.connect.new.self.seat, c.in_ok-connect.ensures.ok.1, after) })
