use Rattle.std.proofs.Common.{◌≡◌, ◌<◌, [], length, Some, None, sym, ap, arith}
use Rattle.rdb_registry.specs.Registry.{Roll}
use Rattle.rdb_transactions.specs.declared.claims.Claims.{Claims}
use Rattle.rdb_transactions.proofs.EditLemmas.{lowest_there}
use Rattle.rdb_transactions.proofs.PhaseLemmas.{new_orderly, new_claims}
use Rattle.rdb_transactions.proofs.SoundLemmas.{sound_set, sound_same, sound_unchanged}
use Rattle.rdb_transactions.proofs.transactions.Transactions.connect.Goals as goal

pub returns-in_err-make_entry_room-clause-sound : goal.returns-in_err-make_entry_room-clause-sound
returns-in_err-make_entry_room-clause-sound c =
    sound_same [] c.args.self.now c.make_entry_room.new.self c.requires c.make_entry_room.ensures.same c.make_entry_room.ensures.claims c.make_entry_room.ensures.room

pub returns-in_err-c-clause-sound : goal.returns-in_err-c-clause-sound
returns-in_err-c-clause-sound c =
    sound_unchanged c.make_entry_room.new.self c.connect.new.self
    (sound_same [] c.args.self.now c.make_entry_room.new.self c.requires c.make_entry_room.ensures.same c.make_entry_room.ensures.claims c.make_entry_room.ensures.room)
    c.in_err-c.ensures.err

pub returns-clause-sound : goal.returns-clause-sound
returns-clause-sound c =
    let made = c.make_entry_room.new.self in
    let s = sound_same [] c.args.self.now made c.requires c.make_entry_room.ensures.same c.make_entry_room.ensures.claims c.make_entry_room.ensures.room in
    let came = c.in_ok-c.ensures.ok in
    let claims = new_claims c.in_ok-c.c came.seat.0 came.seat.1 in
    let one = claims.0 in
    let no_writes = claims.1 in
    let room = c.make_entry_room.ensures.room in
    let same : made.claims.entries ≡ c.args.self.now.claims.entries = ap (λ (x : Claims). x.entries) c.make_entry_room.ensures.claims in
    let enough : made.claims.entries < made.journal.room = let e = c.in_ok-make_entry_room.ensures.enough in omega (arith, same, e) in
    sound_set [] [] made _ c.in_ok-c.c.slot None (Some came.seat.0) s (lowest_there made.registry.seats c.in_ok-c.c.slot came.slot)
    (ap (λ (r : Roll). r.seats) came.seat.2)
    (λ seat e. let is : came.seat.0 ≡ seat = cc in rw (sym is) (new_orderly (length made.journal.entries) c.in_ok-c.c came.seat.0 came.seat.1))
    (omega (arith, one)) (omega (arith, no_writes))
    (record { entries = omega (arith, enough); writes = room.writes; limit = room.limit })
    (omega arith) s.spare
