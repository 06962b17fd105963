use Rattle.std.proofs.Common.{◌≡◌, [], length, IsSome, refl, ap, arith}
use Rattle.rdb_registry.specs.declared.seat.Seat.{Seat}
use Rattle.rdb_transactions.specs.Claims.{writes_in}
use Rattle.rdb_transactions.specs.Hands.{without_story}
use Rattle.rdb_transactions.specs.Records.{on_hand}
use Rattle.rdb_transactions.proofs.EditLemmas.{of_held, has_seat, seats_edited}
use Rattle.rdb_transactions.proofs.PhaseLemmas.{storyless_orderly, storyless_writes}
use Rattle.rdb_transactions.proofs.SoundLemmas.{sound_edit, orderly_of}
use Rattle.rdb_transactions.proofs.transactions.Transactions.story_of.Goals as goal

pub returns-clause-sound : goal.returns-clause-sound
returns-clause-sound c =
    let before = c.args.self.now in
    let there = of_held before.registry.seats c.args.c (λ (seat : Seat). IsSome seat.transaction) c.requires.opened in
    let done = c.take_story-done.result in
    let is : done ≡ there.0.hand.done.items = has_seat before.registry.seats c.args.c (λ (seat : Seat). done ≡ seat.hand.done.items) there.0 c.take_story-done.ensures.done there.1.0 in
    let moved = storyless_writes there.0 in
    let same : writes_in done ≡ writes_in there.0.hand.done.items = ap writes_in is in
    sound_edit [] done before _ c.args.c there.0 (on_hand without_story) c.requires.sound there.1.0
    (seats_edited before.registry c.take_story-done.new.registry c.args.c.slot (on_hand without_story) c.take_story-done.ensures.registry)
    (storyless_orderly (length before.journal.entries) there.0 (orderly_of [] before c.args.c there.0 c.requires.sound there.1.0))
    refl (omega (arith, moved, same)) c.requires.sound.claims.room (omega arith) c.requires.sound.spare
