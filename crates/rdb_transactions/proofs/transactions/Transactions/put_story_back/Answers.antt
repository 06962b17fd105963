use Rattle.std.proofs.Common.{◌≡◌, [], length, refl, arith}
use Rattle.rdb_base.specs.declared.identity.Kind.TheVariants as kind
use Rattle.rdb_base.specs.declared.identity.Phase.TheVariants as phase
use Rattle.rdb_registry.specs.declared.seat.Seat.{Seat}
use Rattle.rdb_transactions.specs.Hands.{with_story}
use Rattle.rdb_transactions.specs.Records.{on_hand}
use Rattle.rdb_transactions.proofs.EditLemmas.{of_held, has_seat, seats_edited}
use Rattle.rdb_transactions.proofs.PhaseLemmas.{in_its_phase, orderly_in, with_story_phase, with_story_writes}
use Rattle.rdb_transactions.proofs.SoundLemmas.{sound_edit, orderly_of}
use Rattle.rdb_transactions.proofs.transactions.Transactions.put_story_back.Goals as goal

pub returns-clause-sound : goal.returns-clause-sound
returns-clause-sound c =
    let before = c.args.self.now in
    let done = c.args.story.done in
    let there = of_held before.registry.seats c.args.c (λ (seat : Seat). seat.hand.phase ≡ phase.Running kind.ReadWrite) c.requires.running in
    let empty = has_seat before.registry.seats c.args.c (λ (seat : Seat). seat.hand.done.items ≡ []) there.0 c.requires.empty there.1.0 in
    let o = orderly_of done before c.args.c there.0 c.requires.sound there.1.0 in
    let running = in_its_phase (length before.journal.entries) there.0 (phase.Running kind.ReadWrite) o there.1.1 in
    let moved = with_story_writes done there.0 empty in
    sound_edit done [] before _ c.args.c there.0 (on_hand (with_story done)) c.requires.sound there.1.0
    (seats_edited before.registry c.put_story.new.registry c.args.c.slot (on_hand (with_story done)) c.put_story.ensures)
    (orderly_in (length before.journal.entries) (phase.Running kind.ReadWrite) (on_hand (with_story done) there.0) there.1.1 (with_story_phase done there.0 running) o.begun)
    refl (omega (arith, moved)) c.requires.sound.claims.room (omega arith) c.requires.sound.spare
