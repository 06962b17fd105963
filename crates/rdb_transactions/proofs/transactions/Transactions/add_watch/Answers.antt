use Rattle.std.proofs.Common.{◌≡◌, ◌∷◌, ◌++◌, [], length, refl}
use Rattle.rdb_base.specs.declared.identity.Phase.TheVariants as phase
use Rattle.rdb_registry.specs.declared.seat.Seat.{Seat}
use Rattle.rdb_transactions.specs.Hands.{with_watch}
use Rattle.rdb_transactions.specs.Records.{on_hand}
use Rattle.rdb_transactions.proofs.EditLemmas.{of_held, seats_edited}
use Rattle.rdb_transactions.proofs.PhaseLemmas.{watching_orderly}
use Rattle.rdb_transactions.proofs.SoundLemmas.{sound_still, sound_unchanged, orderly_of, ok_or_err}
use Rattle.rdb_transactions.proofs.transactions.Transactions.add_watch.Goals as goal

pub returns-clause-sound : goal.returns-clause-sound
returns-clause-sound c =
    let before = c.args.self.now in
    let there = of_held before.registry.seats c.args.c (λ (seat : Seat). seat.hand.phase ≡ phase.Idle) c.requires.idle in
    ok_or_err c.push_watch.result c.push_watch.ensures.ok c.push_watch.ensures.err
    (λ e. sound_still before c.push_watch.new.registry c.args.c there.0 (on_hand (with_watch c.args.watch)) c.requires.sound there.1.0
    (seats_edited before.registry c.push_watch.new.registry c.args.c.slot (on_hand (with_watch c.args.watch)) e)
    (watching_orderly (length before.journal.entries) (there.0.hand.subscriptions ++ c.args.watch ∷ []) there.0 (orderly_of [] before c.args.c there.0 c.requires.sound there.1.0) there.1.1) refl refl)
    (λ e. sound_unchanged before c.push_watch.new.registry c.requires.sound e)
