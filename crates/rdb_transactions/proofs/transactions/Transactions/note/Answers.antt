use Rattle.std.proofs.Common.{◌≡◌, [], length, refl}
use Rattle.rdb_base.specs.declared.identity.Kind.{Kind}
use Rattle.rdb_base.specs.declared.identity.Phase.TheVariants as phase
use Rattle.rdb_registry.specs.declared.seat.Seat.{Seat}
use Rattle.rdb_transactions.specs.Hands.{noted}
use Rattle.rdb_transactions.specs.Records.{on_hand}
use Rattle.rdb_transactions.proofs.EditLemmas.{of_held, seats_edited}
use Rattle.rdb_transactions.proofs.PhaseLemmas.{in_its_phase, orderly_in, noted_phase, noted_writes}
use Rattle.rdb_transactions.proofs.SoundLemmas.{sound_still, sound_unchanged, orderly_of, ok_or_err}
use Rattle.rdb_transactions.proofs.transactions.Transactions.note.Goals as goal

pub returns-clause-sound : goal.returns-clause-sound
returns-clause-sound c =
    let before = c.args.self.now in
    let change = on_hand (noted c.args.op c.args.reply) in
    let there = of_held before.registry.seats c.args.c (λ (seat : Seat). (kind : Kind) × (seat.hand.phase ≡ phase.Running kind)) c.requires.running in
    let kind = there.1.1.0 in
    let is = there.1.1.1 in
    let o = orderly_of [] before c.args.c there.0 c.requires.sound there.1.0 in
    ok_or_err c.append_done.result c.append_done.ensures.ok c.append_done.ensures.err
    (λ e. sound_still before c.append_done.new.registry c.args.c there.0 change c.requires.sound there.1.0
    (seats_edited before.registry c.append_done.new.registry c.args.c.slot change e)
    (orderly_in (length before.journal.entries) (phase.Running kind) (change there.0) is
    (noted_phase kind c.args.op c.args.reply there.0 c.requires.read (in_its_phase (length before.journal.entries) there.0 (phase.Running kind) o is)) o.begun)
    refl (noted_writes c.args.op c.args.reply there.0 c.requires.read))
    (λ e. sound_unchanged before c.append_done.new.registry c.requires.sound e)
