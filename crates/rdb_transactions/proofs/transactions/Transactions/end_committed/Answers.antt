use Rattle.std.proofs.Common.{◌≡◌, [], false, length, sym, ap, subst, ◌∙◌, arith}
use Rattle.rdb_base.specs.declared.identity.Phase.TheVariants as phase
use Rattle.rdb_cells.specs.Records.{Record}
use Rattle.rdb_history.specs.Kept.{Kept}
use Rattle.rdb_registry.specs.declared.seat.Seat.{Seat}
use Rattle.rdb_transactions.specs.declared.claims.Claims.{Claims}
use Rattle.rdb_transactions.specs.Claims.{HasRoom}
use Rattle.rdb_transactions.specs.Moves.{ends}
use Rattle.rdb_transactions.proofs.EditLemmas.{has_seat, seats_edited}
use Rattle.rdb_transactions.proofs.PhaseLemmas.{in_its_phase, closed_orderly, closed_writes, one_open, unmarked_stamping, stamping_mark, spare_empty}
use Rattle.rdb_transactions.proofs.SoundLemmas.{sound_edit, orderly_of, places_at}
use Rattle.rdb_transactions.proofs.transactions.Transactions.end_committed.Goals as goal

pub mark_in-commit-requires : goal.mark_in-commit-requires
mark_in-commit-requires c =
    let before = c.args.self.now in
    let seat = c.seat.result.now in
    let is = has_seat before.registry.seats c.args.c (λ (s : Seat). s.hand.phase ≡ phase.Stamping) seat c.requires.stamping c.seat.ensures in
    stamping_mark seat (in_its_phase (length before.journal.entries) seat phase.Stamping (orderly_of [] before c.args.c seat c.requires.sound c.seat.ensures) is)

pub returns-clause-sound : goal.returns-clause-sound
returns-clause-sound c =
    let before = c.args.self.now in
    let after = c.close_transaction.new.self in
    let seat = c.seat.result.now in
    let is = has_seat before.registry.seats c.args.c (λ (s : Seat). s.hand.phase ≡ phase.Stamping) seat c.requires.stamping c.seat.ensures in
    let o = orderly_of [] before c.args.c seat c.requires.sound c.seat.ensures in
    let stamping = in_its_phase (length before.journal.entries) seat phase.Stamping o is in
    let unmarked = one_open seat false (unmarked_stamping seat stamping) in
    let was = places_at seat _ (unmarked_stamping seat stamping) in
    let begun = o.begun in
    let same : length after.journal.entries ≡ length before.journal.entries = ap (λ (k : Kept). length k.entries) c.close_transaction.ensures.journal in
    let claims : after.claims.entries ≡ before.claims.entries = ap (λ (x : Claims). x.entries) c.close_transaction.ensures.claims in
    let written : after.claims.writes ≡ before.claims.writes = ap (λ (x : Claims). x.writes) c.close_transaction.ensures.claims in
    let writes = closed_writes before.manager before.spare_undo seat in
    sound_edit [] [] before after c.args.c seat (ends before) c.requires.sound c.seat.ensures
    (seats_edited before.registry after.registry c.args.c.slot (ends before) c.close_transaction.ensures.moves.registry)
    (closed_orderly before.manager before.spare_undo (length after.journal.entries) seat stamping.work stamping.plan stamping.undo c.requires.sound.spare stamping.done (omega (arith, unmarked, begun, same)))
    (omega (arith, was, claims)) (omega (arith, written, writes))
    (subst (λ (k : Kept). HasRoom after.claims k) (sym c.close_transaction.ensures.journal) (subst (λ (x : Claims). HasRoom x before.journal) (sym c.close_transaction.ensures.claims) c.requires.sound.claims.room))
    (omega (arith, same))
    (ap (λ (u : Record). u.pairs) (c.close_transaction.ensures.spare seat c.seat.ensures) ∙ spare_empty before.manager before.spare_undo seat c.requires.sound.spare stamping.undo)
