use Rattle.std.proofs.Common.{◌≡◌, ◌+◌, ◌^◌, ◌<◌, ◌≤◌, [], false, length, None, Option, IsSomeAnd, sym, ap, subst, ◌∙◌, arith}
use Rattle.rdb_base.specs.declared.identity.Phase.TheVariants as phase
use Rattle.rdb_model.specs.Journal.{commits}
use Rattle.rdb_history.specs.Kept.{Kept}
use Rattle.rdb_registry.specs.declared.seat.Seat.{Seat}
use Rattle.rdb_registry.specs.Registry.{Roll}
use Rattle.rdb_cells.specs.Records.{Record}
use Rattle.rdb_registry.specs.Seats.{seat_of, changed}
use Rattle.rdb_transactions.specs.declared.claims.Claims.{Claims}
use Rattle.rdb_transactions.specs.Claims.{HasRoom}
use Rattle.rdb_transactions.specs.Moves.{begins}
use Rattle.rdb_transactions.proofs.EditLemmas.{of_held, seats_edited}
use Rattle.rdb_transactions.proofs.OpeningLemmas.{spare_opened}
use Rattle.rdb_transactions.proofs.PhaseLemmas.{in_its_phase, one_open, unmarked_none, opened_orderly, opened_claiming}
use Rattle.rdb_transactions.proofs.SoundLemmas.{sound_edit, sound_same, orderly_of}
use Rattle.rdb_transactions.proofs.transactions.Transactions.open_transaction.Goals as goal

pub returns-in_err-claim_entry-clause-sound : goal.returns-in_err-claim_entry-clause-sound
returns-in_err-claim_entry-clause-sound c =
    sound_same [] c.args.self.now c.claim_entry.new.self c.requires.sound c.claim_entry.ensures.same c.in_err-claim_entry.ensures.err c.claim_entry.ensures.room

pub open_record-requires-clause-idle : goal.open_record-requires-clause-idle
open_record-requires-clause-idle c =
    let before = c.args.self.now in
    let there = of_held before.registry.seats c.args.c (λ (seat : Seat). seat.hand.phase ≡ phase.Idle) c.requires.idle in
    let idle = in_its_phase (length before.journal.entries) there.0 phase.Idle (orderly_of [] before c.args.c there.0 c.requires.sound there.1.0) there.1.1 in
    subst (λ (r : Roll). IsSomeAnd (seat_of r.seats c.args.c) (λ (seat : Seat). seat.transaction ≡ None)) (sym c.claim_entry.ensures.same.registry)
    (subst (λ (o : Option Seat). IsSomeAnd o (λ (seat : Seat). seat.transaction ≡ None)) (sym there.1.0) idle.transaction)

pub open_record-requires-clause-count : goal.open_record-requires-clause-count
open_record-requires-clause-count c =
    let before = c.args.self.now in
    let there = of_held before.registry.seats c.args.c (λ (seat : Seat). seat.hand.phase ≡ phase.Idle) c.requires.idle in
    let o = orderly_of [] before c.args.c there.0 c.requires.sound there.1.0 in
    let idle = in_its_phase (length before.journal.entries) there.0 phase.Idle o there.1.1 in
    let none = one_open there.0 false (unmarked_none there.0 idle.transaction) in
    let begun = o.begun in
    let limit = c.requires.sound.claims.room.limit in
    let few : there.0.begun + 1 < 2 ^ 64 = omega (arith, none, begun, limit) in
    subst (λ (r : Roll). IsSomeAnd (seat_of r.seats c.args.c) (λ (seat : Seat). seat.begun + 1 < 2 ^ 64)) (sym c.claim_entry.ensures.same.registry)
    (subst (λ (o : Option Seat). IsSomeAnd o (λ (seat : Seat). seat.begun + 1 < 2 ^ 64)) (sym there.1.0) few)

pub returns-clause-sound : goal.returns-clause-sound
returns-clause-sound c =
    let before = c.args.self.now in
    let claimed = c.claim_entry.new.self in
    let after = c.open_record.new.self in
    let there = of_held before.registry.seats c.args.c (λ (seat : Seat). seat.hand.phase ≡ phase.Idle) c.requires.idle in
    let o = orderly_of [] before c.args.c there.0 c.requires.sound there.1.0 in
    let idle = in_its_phase (length before.journal.entries) there.0 phase.Idle o there.1.1 in
    let none = one_open there.0 false (unmarked_none there.0 idle.transaction) in
    let begun : there.0.begun ≤ length before.journal.entries = let b = o.begun in omega (arith, none, b) in
    let spare = claimed.spare_undo in
    let change = begins claimed c.args.kind in
    let claiming = opened_claiming claimed.manager c.args.kind spare claimed.registry.classes (length claimed.journal.entries) (commits claimed.journal.entries) there.0 idle in
    let was = claiming.was in
    let now = claiming.now in
    let writes = claiming.writes in
    let same : length after.journal.entries ≡ length before.journal.entries =
    ap (λ (k : Kept). length k.entries) c.open_record.ensures.journal ∙ ap length c.claim_entry.ensures.same.entries in
    let claims : after.claims.entries ≡ before.claims.entries + 1 =
    ap (λ (x : Claims). x.entries) c.open_record.ensures.claims ∙ ap (λ (x : Claims). x.entries) c.in_ok-claim_entry.ensures.ok in
    let written : after.claims.writes ≡ before.claims.writes =
    ap (λ (x : Claims). x.writes) c.open_record.ensures.claims ∙ ap (λ (x : Claims). x.writes) c.in_ok-claim_entry.ensures.ok in
    sound_edit [] [] before after c.args.c there.0 change c.requires.sound there.1.0
    (seats_edited claimed.registry after.registry c.args.c.slot change c.open_record.ensures.moves.registry
    ∙ ap (λ (r : Roll). changed r.seats c.args.c.slot change) c.claim_entry.ensures.same.registry)
    (opened_orderly claimed.manager c.args.kind spare claimed.registry.classes (length claimed.journal.entries) (commits claimed.journal.entries) (length after.journal.entries) there.0 idle (omega (arith, begun, same)))
    (omega (arith, was, now, claims)) (omega (arith, writes, written))
    (subst (λ (k : Kept). HasRoom after.claims k) (sym c.open_record.ensures.journal) (subst (λ (x : Claims). HasRoom x claimed.journal) (sym c.open_record.ensures.claims) c.claim_entry.ensures.room))
    (omega (arith, same))
    (spare_opened claimed after c.args.c c.args.kind there.0
    (ap (λ (r : Roll). seat_of r.seats c.args.c) c.claim_entry.ensures.same.registry ∙ there.1.0) c.open_record.ensures.spare
    (ap (λ (u : Record). u.pairs) c.claim_entry.ensures.same.spare ∙ c.requires.sound.spare) idle.rest.undo)
