use Rattle.std.proofs.Common.{◌≡◌, ◌+◌, [], length, set, Some, None, ap, ◌∙◌, arith}
use Rattle.std.proofs.lemmas.List.{length_push}
use Rattle.rdb_base.specs.declared.identity.Phase.TheVariants as phase
use Rattle.rdb_registry.specs.declared.seat.Seat.{Seat}
use Rattle.rdb_registry.specs.Registry.{Roll}
use Rattle.rdb_cells.specs.Records.{Record}
use Rattle.rdb_transactions.specs.Claims.{places_of, writes_of}
use Rattle.rdb_transactions.proofs.EditLemmas.{of_held, stands}
use Rattle.rdb_transactions.proofs.PhaseLemmas.{in_its_phase, unmarked_none, idle_writes}
use Rattle.rdb_transactions.proofs.SoundLemmas.{sound_set, slot_there, orderly_of, claimed_by_seat, places_some, places_at}
use Rattle.rdb_transactions.proofs.transactions.Transactions.close.Goals as goal

pub enter-requires-clause-claimed : goal.enter-requires-clause-claimed
enter-requires-clause-claimed c =
    let before = c.args.self.now in
    let there = of_held before.registry.seats c.args.c (λ (seat : Seat). seat.hand.phase ≡ phase.Idle) c.requires.idle in
    let both = claimed_by_seat [] before c.args.c there.0 c.requires.sound there.1.0 in
    let places = both.places in
    let some = places_some there.0 in
    record { place = omega arith; entries = omega arith; writes = omega arith; story = omega arith }

pub returns-clause-sound : goal.returns-clause-sound
returns-clause-sound c =
    let before = c.args.self.now in
    let there = of_held before.registry.seats c.args.c (λ (seat : Seat). seat.hand.phase ≡ phase.Idle) c.requires.idle in
    let o = orderly_of [] before c.args.c there.0 c.requires.sound there.1.0 in
    let idle = in_its_phase (length before.journal.entries) there.0 phase.Idle o there.1.1 in
    let one : places_of there.0 ≡ 1 = places_at there.0 _ (unmarked_none there.0 idle.transaction) in
    let no_writes : writes_of there.0 ≡ 0 = idle_writes there.0 idle in
    let claimed = c.enter.ensures.claimed in
    let writes = c.enter.ensures.writes in
    let longer : length c.enter.new.self.journal.entries ≡ length before.journal.entries + 1 = ap length c.enter.ensures.entries ∙ length_push before.journal.entries _ in
    sound_set [] [] before _ c.args.c.slot (Some there.0) None c.requires.sound
    (slot_there before.registry.seats c.args.c.slot there.0 (stands before.registry.seats c.args.c there.0 there.1.0).there)
    (ap (λ (r : Roll). r.seats) c.free.ensures ∙ ap (λ (r : Roll). set r.seats c.args.c.slot None) c.enter.ensures.registry)
    (λ seat e. let no : None ≡ Some seat = e in absurd cc)
    (omega (arith, one, claimed)) (omega (arith, no_writes, writes)) c.enter.ensures.room (omega (arith, longer))
    (ap (λ (r : Record). r.pairs) c.enter.ensures.spare ∙ c.requires.sound.spare)
