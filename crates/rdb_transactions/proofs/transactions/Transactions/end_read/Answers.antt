use Rattle.std.proofs.Common.{◌≡◌, ◌∷◌, [], true, length, IsSome, IsSomeAnd, Option, refl, sym, ap, subst, ◌∙◌, arith}
use Rattle.rdb_base.specs.declared.identity.Kind.TheVariants as kind
use Rattle.rdb_base.specs.declared.identity.Phase.TheVariants as phase
use Rattle.rdb_base.specs.declared.journal.Entry.TheVariants as entry
use Rattle.rdb_base.specs.declared.journal.Story.{Story}
use Rattle.rdb_registry.specs.declared.seat.Seat.{Seat}
use Rattle.rdb_registry.specs.declared.seat.Transaction.{Transaction}
use Rattle.rdb_registry.specs.Registry.{Roll}
use Rattle.rdb_registry.specs.Seats.{seat_of}
use Rattle.rdb_registry.proofs.SlotLemmas.{some_of}
use Rattle.rdb_transactions.specs.Hands.{without_story}
use Rattle.rdb_transactions.specs.Records.{on_hand, story_in}
use Rattle.rdb_transactions.specs.Moves.{ends_with_story, Moves}
use Rattle.rdb_transactions.proofs.EditLemmas.{of_held, has_from, seat_edited}
use Rattle.rdb_transactions.proofs.EndingLemmas.{MayEnd, ends_story}
use Rattle.rdb_transactions.proofs.PhaseLemmas.{in_its_phase, one_open, unmarked_of, unmarked_kind, reading_open, reader_not_single, spare_left_not}
use Rattle.rdb_transactions.proofs.SoundLemmas.{orderly_of, covers_story}
use Rattle.rdb_transactions.proofs.transactions.Transactions.end_read.Goals as goal

pub story_of-story-requires-clause-opened : goal.story_of-story-requires-clause-opened
story_of-story-requires-clause-opened c =
    let before = c.args.self.now in
    let there = of_held before.registry.seats c.args.c (λ (s : Seat). s.hand.phase ≡ phase.Running kind.ReadOnly) c.requires.reading in
    let o = orderly_of [] before c.args.c there.0 c.requires.sound there.1.0 in
    let is = in_its_phase (length before.journal.entries) there.0 (phase.Running kind.ReadOnly) o there.1.1 in
    has_from before.registry.seats c.args.c (λ (s : Seat). IsSome s.transaction) there.0 there.1.0 (reading_open there.0 is)

pub enter-requires-clause-claimed : goal.enter-requires-clause-claimed
enter-requires-clause-claimed c =
    let before = c.args.self.now in
    let there = of_held before.registry.seats c.args.c (λ (s : Seat). s.hand.phase ≡ phase.Running kind.ReadOnly) c.requires.reading in
    let o = orderly_of [] before c.args.c there.0 c.requires.sound there.1.0 in
    let is = in_its_phase (length before.journal.entries) there.0 (phase.Running kind.ReadOnly) o there.1.1 in
    covers_story c.story_of-story.result.done c.story_of-story.new.self c.args.c (on_hand without_story there.0) c.claimed_by-given.result (entry.Read c.story_of-story.result) c.story_of-story.ensures.sound
    (seat_edited before.registry c.story_of-story.new.self.registry c.args.c (on_hand without_story) there.0 (λ x. refl) c.story_of-story.ensures.moves.registry there.1.0)
    c.claimed_by-given.ensures (omega arith)

pub close_transaction-requires : goal.close_transaction-requires
close_transaction-requires c =
    let before = c.args.self.now in
    let there = of_held before.registry.seats c.args.c (λ (s : Seat). s.hand.phase ≡ phase.Running kind.ReadOnly) c.requires.reading in
    let o = orderly_of [] before c.args.c there.0 c.requires.sound there.1.0 in
    let is = in_its_phase (length before.journal.entries) there.0 (phase.Running kind.ReadOnly) o there.1.1 in
    let at1 = seat_edited before.registry c.story_of-story.new.self.registry c.args.c (on_hand without_story) there.0 (λ x. refl) c.story_of-story.ensures.moves.registry there.1.0 in
    has_from c.enter.new.self.registry.seats c.args.c (λ (s : Seat). IsSome s.transaction) (on_hand without_story there.0)
    (ap (λ (r : Roll). seat_of r.seats c.args.c) c.enter.ensures.registry ∙ at1) (reading_open there.0 is)

pub returns-clause-moves : goal.returns-clause-moves
returns-clause-moves c seat t at opened =
    let before = c.args.self.now in
    let there = of_held before.registry.seats c.args.c (λ (s : Seat). s.hand.phase ≡ phase.Running kind.ReadOnly) c.requires.reading in
    let o = orderly_of [] before c.args.c there.0 c.requires.sound there.1.0 in
    let is = in_its_phase (length before.journal.entries) there.0 (phase.Running kind.ReadOnly) o there.1.1 in
    let unmarked = unmarked_of there.0 (unmarked_kind there.0 kind.ReadOnly is.transaction) in
    let one = one_open there.0 true unmarked in
    let begun = o.begun in
    let may : MayEnd (length before.journal.entries) there.0 = record {
      unmarked = unmarked;
      work = is.rest.work;
      plan = is.rest.plan;
      undo = is.rest.undo;
      begun = omega (arith, one, begun);
    } in
    let ended = ends_story before c.story_of-story.new.self c.enter.new.self c.close_transaction.new.self c.args.c c.story_of-story.result.done (entry.Read c.story_of-story.result) c.claimed_by-given.result there.0 there.1.0 may
    (record {
      sound = c.story_of-story.ensures.sound;
      moves_out = c.story_of-story.ensures.moves;
      spare = c.story_of-story.ensures.spare;
      enters = c.enter.ensures;
      given_is = c.claimed_by-given.ensures;
      closes = c.close_transaction.ensures.moves;
      exchanges = c.close_transaction.ensures.spare;
      journal = c.close_transaction.ensures.journal;
      claims = c.close_transaction.ensures.claims;
    }) in
    subst (λ (s : Story). Moves before c.close_transaction.new.self c.args.c (ends_with_story before) (entry.Read s ∷ [])) (c.story_of-story.ensures.story seat t at opened) ended.moves

pub returns-clause-snapshot : goal.returns-clause-snapshot
returns-clause-snapshot c =
    let before = c.args.self.now in
    let there = of_held before.registry.seats c.args.c (λ (s : Seat). s.hand.phase ≡ phase.Running kind.ReadOnly) c.requires.reading in
    let o = orderly_of [] before c.args.c there.0 c.requires.sound there.1.0 in
    let is = in_its_phase (length before.journal.entries) there.0 (phase.Running kind.ReadOnly) o there.1.1 in
    let opened = some_of there.0.transaction (reading_open there.0 is) in
    let told : c.story_of-story.result ≡ story_in c.args.c opened.0 there.0.hand = c.story_of-story.ensures.story there.0 opened.0 there.1.0 opened.1 in
    let snapshot : opened.0.snapshot ≡ c.story_of-story.result.snapshot = sym (ap (λ (s : Story). s.snapshot) told) in
    has_from before.registry.seats c.args.c (λ (s : Seat). IsSomeAnd s.transaction (λ t. t.snapshot ≡ c.story_of-story.result.snapshot)) there.0 there.1.0
    (subst (λ (o : Option Transaction). IsSomeAnd o (λ t. t.snapshot ≡ c.story_of-story.result.snapshot)) (sym opened.1) snapshot)

pub returns-clause-spare : goal.returns-clause-spare
returns-clause-spare c =
    let before = c.args.self.now in
    let there = of_held before.registry.seats c.args.c (λ (s : Seat). s.hand.phase ≡ phase.Running kind.ReadOnly) c.requires.reading in
    let o = orderly_of [] before c.args.c there.0 c.requires.sound there.1.0 in
    let is = in_its_phase (length before.journal.entries) there.0 (phase.Running kind.ReadOnly) o there.1.1 in
    let unmarked = unmarked_of there.0 (unmarked_kind there.0 kind.ReadOnly is.transaction) in
    let one = one_open there.0 true unmarked in
    let begun = o.begun in
    let may : MayEnd (length before.journal.entries) there.0 = record {
      unmarked = unmarked;
      work = is.rest.work;
      plan = is.rest.plan;
      undo = is.rest.undo;
      begun = omega (arith, one, begun);
    } in
    let ended = ends_story before c.story_of-story.new.self c.enter.new.self c.close_transaction.new.self c.args.c c.story_of-story.result.done (entry.Read c.story_of-story.result) c.claimed_by-given.result there.0 there.1.0 may
    (record {
      sound = c.story_of-story.ensures.sound;
      moves_out = c.story_of-story.ensures.moves;
      spare = c.story_of-story.ensures.spare;
      enters = c.enter.ensures;
      given_is = c.claimed_by-given.ensures;
      closes = c.close_transaction.ensures.moves;
      exchanges = c.close_transaction.ensures.spare;
      journal = c.close_transaction.ensures.journal;
      claims = c.close_transaction.ensures.claims;
    }) in
    ended.spare ∙ spare_left_not before.manager before.spare_undo there.0 (reader_not_single before.manager there.0 is.transaction)

pub returns-clause-sound : goal.returns-clause-sound
returns-clause-sound c =
    let before = c.args.self.now in
    let there = of_held before.registry.seats c.args.c (λ (s : Seat). s.hand.phase ≡ phase.Running kind.ReadOnly) c.requires.reading in
    let o = orderly_of [] before c.args.c there.0 c.requires.sound there.1.0 in
    let is = in_its_phase (length before.journal.entries) there.0 (phase.Running kind.ReadOnly) o there.1.1 in
    let unmarked = unmarked_of there.0 (unmarked_kind there.0 kind.ReadOnly is.transaction) in
    let one = one_open there.0 true unmarked in
    let begun = o.begun in
    let may : MayEnd (length before.journal.entries) there.0 = record {
      unmarked = unmarked;
      work = is.rest.work;
      plan = is.rest.plan;
      undo = is.rest.undo;
      begun = omega (arith, one, begun);
    } in
    let ended = ends_story before c.story_of-story.new.self c.enter.new.self c.close_transaction.new.self c.args.c c.story_of-story.result.done (entry.Read c.story_of-story.result) c.claimed_by-given.result there.0 there.1.0 may
    (record {
      sound = c.story_of-story.ensures.sound;
      moves_out = c.story_of-story.ensures.moves;
      spare = c.story_of-story.ensures.spare;
      enters = c.enter.ensures;
      given_is = c.claimed_by-given.ensures;
      closes = c.close_transaction.ensures.moves;
      exchanges = c.close_transaction.ensures.spare;
      journal = c.close_transaction.ensures.journal;
      claims = c.close_transaction.ensures.claims;
    }) in
    ended.sound
