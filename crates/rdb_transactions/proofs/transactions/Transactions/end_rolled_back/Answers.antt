use Rattle.std.proofs.Common.{◌≡◌, ◌∷◌, [], true, length, Some, IsSome, refl, sym, ap, subst, ◌∙◌, arith}
use Rattle.rdb_base.specs.declared.identity.Phase.TheVariants as phase
use Rattle.rdb_base.specs.declared.journal.Cause.{Cause}
use Rattle.rdb_base.specs.declared.journal.Entry.TheVariants as entry
use Rattle.rdb_base.specs.declared.journal.Story.{Story}
use Rattle.rdb_registry.specs.declared.seat.Seat.{Seat}
use Rattle.rdb_registry.specs.Registry.{Roll}
use Rattle.rdb_registry.specs.Seats.{seat_of}
use Rattle.rdb_transactions.specs.Hands.{without_story}
use Rattle.rdb_transactions.specs.Records.{on_hand, story_in, spare_left}
use Rattle.rdb_transactions.specs.Moves.{ends_with_story, Moves}
use Rattle.rdb_transactions.proofs.EditLemmas.{of_held, has_seat, has_from, seat_edited, same_seat}
use Rattle.rdb_transactions.proofs.EndingLemmas.{MayEnd, ends_story}
use Rattle.rdb_transactions.proofs.PhaseLemmas.{in_its_phase, one_open, unmarked_of, rolling_open}
use Rattle.rdb_transactions.proofs.SoundLemmas.{orderly_of, covers_story}
use Rattle.rdb_transactions.proofs.transactions.Transactions.end_rolled_back.Goals as goal

pub cause_in-cause-requires : goal.cause_in-cause-requires
cause_in-cause-requires c =
    let before = c.args.self.now in
    let seat = c.seat.result.now in
    let phase_is = has_seat before.registry.seats c.args.c (λ (s : Seat). s.hand.phase ≡ phase.RollingBack) seat c.requires.rolling_back c.seat.ensures in
    let is = in_its_phase (length before.journal.entries) seat phase.RollingBack (orderly_of [] before c.args.c seat c.requires.sound c.seat.ensures) phase_is in
    is.cause

pub story_of-story-requires-clause-opened : goal.story_of-story-requires-clause-opened
story_of-story-requires-clause-opened c =
    let before = c.args.self.now in
    let there = of_held before.registry.seats c.args.c (λ (s : Seat). s.hand.phase ≡ phase.RollingBack) c.requires.rolling_back in
    let o = orderly_of [] before c.args.c there.0 c.requires.sound there.1.0 in
    let is = in_its_phase (length before.journal.entries) there.0 phase.RollingBack o there.1.1 in
    has_from before.registry.seats c.args.c (λ (s : Seat). IsSome s.transaction) there.0 there.1.0 (rolling_open there.0 is)

pub enter-requires-clause-claimed : goal.enter-requires-clause-claimed
enter-requires-clause-claimed c =
    let before = c.args.self.now in
    let there = of_held before.registry.seats c.args.c (λ (s : Seat). s.hand.phase ≡ phase.RollingBack) c.requires.rolling_back in
    let o = orderly_of [] before c.args.c there.0 c.requires.sound there.1.0 in
    let is = in_its_phase (length before.journal.entries) there.0 phase.RollingBack o there.1.1 in
    covers_story c.story_of-story.result.done c.story_of-story.new.self c.args.c (on_hand without_story there.0) c.claimed_by-given.result (entry.Abort c.story_of-story.result c.cause_in-cause.result) c.story_of-story.ensures.sound
    (seat_edited before.registry c.story_of-story.new.self.registry c.args.c (on_hand without_story) there.0 (λ x. refl) c.story_of-story.ensures.moves.registry there.1.0)
    c.claimed_by-given.ensures (omega arith)

pub close_transaction-requires : goal.close_transaction-requires
close_transaction-requires c =
    let before = c.args.self.now in
    let there = of_held before.registry.seats c.args.c (λ (s : Seat). s.hand.phase ≡ phase.RollingBack) c.requires.rolling_back in
    let o = orderly_of [] before c.args.c there.0 c.requires.sound there.1.0 in
    let is = in_its_phase (length before.journal.entries) there.0 phase.RollingBack o there.1.1 in
    let at1 = seat_edited before.registry c.story_of-story.new.self.registry c.args.c (on_hand without_story) there.0 (λ x. refl) c.story_of-story.ensures.moves.registry there.1.0 in
    has_from c.enter.new.self.registry.seats c.args.c (λ (s : Seat). IsSome s.transaction) (on_hand without_story there.0)
    (ap (λ (r : Roll). seat_of r.seats c.args.c) c.enter.ensures.registry ∙ at1) (rolling_open there.0 is)

pub returns-clause-moves : goal.returns-clause-moves
returns-clause-moves c seat t cause at opened why =
    let before = c.args.self.now in
    let there = of_held before.registry.seats c.args.c (λ (s : Seat). s.hand.phase ≡ phase.RollingBack) c.requires.rolling_back in
    let o = orderly_of [] before c.args.c there.0 c.requires.sound there.1.0 in
    let is = in_its_phase (length before.journal.entries) there.0 phase.RollingBack o there.1.1 in
    let unmarked = unmarked_of there.0 (is.transaction) in
    let one = one_open there.0 true unmarked in
    let begun = o.begun in
    let may : MayEnd (length before.journal.entries) there.0 = record {
      unmarked = unmarked;
      work = is.work;
      plan = has_seat before.registry.seats c.args.c (λ (s : Seat). s.hand.plan.pairs ≡ []) there.0 c.requires.planned there.1.0;
      undo = has_seat before.registry.seats c.args.c (λ (s : Seat). s.hand.undo.pairs ≡ []) there.0 c.requires.logged there.1.0;
      begun = omega (arith, one, begun);
    } in
    let ended = ends_story before c.story_of-story.new.self c.enter.new.self c.close_transaction.new.self c.args.c c.story_of-story.result.done (entry.Abort c.story_of-story.result c.cause_in-cause.result) c.claimed_by-given.result there.0 there.1.0 may
    (record {
      sound = c.story_of-story.ensures.sound;
      moves_out = c.story_of-story.ensures.moves;
      spare = c.story_of-story.ensures.spare;
      enters = c.enter.ensures;
      given_is = c.claimed_by-given.ensures;
      closes = c.close_transaction.ensures.moves;
      exchanges = c.close_transaction.ensures.spare;
      journal = c.close_transaction.ensures.journal;
      claims = c.close_transaction.ensures.claims;
    }) in
    let own : there.0 ≡ seat = same_seat before.registry.seats c.args.c there.0 seat there.1.0 at in
    let found : c.seat.result.now ≡ seat = same_seat before.registry.seats c.args.c c.seat.result.now seat c.seat.ensures at in
    let two : Some c.cause_in-cause.result ≡ Some cause = sym c.cause_in-cause.ensures ∙ (ap (λ (s : Seat). s.hand.cause) found ∙ why) in
    let cause_is : c.cause_in-cause.result ≡ cause = cc in
    subst (λ (x : Cause). Moves before c.close_transaction.new.self c.args.c (ends_with_story before) (entry.Abort (story_in c.args.c t seat.hand) x ∷ [])) cause_is
    (subst (λ (s : Story). Moves before c.close_transaction.new.self c.args.c (ends_with_story before) (entry.Abort s c.cause_in-cause.result ∷ [])) (c.story_of-story.ensures.story seat t at opened) ended.moves)

pub returns-clause-spare : goal.returns-clause-spare
returns-clause-spare c seat at =
    let before = c.args.self.now in
    let there = of_held before.registry.seats c.args.c (λ (s : Seat). s.hand.phase ≡ phase.RollingBack) c.requires.rolling_back in
    let o = orderly_of [] before c.args.c there.0 c.requires.sound there.1.0 in
    let is = in_its_phase (length before.journal.entries) there.0 phase.RollingBack o there.1.1 in
    let unmarked = unmarked_of there.0 (is.transaction) in
    let one = one_open there.0 true unmarked in
    let begun = o.begun in
    let may : MayEnd (length before.journal.entries) there.0 = record {
      unmarked = unmarked;
      work = is.work;
      plan = has_seat before.registry.seats c.args.c (λ (s : Seat). s.hand.plan.pairs ≡ []) there.0 c.requires.planned there.1.0;
      undo = has_seat before.registry.seats c.args.c (λ (s : Seat). s.hand.undo.pairs ≡ []) there.0 c.requires.logged there.1.0;
      begun = omega (arith, one, begun);
    } in
    let ended = ends_story before c.story_of-story.new.self c.enter.new.self c.close_transaction.new.self c.args.c c.story_of-story.result.done (entry.Abort c.story_of-story.result c.cause_in-cause.result) c.claimed_by-given.result there.0 there.1.0 may
    (record {
      sound = c.story_of-story.ensures.sound;
      moves_out = c.story_of-story.ensures.moves;
      spare = c.story_of-story.ensures.spare;
      enters = c.enter.ensures;
      given_is = c.claimed_by-given.ensures;
      closes = c.close_transaction.ensures.moves;
      exchanges = c.close_transaction.ensures.spare;
      journal = c.close_transaction.ensures.journal;
      claims = c.close_transaction.ensures.claims;
    }) in
    subst (λ (s : Seat). c.close_transaction.new.self.spare_undo ≡ spare_left before.manager before.spare_undo s) (same_seat before.registry.seats c.args.c there.0 seat there.1.0 at) ended.spare

pub returns-clause-sound : goal.returns-clause-sound
returns-clause-sound c =
    let before = c.args.self.now in
    let there = of_held before.registry.seats c.args.c (λ (s : Seat). s.hand.phase ≡ phase.RollingBack) c.requires.rolling_back in
    let o = orderly_of [] before c.args.c there.0 c.requires.sound there.1.0 in
    let is = in_its_phase (length before.journal.entries) there.0 phase.RollingBack o there.1.1 in
    let unmarked = unmarked_of there.0 (is.transaction) in
    let one = one_open there.0 true unmarked in
    let begun = o.begun in
    let may : MayEnd (length before.journal.entries) there.0 = record {
      unmarked = unmarked;
      work = is.work;
      plan = has_seat before.registry.seats c.args.c (λ (s : Seat). s.hand.plan.pairs ≡ []) there.0 c.requires.planned there.1.0;
      undo = has_seat before.registry.seats c.args.c (λ (s : Seat). s.hand.undo.pairs ≡ []) there.0 c.requires.logged there.1.0;
      begun = omega (arith, one, begun);
    } in
    let ended = ends_story before c.story_of-story.new.self c.enter.new.self c.close_transaction.new.self c.args.c c.story_of-story.result.done (entry.Abort c.story_of-story.result c.cause_in-cause.result) c.claimed_by-given.result there.0 there.1.0 may
    (record {
      sound = c.story_of-story.ensures.sound;
      moves_out = c.story_of-story.ensures.moves;
      spare = c.story_of-story.ensures.spare;
      enters = c.enter.ensures;
      given_is = c.claimed_by-given.ensures;
      closes = c.close_transaction.ensures.moves;
      exchanges = c.close_transaction.ensures.spare;
      journal = c.close_transaction.ensures.journal;
      claims = c.close_transaction.ensures.claims;
    }) in
    ended.sound
