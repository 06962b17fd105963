use Rattle.std.proofs.Common.{◌≡◌, ◌∷◌, [], refl, sym, subst, ◌∙◌}
use Rattle.rdb_base.specs.declared.identity.Manager.{Manager}
use Rattle.rdb_base.specs.declared.identity.Phase.TheVariants as phase
use Rattle.rdb_base.specs.declared.journal.Cause.TheVariants as cause
use Rattle.rdb_base.specs.declared.journal.Entry.TheVariants as entry
use Rattle.rdb_base.specs.declared.journal.Story.{Story}
use Rattle.rdb_cells.specs.Records.{Record}
use Rattle.rdb_registry.specs.declared.seat.Seat.{Seat}
use Rattle.rdb_answers.specs.Ends.{IsClean}
use Rattle.rdb_answers.proofs.CallLemmas.{moves_two, running_unmarked, on_true, on_false, rolls_plan, rolls_undo, rolls_conn, rolls_transaction, rolls_story}
use Rattle.rdb_answers.proofs.CommitLemmas.{ends_alike}
use Rattle.rdb_transactions.specs.Hands.{without_story}
use Rattle.rdb_transactions.specs.Moves.{Moves, ends_with_story}
use Rattle.rdb_transactions.specs.Records.{on_hand, rolls_back, spare_left}
use Rattle.rdb_transactions.proofs.EditLemmas.{has_from, same_seat, seat_edited}
use Rattle.rdb_answers.proofs.closing.roll_back_live.Goals as goal

pub begin_roll_back-requires-clause-opened : goal.begin_roll_back-requires-clause-opened
begin_roll_back-requires-clause-opened c = running_unmarked c.args.t.now c.args.c [] c.requires.sound c.requires.running

pub end_rolled_back-requires-clause-rolling_back : goal.end_rolled_back-requires-clause-rolling_back
end_rolled_back-requires-clause-rolling_back c =
    let before = c.args.t.now in
    let rolls = rolls_back before.manager cause.Asked in
    let at = seat_edited before.registry c.begin_roll_back.new.self.registry c.args.c rolls c.seat.result.now (λ s. rolls_conn before.manager cause.Asked s) c.begin_roll_back.ensures.moves.registry c.seat.ensures in
    has_from c.begin_roll_back.new.self.registry.seats c.args.c (λ (s : Seat). s.hand.phase ≡ phase.RollingBack) (rolls c.seat.result.now) at refl

pub end_rolled_back-requires-clause-planned : goal.end_rolled_back-requires-clause-planned
end_rolled_back-requires-clause-planned c =
    let before = c.args.t.now in
    let rolls = rolls_back before.manager cause.Asked in
    let at = seat_edited before.registry c.begin_roll_back.new.self.registry c.args.c rolls c.seat.result.now (λ s. rolls_conn before.manager cause.Asked s) c.begin_roll_back.ensures.moves.registry c.seat.ensures in
    has_from c.begin_roll_back.new.self.registry.seats c.args.c (λ (s : Seat). s.hand.plan.pairs ≡ []) (rolls c.seat.result.now) at (rolls_plan before.manager cause.Asked c.seat.result.now)

pub end_rolled_back-requires-clause-logged : goal.end_rolled_back-requires-clause-logged
end_rolled_back-requires-clause-logged c =
    let before = c.args.t.now in
    let rolls = rolls_back before.manager cause.Asked in
    let clean = on_true c.is_clean-clean.result c.if-clean.true c.is_clean-clean.ensures.yes in
    let at = seat_edited before.registry c.begin_roll_back.new.self.registry c.args.c rolls c.seat.result.now (λ s. rolls_conn before.manager cause.Asked s) c.begin_roll_back.ensures.moves.registry c.seat.ensures in
    has_from c.begin_roll_back.new.self.registry.seats c.args.c (λ (s : Seat). s.hand.undo.pairs ≡ []) (rolls c.seat.result.now) at (rolls_undo before.manager cause.Asked c.seat.result.now ∙ clean.0)

pub returns-then-clean-clause-answer : goal.returns-then-clean-clause-answer
returns-then-clean-clause-answer c =
    let before = c.args.t.now in
    let rolling = c.begin_roll_back.new.self in
    let after = c.end_rolled_back.new.self in
    let rolls = rolls_back before.manager cause.Asked in
    let clean = on_true c.is_clean-clean.result c.if-clean.true c.is_clean-clean.ensures.yes in
    record {
      live = c.requires.live;
      clean = λ seat t at opened. subst IsClean (same_seat before.registry.seats c.args.c c.seat.result.now seat c.seat.ensures at) clean;
      moves = λ seat t at opened.
          let there = seat_edited before.registry rolling.registry c.args.c rolls seat (λ s. rolls_conn before.manager cause.Asked s) c.begin_roll_back.ensures.moves.registry at in
          let told = c.end_rolled_back.ensures.moves (rolls seat) t cause.Asked there (rolls_transaction before.manager cause.Asked seat ∙ opened) refl in
          subst (λ (s : Story). Moves before after c.args.c (λ x. ends_with_story before (rolls x)) (entry.Abort s cause.Asked ∷ [])) (rolls_story before.manager cause.Asked c.args.c t seat)
          (ends_alike before rolling after c.args.c (λ x. on_hand without_story (rolls x)) _ c.begin_roll_back.ensures.moves.manager c.begin_roll_back.ensures.spare
          (moves_two before rolling after c.args.c rolls (ends_with_story rolling) [] _ c.begin_roll_back.ensures.moves told));
      spare = λ seat at.
          let there = seat_edited before.registry rolling.registry c.args.c rolls seat (λ s. rolls_conn before.manager cause.Asked s) c.begin_roll_back.ensures.moves.registry at in
          let told = c.end_rolled_back.ensures.spare (rolls seat) there in
          subst (λ (m : Manager). after.spare_undo ≡ spare_left m before.spare_undo (rolls seat)) c.begin_roll_back.ensures.moves.manager
          (subst (λ (u : Record). after.spare_undo ≡ spare_left rolling.manager u (rolls seat)) c.begin_roll_back.ensures.spare told);
    }

pub returns-else-clean-clause-answer : goal.returns-else-clean-clause-answer
returns-else-clean-clause-answer c =
    let before = c.args.t.now in
    let unclean = on_false c.is_clean-clean.result c.if-clean.false c.is_clean-clean.ensures.no in
    record {
      live = c.requires.live;
      unclean = λ seat t at opened clean. unclean (subst IsClean (sym (same_seat before.registry.seats c.args.c c.seat.result.now seat c.seat.ensures at)) clean);
      moves = c.begin_roll_back.ensures.moves;
      spare = c.begin_roll_back.ensures.spare;
    }
