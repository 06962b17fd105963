use Rattle.std.proofs.Common.{◌+◌, [], length, refl, sym, ap, subst, arith}
use Rattle.rdb_base.specs.declared.identity.Phase.TheVariants as phase
use Rattle.rdb_registry.specs.declared.seat.Seat.{Seat}
use Rattle.rdb_transactions.specs.Hands.{given_up, rolling_back}
use Rattle.rdb_transactions.specs.Phases.{IsUnmarked}
use Rattle.rdb_transactions.specs.Records.{on_hand, unlatched, rolls_back}
use Rattle.rdb_transactions.proofs.EditLemmas.{of_held, is_held, same_seat, seats_edited, then_edited, held_edited}
use Rattle.rdb_transactions.proofs.PhaseLemmas.{orderly_in, rolls_back_phase, rolls_back_claims, rolls_back_begun, unlatched_conn}
use Rattle.rdb_transactions.proofs.SoundLemmas.{sound_edit, orderly_of, claimed_by_seat, nothing_more}
use Rattle.rdb_transactions.proofs.transactions.Transactions.begin_roll_back.Goals as goal

pub overflow_sub-self : goal.overflow_sub-self
overflow_sub-self c =
    let before = c.args.self.now in
    let seat = c.seat.result.now in
    let both = claimed_by_seat [] before c.args.c seat c.requires.sound c.seat.ensures in
    let writes = both.writes in
    let value = c.writes_in_work.ensures.value in
    omega (arith, writes, value)

pub leave_class-requires : goal.leave_class-requires
leave_class-requires c =
    let before = c.args.self.now in
    held_edited before.registry c.give_up_work.new.registry c.args.c (on_hand given_up) (λ s. refl) c.give_up_work.ensures
    (is_held before.registry.seats c.args.c IsUnmarked c.requires.opened)

pub roll_back_for-requires : goal.roll_back_for-requires
roll_back_for-requires c =
    let before = c.args.self.now in
    held_edited c.give_up_work.new.registry c.leave_class.new.registry c.args.c (unlatched before.manager) (λ s. unlatched_conn before.manager s) c.leave_class.ensures
    (held_edited before.registry c.give_up_work.new.registry c.args.c (on_hand given_up) (λ s. refl) c.give_up_work.ensures
    (is_held before.registry.seats c.args.c IsUnmarked c.requires.opened))

pub returns-clause-moves : goal.returns-clause-moves
returns-clause-moves c =
    let before = c.args.self.now in
    record {
      manager = refl;
      registry =
          then_edited before.registry c.leave_class.new.registry c.roll_back_for.new.registry c.args.c.slot (λ (s : Seat). unlatched before.manager (on_hand given_up s)) (on_hand (rolling_back c.args.cause))
          (then_edited before.registry c.give_up_work.new.registry c.leave_class.new.registry c.args.c.slot (on_hand given_up) (unlatched before.manager) c.give_up_work.ensures c.leave_class.ensures)
          c.roll_back_for.ensures;
      entries = nothing_more before.journal.entries;
    }

pub returns-clause-sound : goal.returns-clause-sound
returns-clause-sound c =
    let before = c.args.self.now in
    let seat = c.seat.result.now in
    let there = of_held before.registry.seats c.args.c IsUnmarked c.requires.opened in
    let unmarked : IsUnmarked seat = subst IsUnmarked (same_seat before.registry.seats c.args.c there.0 seat there.1.0 c.seat.ensures) there.1.1 in
    let o = orderly_of [] before c.args.c seat c.requires.sound c.seat.ensures in
    let change = rolls_back before.manager c.args.cause in
    let both = claimed_by_seat [] before c.args.c seat c.requires.sound c.seat.ensures in
    let held = both.writes in
    let value = c.writes_in_work.ensures.value in
    let claims = rolls_back_claims before.manager c.args.cause seat in
    let places = claims.0 in
    let writes = claims.1 in
    let room = c.requires.sound.claims.room in
    let less = room.writes in
    sound_edit [] [] before _ c.args.c seat change c.requires.sound c.seat.ensures
    (seats_edited before.registry c.roll_back_for.new.registry c.args.c.slot change
    (then_edited before.registry c.leave_class.new.registry c.roll_back_for.new.registry c.args.c.slot (λ (s : Seat). unlatched before.manager (on_hand given_up s)) (on_hand (rolling_back c.args.cause))
    (then_edited before.registry c.give_up_work.new.registry c.leave_class.new.registry c.args.c.slot (on_hand given_up) (unlatched before.manager) c.give_up_work.ensures c.leave_class.ensures)
    c.roll_back_for.ensures))
    (orderly_in (length before.journal.entries) phase.RollingBack (change seat) refl (rolls_back_phase before.manager c.args.cause seat unmarked) (rolls_back_begun before.manager c.args.cause (length before.journal.entries) seat o.begun))
    (ap (λ n. before.claims.entries + n) (sym places)) (omega (arith, held, value, writes))
    (record { entries = room.entries; writes = omega (arith, less); limit = room.limit }) (omega arith) c.requires.sound.spare
