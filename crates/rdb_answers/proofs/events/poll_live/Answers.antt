use Rattle.std.proofs.Common.{◌<◌, ℕ, [], length, Some, None, refl, subst}
use Rattle.std.proofs.lemmas.Option.{slice_get_within}
use Rattle.rdb_base.specs.declared.identity.EventPlace.{EventPlace}
use Rattle.rdb_history.specs.Watches.{pair_of}
use Rattle.rdb_events.specs.NextEvent.{IsNextOf}
use Rattle.rdb_registry.specs.declared.seat.Seat.{Seat}
use Rattle.rdb_answers.specs.Watching.{IsWatchAmong, watching}
use Rattle.rdb_answers.proofs.CallLemmas.{has_map, watch_same}
use Rattle.rdb_transactions.specs.Hands.{with_watch_at}
use Rattle.rdb_transactions.specs.Moves.{Moves}
use Rattle.rdb_transactions.specs.Records.{on_hand}
use Rattle.rdb_transactions.proofs.EditLemmas.{has_seat}
use Rattle.rdb_answers.proofs.events.poll_live.Goals as goal

pub move_watch-requires-clause-place : goal.move_watch-requires-clause-place
move_watch-requires-clause-place c =
    let number = c.place_of_watch-number.result.0 in
    has_map c.args.t.now.registry.seats c.args.c (λ (s : Seat). IsWatchAmong c.args.class c.args.event s.hand.subscriptions number c.place_of_watch-number.result.1) (λ (s : Seat). number < length s.hand.subscriptions)
    (λ s w. slice_get_within s.hand.subscriptions number w.watch w.at) c.place_of_watch-number.ensures

pub returns-in-Some-clause-answer : goal.returns-in-Some-clause-answer
returns-in-Some-clause-answer c =
    let before = c.args.t.now in
    let number = c.place_of_watch-number.result.0 in
    let place = c.place_of_watch-number.result.1 in
    let commit = c.in-Some.found.commit in
    let id = c.in-Some.found.id in
    record {
      live = c.requires.live;
      next = λ seat k watch at found here.
          let w = has_seat before.registry.seats c.args.c (λ (s : Seat). IsWatchAmong c.args.class c.args.event s.hand.subscriptions number place) seat c.place_of_watch-number.ensures at in
          let same = watch_same c.args.class c.args.event seat.hand.subscriptions number place k watch w found here in
          subst (λ (p : EventPlace). IsNextOf c.args.schema.now c.args.class c.args.event before.journal.entries (pair_of p) (Some (commit, id))) same.1 c.in-Some.ensures.rows;
      moves = λ seat k watch at found here.
          let w = has_seat before.registry.seats c.args.c (λ (s : Seat). IsWatchAmong c.args.class c.args.event s.hand.subscriptions number place) seat c.place_of_watch-number.ensures at in
          let same = watch_same c.args.class c.args.event seat.hand.subscriptions number place k watch w found here in
          subst (λ (n : ℕ). Moves before c.move_watch.new.self c.args.c (on_hand (with_watch_at n (watching c.args.class c.args.event (commit, id)))) []) same.0 c.move_watch.ensures.moves;
      spare = c.move_watch.ensures.spare;
    }

pub returns-in-None-clause-answer : goal.returns-in-None-clause-answer
returns-in-None-clause-answer c =
    let before = c.args.t.now in
    let number = c.place_of_watch-number.result.0 in
    let place = c.place_of_watch-number.result.1 in
    record {
      live = c.requires.live;
      commits_are = c.commits-at.ensures;
      none = λ seat k watch at found here.
          let w = has_seat before.registry.seats c.args.c (λ (s : Seat). IsWatchAmong c.args.class c.args.event s.hand.subscriptions number place) seat c.place_of_watch-number.ensures at in
          let same = watch_same c.args.class c.args.event seat.hand.subscriptions number place k watch w found here in
          subst (λ (p : EventPlace). IsNextOf c.args.schema.now c.args.class c.args.event before.journal.entries (pair_of p) None) same.1 c.in-None.ensures.rows;
      same = refl;
    }
