use Rattle.std.proofs.Common.{[], subst}
use Rattle.rdb_base.specs.declared.identity.EventPlace.{EventPlace}
use Rattle.rdb_answers.proofs.CallLemmas.{place_is}
use Rattle.rdb_history.specs.Watches.{watch_place}
use Rattle.rdb_transactions.specs.Hands.{with_watch}
use Rattle.rdb_transactions.specs.Moves.{Moves}
use Rattle.rdb_transactions.specs.Records.{on_hand}
use Rattle.rdb_answers.proofs.events.watch_live.Goals as goal

pub returns-in-Ok-clause-answer : goal.returns-in-Ok-clause-answer
returns-in-Ok-clause-answer c =
    let before = c.args.t.now in
    record {
      live = c.requires.live;
      commits_are = c.commits-at.ensures;
      moves =
          subst (λ (p : EventPlace). Moves before c.add_watch.new.self c.args.c (on_hand (with_watch (record { class = c.args.class; event = c.args.event; place = p }))) [])
          (place_is c.watch_place.result (watch_place c.commits-at.result) c.watch_place.ensures) c.in-Ok.ensures.ok;
      spare = c.add_watch.ensures.spare;
    }
