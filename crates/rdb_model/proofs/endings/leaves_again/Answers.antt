-- Where leave was taken last, with one entry more.
use Rattle.std.proofs.Common.{false, is_some, ap, sym, ◌∙◌}
use Rattle.std.specs.Option.{option_map_or}
use Rattle.rdb_model.specs.Journal.{has_left_within}
use Rattle.rdb_model.proofs.EndingLemmas.{second_leave, last_leaves_more, last_leaves_same}
use Rattle.rdb_model.proofs.endings.leaves_again.Goals as goal

pub returns-in-Journal-clause-again : goal.returns-in-Journal-clause-again
returns-in-Journal-clause-again c = λ earlier have.
    let client = c.in-Some.client in
    c.is_some.ensures ∙ ap is_some (c.in_ok-last-in-Some.ensures.old ∙ have.same client) ∙ second_leave earlier client
    ∙ ap (λ w. has_left_within w earlier client) (sym c.in-Journal.is)
    ∙ ap (λ o. option_map_or (has_left_within c.args.within earlier) o false) c.in-Some.ensures

pub returns-in-Journal-clause-left : goal.returns-in-Journal-clause-left
returns-in-Journal-clause-left c = λ earlier long have.
    last_leaves_more earlier c.args.entry.now c.in-Some.client c.args.place c.args.clients.now c.insert.new.self (sym c.in-Some.ensures) long have c.in_ok-last-in-Some.ensures.updates.0

pub returns-in-Stretch-clause-left : goal.returns-in-Stretch-clause-left
returns-in-Stretch-clause-left c = λ earlier long have.
    last_leaves_more earlier c.args.entry.now c.in-Some.client c.args.place c.args.clients.now c.insert.new.self (sym c.in-Some.ensures) long have c.in_ok-last-in-Some.ensures.updates.0

pub returns-in-None-clause-left : goal.returns-in-None-clause-left
returns-in-None-clause-left c = λ earlier long have. last_leaves_same earlier c.args.entry.now c.args.clients.now (sym c.in-None.ensures) have
