-- Where transactions ended last, with one entry more.
use Rattle.std.proofs.Common.{false, ap, ap₂, sym, ◌∙◌}
use Rattle.std.specs.Option.{option_map_or}
use Rattle.rdb_model.specs.Journal.{has_ended_within}
use Rattle.rdb_model.specs.Tallies.{is_second_end}
use Rattle.rdb_model.proofs.EndingLemmas.{second_end, last_ends_more, last_ends_same}
use Rattle.rdb_model.proofs.endings.ends_again.Goals as goal

pub returns-in_ok-last-in-Some-clause-again : goal.returns-in_ok-last-in-Some-clause-again
returns-in_ok-last-in-Some-clause-again c = λ earlier ended left.
    let tx = c.in-Some.transaction in
    c.is_second_end.ensures
    ∙ ap₂ (is_second_end c.args.within) (c.in_ok-last-in-Some.ensures.old ∙ ended.same tx) (c.get-leave.ensures.value ∙ left.same tx.0)
    ∙ second_end c.args.within earlier tx
    ∙ ap (λ o. option_map_or (has_ended_within c.args.within earlier) o false) c.in-Some.ensures

pub returns-in_ok-last-in-Some-clause-ended : goal.returns-in_ok-last-in-Some-clause-ended
returns-in_ok-last-in-Some-clause-ended c = λ earlier long have.
    last_ends_more earlier c.args.entry.now c.in-Some.transaction c.args.place c.args.transactions.now c.insert.new.self (sym c.in-Some.ensures) long have c.in_ok-last-in-Some.ensures.updates.0

pub returns-in-None-clause-ended : goal.returns-in-None-clause-ended
returns-in-None-clause-ended c = λ earlier long have. last_ends_same earlier c.args.entry.now c.args.transactions.now (sym c.in-None.ensures) have
