use Rattle.std.proofs.Common.{sym, ◌∙◌}
use Rattle.rdb_history.proofs.ClassLemmas.{one_class}
use Rattle.rdb_history.proofs.EventLemmas.{passed_by}
use Rattle.rdb_history.proofs.events.least_event_if_of.Goals as goal

pub returns-then-are_apart-clause-none : goal.returns-then-are_apart-clause-none
returns-then-are_apart-clause-none c =
    passed_by c.args.class c.args.kind c.args.journal.now.entries (c.args.place.commit, c.args.place.id) c.args.commit c.classes.result c.class_set.result c.classes.ensures
    (one_class c.class_set.result c.args.class c.class_set.ensures) (sym c.are_apart.ensures ∙ c.if-are_apart.true)
