use Rattle.std.proofs.Common.{sym, ◌∙◌}
use Rattle.rdb_history.proofs.ClassLemmas.{passed_by}
use Rattle.rdb_history.proofs.first_touch.touched_if_looked_at.Goals as goal

pub returns-then-are_apart-clause-none : goal.returns-then-are_apart-clause-none
returns-then-are_apart-clause-none c =
    passed_by c.args.schema.now c.args.journal.now.entries c.args.commit c.classes.result c.args.looked_at c.classes.ensures (sym c.are_apart.ensures ∙ c.if-are_apart.true) c.args.story.now c.requires.looked_at
