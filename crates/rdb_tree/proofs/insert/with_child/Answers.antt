use Rattle.std.proofs.Common.{sym, ◌∙◌}
use Rattle.rdb_tree.specs.Changes.{raised_children}
use Rattle.std.proofs.Common.{ap}
use Rattle.rdb_tree.proofs.ChangeLemmas.{nil_if, raised_some, some_place}
use Rattle.rdb_tree.proofs.insert.with_child.Goals as goal

pub returns-then-is_empty : goal.returns-then-is_empty
returns-then-is_empty c = c.joined.ensures ∙ ap (raised_children c.args.place c.args.right) (nil_if c.args.children.now (sym c.is_empty.ensures ∙ c.if-is_empty.true))

pub with_one-requires-clause-place : goal.with_one-requires-clause-place
with_one-requires-clause-place c = some_place c.args.place c.args.children.now c.requires.place (sym c.is_empty.ensures ∙ c.if-is_empty.false)

pub returns-else-is_empty : goal.returns-else-is_empty
returns-else-is_empty c = c.with_one.ensures ∙ raised_some c.args.place c.args.right c.args.children.now (sym c.is_empty.ensures ∙ c.if-is_empty.false)
