use Rattle.rdb_schema.specs.Meaning.{group_from}
use Rattle.rdb_schema.proofs.Building.{gather-step, gather-end}
use Rattle.rdb_schema.proofs.declared.groups_of.Goals as goal

pub loop-at-preserved : goal.loop-at-preserved
loop-at-preserved c = gather-step group_from c.args.syntax.now c.loop-at.at c.index-syntax-at.result c.loop-at-test.true c.index-syntax-at.is c.loop-at.groups c.push_some.new.list c.in_ok-group.group c.split_at.result.1.now c.split_at.ensures.back c.in_ok-group.ensures c.in_ok-push_some.ensures c.loop-at.invariant

pub returns : goal.returns
returns c = gather-end group_from c.args.syntax.now c.loop-at.at c.loop-at-test.false c.loop-at.groups c.loop-at.invariant
