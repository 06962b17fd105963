use Rattle.rdb_schema.specs.Meaning.{index_from}
use Rattle.rdb_schema.proofs.Building.{gather-step, gather-end}
use Rattle.rdb_schema.proofs.declared.indexes_of.Goals as goal

pub loop-at-preserved : goal.loop-at-preserved
loop-at-preserved c = gather-step (index_from c.args.fields.now) c.args.body.now c.loop-at.at c.index-body-at.result c.loop-at-test.true c.index-body-at.is c.loop-at.indexes c.push_some.new.list c.in_ok-index.index c.split_at.result.1.now c.split_at.ensures.back c.in_ok-index.ensures c.in_ok-push_some.ensures c.loop-at.invariant

pub returns : goal.returns
returns c = gather-end (index_from c.args.fields.now) c.args.body.now c.loop-at.at c.loop-at-test.false c.loop-at.indexes c.loop-at.invariant
