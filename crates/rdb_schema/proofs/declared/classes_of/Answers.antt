use Rattle.rdb_schema.specs.Meaning.{class_from}
use Rattle.rdb_schema.proofs.Building.{gather-step, gather-end}
use Rattle.rdb_schema.proofs.declared.classes_of.Goals as goal

pub loop-at-preserved : goal.loop-at-preserved
loop-at-preserved c = gather-step (class_from c.args.groups.now) c.args.syntax.now c.loop-at.at c.index-syntax-at.result c.loop-at-test.true c.index-syntax-at.is c.loop-at.classes c.push_some.new.list c.in_ok-class.class c.split_at.result.1.now c.split_at.ensures.back c.in_ok-class.ensures c.in_ok-push_some.ensures c.loop-at.invariant

pub returns : goal.returns
returns c = gather-end (class_from c.args.groups.now) c.args.syntax.now c.loop-at.at c.loop-at-test.false c.loop-at.classes c.loop-at.invariant
