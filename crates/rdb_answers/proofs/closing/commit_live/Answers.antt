use Rattle.rdb_answers.proofs.closing.commit_live.Goals as goal

pub returns-else-may_write-clause-answer : goal.returns-else-may_write-clause-answer
returns-else-may_write-clause-answer c = c.end_reads.ensures.answer c.args.schema.now
