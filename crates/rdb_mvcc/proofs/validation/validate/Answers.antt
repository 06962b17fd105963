use Rattle.rdb_mvcc.specs.declared.validation.Checked.TheVariants as checked
use Rattle.rdb_mvcc.proofs.AnswerLemmas.{on_databases}
use Rattle.rdb_mvcc.proofs.validation.validate.Goals as goal

pub returns-in-Some-clause-databases : goal.returns-in-Some-clause-databases
returns-in-Some-clause-databases c =
    on_databases c.args.schema.now c.args.journal.now.entries c.args.story.now (checked.Conflict c.in-Some.commit c.in-Some.operation) c.requires.fits c.in-Some.ensures.some

pub returns-in-None-clause-databases : goal.returns-in-None-clause-databases
returns-in-None-clause-databases c = on_databases c.args.schema.now c.args.journal.now.entries c.args.story.now checked.Clear c.requires.fits c.in-None.ensures.none
