use Rattle.rdb_script.proofs.OperandLemmas.{of_id_target, not_named}
use Rattle.rdb_script.proofs.operand.target.Goals as goal

pub returns-in-None-clause-exact : goal.returns-in-None-clause-exact
returns-in-None-clause-exact c = λ target h.
    c.numbered.ensures.exact target (of_id_target c.args.schema.now c.args.names.now c.args.class c.args.word.now target (not_named c.args.word.now c.in-None.ensures) h)
