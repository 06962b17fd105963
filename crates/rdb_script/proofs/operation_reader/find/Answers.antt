use Rattle.std.proofs.Common.{Option, Some, None, sym, ap, ◌∙◌}
use Rattle.rdb_base.specs.declared.operation.Op.TheVariants as op
use Rattle.rdb_script.proofs.CallLemmas.{find_exact, none_is, same_call}
use Rattle.rdb_script.proofs.operation_reader.find.Goals as goal

pub returns-in_default-2-clause-exact : goal.returns-in_default-2-clause-exact
returns-in_default-2-clause-exact c = λ call h. let e = find_exact c.args.schema.now c.args.text.now c.next_word.result.0.now c.next_word.result.1.now c.in-Some.index c.in_ok-key.field-0 call c.next_word.ensures.word c.next_word.ensures.behind c.in-Some.ensures c.in_ok-key.ensures.exact h in absurd (none_is e.0 (sym c.in_default-2.is ∙ e.1))

pub returns-clause-exact : goal.returns-clause-exact
returns-clause-exact c = λ call h. let e = find_exact c.args.schema.now c.args.text.now c.next_word.result.0.now c.next_word.result.1.now c.in-Some.index c.in_ok-key.field-0 call c.next_word.ensures.word c.next_word.ensures.behind c.in-Some.ensures c.in_ok-key.ensures.exact h in same_call (λ key. op.Find c.in-Some.index.class c.in-Some.index.place key) None c.in-Some-2.key e.0 call (sym c.in-Some-2.is ∙ e.1) e.2
