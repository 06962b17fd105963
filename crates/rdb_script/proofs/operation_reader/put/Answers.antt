use Rattle.std.proofs.Common.{Option, Some, None, sym, ap, ◌∙◌}
use Rattle.rdb_base.specs.declared.operation.Op.TheVariants as op
use Rattle.rdb_script.proofs.CallLemmas.{put_exact, none_is, same_call}
use Rattle.rdb_script.proofs.operation_reader.put.Goals as goal

pub returns-in_default-3-clause-exact : goal.returns-in_default-3-clause-exact
returns-in_default-3-clause-exact c = λ call h. let e = put_exact c.args.schema.now c.args.names.now c.args.text.now c.next_word.result.0.now c.next_word.result.1.now c.next_word-2.result.0.now c.next_word-2.result.1.now c.in-Some.class c.in-Some-2.target c.in_ok-row.field-0 call c.next_word.ensures.word c.next_word.ensures.behind c.next_word-2.ensures.word c.next_word-2.ensures.behind c.in-Some.ensures (λ t is. sym c.in-Some-2.is ∙ c.in_ok-target.ensures.exact t is) c.in_ok-row.ensures.exact h in absurd (none_is e.0 (sym c.in_default-3.is ∙ e.1))

pub returns-clause-exact : goal.returns-clause-exact
returns-clause-exact c = λ call h. let e = put_exact c.args.schema.now c.args.names.now c.args.text.now c.next_word.result.0.now c.next_word.result.1.now c.next_word-2.result.0.now c.next_word-2.result.1.now c.in-Some.class c.in-Some-2.target c.in_ok-row.field-0 call c.next_word.ensures.word c.next_word.ensures.behind c.next_word-2.ensures.word c.next_word-2.ensures.behind c.in-Some.ensures (λ t is. sym c.in-Some-2.is ∙ c.in_ok-target.ensures.exact t is) c.in_ok-row.ensures.exact h in same_call (λ row. op.Put c.in-Some.class c.in-Some-2.target.id row) c.in-Some-2.target.from c.in-Some-3.row e.0 call (sym c.in-Some-3.is ∙ e.1) e.2
