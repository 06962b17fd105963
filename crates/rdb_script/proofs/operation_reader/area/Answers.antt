use Rattle.std.proofs.Common.{Option, Some, None, sym, ap, ◌∙◌}
use Rattle.rdb_base.specs.declared.operation.Op.TheVariants as op
use Rattle.rdb_script.proofs.CallLemmas.{area_exact, none_is, same_call}
use Rattle.rdb_script.proofs.operation_reader.area.Goals as goal

pub returns-in_err-rect-clause-exact : goal.returns-in_err-rect-clause-exact
returns-in_err-rect-clause-exact c = λ call h. let e = area_exact c.args.schema.now c.args.text.now c.next_word.result.0.now c.next_word.result.1.now c.next_word-2.result.0.now c.next_word-2.result.1.now c.in_ok-index.index c.in_ok-inside.inside None call c.next_word.ensures.word c.next_word.ensures.behind c.next_word-2.ensures.word c.next_word-2.ensures.behind c.in_ok-index.ensures c.in_ok-inside.ensures c.in_err-rect.ensures.exact h in absurd (none_is e.0 e.1)

pub returns-clause-exact : goal.returns-clause-exact
returns-clause-exact c = λ call h. let e = area_exact c.args.schema.now c.args.text.now c.next_word.result.0.now c.next_word.result.1.now c.next_word-2.result.0.now c.next_word-2.result.1.now c.in_ok-index.index c.in_ok-inside.inside (Some c.in_ok-rect.rect) call c.next_word.ensures.word c.next_word.ensures.behind c.next_word-2.ensures.word c.next_word-2.ensures.behind c.in_ok-index.ensures c.in_ok-inside.ensures c.in_ok-rect.ensures.exact h in same_call (λ rect. op.Area c.in_ok-index.index.class c.in_ok-index.index.place rect c.in_ok-inside.inside) None c.in_ok-rect.rect e.0 call e.1 e.2
