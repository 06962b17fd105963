use Rattle.rdb_base.specs.declared.identity.Kind.TheVariants as kind
use Rattle.rdb_history.proofs.RowLaws.{untouched_is}
use Rattle.rdb_history.proofs.laws.untouched_by_rows_is_untouched.Goals as goal

pub returns : goal.returns
returns c = λ schema journal own story commit operation numbers replies fit untouched stands unseen. untouched_is schema journal numbers replies own story commit operation kind.ReadWrite fit untouched stands unseen
