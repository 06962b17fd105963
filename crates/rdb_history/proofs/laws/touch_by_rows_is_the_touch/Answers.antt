use Rattle.rdb_base.specs.declared.identity.Kind.TheVariants as kind
use Rattle.rdb_history.proofs.RowLaws.{touch_is}
use Rattle.rdb_history.proofs.laws.touch_by_rows_is_the_touch.Goals as goal

pub returns : goal.returns
returns c = λ schema journal own story commit operation numbers replies fit stands. touch_is schema journal numbers replies own story commit operation kind.ReadWrite fit stands
