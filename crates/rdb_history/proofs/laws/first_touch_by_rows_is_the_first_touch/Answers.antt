use Rattle.rdb_base.specs.declared.identity.Kind.TheVariants as kind
use Rattle.rdb_history.proofs.FirstTouchLaws.{first_on_databases, first_by_rows, none_alike}
use Rattle.rdb_history.proofs.laws.first_touch_by_rows_is_the_first_touch.Goals as goal

pub returns : goal.returns
returns c = record {
  databases = λ schema journal story commit operation numbers replies fit is. first_on_databases schema journal numbers replies kind.ReadWrite story fit commit operation is;
  rows = λ schema journal own story commit operation numbers replies fit is. first_by_rows schema journal numbers replies kind.ReadWrite story fit own commit operation is;
  none = λ schema journal story numbers replies fit. none_alike schema journal numbers replies kind.ReadWrite story fit;
}
