use Rattle.rdb_history.proofs.RowLaws.{one_first_touch, touched_is_not_untouched}
use Rattle.rdb_history.proofs.laws.first_touch_is_one.Goals as goal

pub returns : goal.returns
returns c = record { commit = one_first_touch; touched = touched_is_not_untouched }
