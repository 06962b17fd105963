-- By recursion on the objects.
use Rattle.rdb_model.proofs.OrderedLemmas.{empty_in_order, answer_in_order, fold_in_order}
use Rattle.rdb_model.proofs.laws.databases_are_in_order.Goals as goal

pub returns : goal.returns
returns c = record {
  empty = empty_in_order;
  answer = answer_in_order;
  fold = fold_in_order;
}
