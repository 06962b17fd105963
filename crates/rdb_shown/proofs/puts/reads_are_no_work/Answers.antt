use Rattle.std.proofs.Common.{Some, sym, ap, ◌∙◌, cond}
use Rattle.rdb_history.specs.Rows.{row_left}
use Rattle.rdb_shown.specs.Kept.{last_left}
use Rattle.rdb_shown.proofs.AnswerLemmas.{left_more, wrote_none}
use Rattle.rdb_shown.proofs.puts.reads_are_no_work.Goals as goal

pub returns : goal.returns
returns c = λ marks versions tx snapshot done o told none work. record {
  unmarked = work.unmarked;
  wrote = λ class id. work.wrote class id ∙ sym (left_more (class, id) done (o, told) ∙ ap (λ b. cond b (Some (row_left o)) (last_left (class, id) done)) (wrote_none (o, told) (class, id) none));
  unseen = work.unseen;
}
