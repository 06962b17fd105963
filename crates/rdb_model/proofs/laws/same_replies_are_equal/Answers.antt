-- Case by case.
use Rattle.std.proofs.Common.{ap, ◌∙◌, sym}
use Rattle.rdb_model.specs.Story.{same_reply}
use Rattle.rdb_model.proofs.ReplyLemmas.{same_reply_is, reply_itself}
use Rattle.rdb_model.proofs.laws.same_replies_are_equal.Goals as goal

pub returns : goal.returns
returns c = λ a b. (same_reply_is a b, λ same. ap (same_reply a) (sym same) ∙ reply_itself a)
