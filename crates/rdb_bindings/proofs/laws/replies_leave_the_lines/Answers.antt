-- By recursion on the lines.
use Rattle.rdb_bindings.proofs.KeepingLemmas.{lines-unanswered, lines-noted, kept-length}
use Rattle.rdb_bindings.proofs.laws.replies_leave_the_lines.Goals as goal

pub returns : goal.returns
returns c = record { none = lines-unanswered; noted = lines-noted; kept = kept-length }
