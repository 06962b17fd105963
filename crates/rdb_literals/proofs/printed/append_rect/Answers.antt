use Rattle.std.proofs.Common.{append_assoc, rules}
use Rattle.rdb_literals.proofs.printed.append_rect.Goals as goal

pub returns : goal.returns
returns c = simp append_assoc (search rules)
