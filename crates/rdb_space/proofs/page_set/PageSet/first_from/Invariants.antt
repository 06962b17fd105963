use Rattle.rdb_space.proofs.PageSetLemmas.{Searched}
use Rattle.rdb_space.proofs.page_set.PageSet.first_from.Given as goal

abbrev pub invariant-loop-at : goal.invariant-loop-at
invariant-loop-at l = Searched l.self-inside.words.items l.fn.page l.at l.from
