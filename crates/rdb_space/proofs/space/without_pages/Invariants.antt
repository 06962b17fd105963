use Rattle.std.proofs.Common.{◌≡◌, replicate}
use Rattle.rdb_space.proofs.TableLemmas.{bare}
use Rattle.rdb_space.proofs.space.without_pages.Given as goal

abbrev pub invariant-loop : goal.invariant-loop
invariant-loop l = l.all.items ≡ replicate l.counter (bare l.pages)
