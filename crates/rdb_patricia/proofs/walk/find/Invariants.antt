use Rattle.rdb_patricia.specs.Walks.{WhateverEntries}
use Rattle.rdb_patricia.proofs.FindLemmas.{IsSought}
use Rattle.rdb_patricia.proofs.walk.find.Given as goal

abbrev pub invariant-loop : goal.invariant-loop
invariant-loop g l = WhateverEntries (g.C.Cells.image l.cells) l.fn.first.number l.fn.version
    (λ chain. IsSought (g.C.Cells.image l.cells) chain l.fn.version l.counter l.before.number l.at.number)
