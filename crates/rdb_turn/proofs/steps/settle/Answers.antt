use Rattle.rdb_turn.proofs.Passing.{settled_first, settled_second}
use Rattle.rdb_turn.proofs.steps.settle.Goals as goal

pub returns-then-first-second-clause-settled : goal.returns-then-first-second-clause-settled
returns-then-first-second-clause-settled g c = let two = c.requires.two in settled_second g.T.Chronicle two.0 two.1 _ _ _ two.2 two.4 c.keep_second.ensures.kept

pub returns-clause-settled : goal.returns-clause-settled
returns-clause-settled g c = let two = c.requires.two in settled_first g.T.Chronicle two.0 two.1 _ _ _ two.2 two.3 c.keep_first.ensures.kept
