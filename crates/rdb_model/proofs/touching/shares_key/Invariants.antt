use Rattle.std.proofs.Common.{◌≡◌, drop}
use Rattle.rdb_model.specs.Touch.{shares_key}
use Rattle.rdb_model.proofs.touching.shares_key.Given as goal

-- no unique index so far is shared
abbrev pub invariant-loop-index : goal.invariant-loop-index
invariant-loop-index l = shares_key (drop l.index-index l.index-items) l.row l.other ≡ shares_key l.indexes l.row l.other
