use Rattle.std.proofs.Common.{◌≡◌, drop}
use Rattle.rdb_model.specs.Index.{key}
use Rattle.rdb_model.proofs.keys.next_value.Given as goal

-- the row has none of the fields so far
abbrev pub invariant-loop-at : goal.invariant-loop-at
invariant-loop-at l = key (drop l.at l.fields) l.row ≡ key (drop l.from l.fields) l.row
