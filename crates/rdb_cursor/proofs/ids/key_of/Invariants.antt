use Rattle.std.proofs.Common.{◌≡◌, ◌++◌, drop}
use Rattle.rdb_model.specs.Index.{key}
use Rattle.rdb_cursor.proofs.ids.key_of.Given as goal

-- what was made so far, and the key at the fields that are left, are the whole key
abbrev pub invariant-loop-field : goal.invariant-loop-field
invariant-loop-field l = l.key ++ key (drop l.field-index l.field-items) l.row ≡ key l.fields l.row
