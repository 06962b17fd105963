use Rattle.std.proofs.Common.{take}
use Rattle.rdb_cells.specs.Keys.{says}
use Rattle.rdb_cells.specs.Memory.{memory_image}
use Rattle.rdb_trials.specs.Filled.{AreBelow}
use Rattle.rdb_trials.specs.KeyTable.{table_meaning}
use Rattle.rdb_trials.proofs.filling.checked.Given as goal

abbrev pub invariant-loop-place : goal.invariant-loop-place
invariant-loop-place g l = AreBelow (says (table_meaning l.keys.rows) (memory_image l.cells)) l.bound (take l.place l.versions)
