use Rattle.std.proofs.Common.{◌≡◌, drop, fold}
use Rattle.rdb_cells.specs.Keys.{fnv1a, fnv_step}
use Rattle.rdb_trials.proofs.key_table.hash_bytes.Given as goal

abbrev pub invariant-loop-byte : goal.invariant-loop-byte
invariant-loop-byte l = fold fnv_step l.hash (drop l.byte-index l.bytes) ≡ fnv1a l.bytes
