use Rattle.std.proofs.Common.{◌≡◌, drop, map}
use Rattle.rdb_cells.specs.Records.{first_content}
use Rattle.rdb_cells.proofs.settled.logged.Given as goal

abbrev pub invariant-loop-record : goal.invariant-loop-record
invariant-loop-record l = first_content (map (λ r. r.now.pairs) l.records) l.at.number ≡ first_content (drop l.record-index (map (λ r. r.now.pairs) l.records)) l.at.number
