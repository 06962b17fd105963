use Rattle.rdb_access.specs.Places.{IsTableTo}
use Rattle.rdb_access.proofs.places.table_of.Given as goal

abbrev pub invariant-loop-field : goal.invariant-loop-field
invariant-loop-field l = IsTableTo l.types l.field l.offset l.table
