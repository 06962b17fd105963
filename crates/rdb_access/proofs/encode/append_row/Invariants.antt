use Rattle.std.proofs.Common.{◌≡◌, ◌++◌, drop, true}
use Rattle.rdb_schema.specs.Types.{row_fits}
use Rattle.rdb_schema.specs.Proper.{EachIs, IsProperValue}
use Rattle.rdb_schema.specs.Encoding.{row_bytes}
use Rattle.rdb_access.proofs.encode.append_row.Given as goal

-- what is written and the bytes of the values that are left are those of all
abbrev pub invariant-loop-at : goal.invariant-loop-at
invariant-loop-at l = record {
  written : l.out ++ row_bytes (drop l.at l.types) (drop l.at l.row) ≡ l.initial.out ++ row_bytes l.types l.row;
  left : row_fits (drop l.at l.types) (drop l.at l.row) ≡ true;
  proper : EachIs IsProperValue (drop l.at l.row) → EachIs IsProperValue l.row;
}
