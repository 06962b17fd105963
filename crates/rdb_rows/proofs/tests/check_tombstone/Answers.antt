use Rattle.std.proofs.Common.{◌∷◌, None}
use Rattle.rdb_rows.proofs.Rooms.{still_there}
use Rattle.rdb_rows.proofs.tests.check_tombstone.Goals as goal

pub older_in-requires : goal.older_in-requires
older_in-requires g c =
    let puts = c.put_tombstone-version.ensures.puts in
    still_there _ _ c.put_tombstone-version.result.number _
    (record { version = record { label = c.label_of-label.result; row = None }; cells = c.put_tombstone-version.result.number ∷ puts.row_cells; holds = puts.holds })
    c.change_older.ensures.changes

pub serial_in-requires : goal.serial_in-requires
serial_in-requires g c =
    let puts = c.put_tombstone-version.ensures.puts in
    still_there _ _ c.put_tombstone-version.result.number _
    (record { version = record { label = c.label_of-label.result; row = None }; cells = c.put_tombstone-version.result.number ∷ puts.row_cells; holds = puts.holds })
    c.change_older.ensures.changes

pub give_back-requires-clause-version : goal.give_back-requires-clause-version
give_back-requires-clause-version g c =
    let puts = c.put_tombstone-version.ensures.puts in
    still_there _ _ c.put_tombstone-version.result.number _
    (record { version = record { label = c.label_of-label.result; row = None }; cells = c.put_tombstone-version.result.number ∷ puts.row_cells; holds = puts.holds })
    c.change_older.ensures.changes
