-- Places that are sought in a tree by keys of a table.
use Rattle.std.proofs.Common.{List, refl}
use Rattle.rdb_base.specs.declared.operation.Place.{Place}
use Rattle.rdb_base.specs.declared.operation.Place.TheVariants.{Start, End, At}
use Rattle.rdb_base.specs.declared.value.Value.{Value}
use Rattle.rdb_tree.specs.Lookups.{PlaceFits}
use Rattle.rdb_trials.specs.KeyTable.{table_meaning}

pub fits_any : (rows : List (List Value)) (place : Place) → PlaceFits (table_meaning rows) place
fits_any rows Start = tt
fits_any rows End = tt
fits_any rows (At key id) = refl
