use Rattle.std.proofs.Common.{◌≡◌, take}
use Rattle.rdb_cells.specs.Records.{numbers_of}
use Rattle.rdb_cells.proofs.pairs.place_all.Given as goal

abbrev pub invariant-loop-pair : goal.invariant-loop-pair
invariant-loop-pair l = (l.places.numbers ≡ numbers_of (take l.pair-index l.pairs)) × (l.places.room ≡ l.initial.places.room)
