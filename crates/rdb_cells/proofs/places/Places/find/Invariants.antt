use Rattle.std.proofs.Common.{length}
use Rattle.rdb_cells.specs.Places.{bucket_of}
use Rattle.rdb_cells.proofs.PlaceLemmas.{IsSearched}
use Rattle.rdb_cells.proofs.places.Places.find.Given as goal

abbrev pub invariant-loop-link : goal.invariant-loop-link
invariant-loop-link l = IsSearched (bucket_of (length l.self-inside.heads.items)) l.self-inside.numbers.items l.number l.link

abbrev pub decreases-loop-link : goal.decreases-loop-link
decreases-loop-link l = l.link
