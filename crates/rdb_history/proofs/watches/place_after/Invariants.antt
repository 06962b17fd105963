use Rattle.std.proofs.Common.{◌≡◌, drop, None}
use Rattle.std.specs.Option.{option_map}
use Rattle.rdb_history.specs.Watches.{pair_of, place_after}
use Rattle.rdb_history.proofs.watches.place_after.Given as goal

-- where the watch stands after the notes that are left is where it stands after all
abbrev pub invariant-loop-note : goal.invariant-loop-note
invariant-loop-note l = place_after l.class l.event (option_map pair_of l.place) (drop l.note-index l.notes) ≡ place_after l.class l.event None l.notes
