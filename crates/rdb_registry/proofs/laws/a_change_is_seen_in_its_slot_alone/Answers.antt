-- By the slots of the list.
use Rattle.std.proofs.Common.{option_map}
use Rattle.rdb_registry.specs.Seats.{seat_in}
use Rattle.rdb_registry.proofs.SlotLemmas.{seat_in_other}
use Rattle.rdb_registry.proofs.RecordLaws.{changed_here}
use Rattle.rdb_registry.proofs.laws.a_change_is_seen_in_its_slot_alone.Goals as goal

pub returns-clause-here : goal.returns-clause-here
returns-clause-here c = changed_here

pub returns-clause-elsewhere : goal.returns-clause-elsewhere
returns-clause-elsewhere c = λ seats slot other change ne. seat_in_other seats slot other (option_map change (seat_in seats slot)) ne
