-- The steps of a repair, in the order in which they are looked for.
use Rattle.std.specs.Prelude.{ℕ, Bool, true, false, ◌&&◌, ◌||◌, ◌==◌, not, List, [], ◌∷◌, length, is_some, is_none, option_and_then}
use Rattle.rdb_registry.specs.declared.hand.Hand.{Hand}
use Rattle.rdb_registry.specs.declared.seat.Seat.{Seat}
use Rattle.rdb_sniffer.specs.declared.repair.Thing.{Thing}
use Rattle.rdb_sniffer.specs.declared.repair.Thing.TheVariants as thing

-- the steps in their order
abbrev pub in_order : List Thing
in_order = thing.Stamp ∷ thing.GoOn ∷ thing.TakeBack ∷ thing.Release ∷ thing.PlanDrop ∷ thing.Close ∷ []

-- the record's transaction is open and marked
abbrev pub is_marked : Seat → Bool
is_marked seat = is_some (option_and_then (λ t. t.mark) seat.transaction)

-- a plan is left
abbrev pub has_plan : Hand → Bool
has_plan hand = not (length hand.plan.pairs == 0)

-- a plan is left that is the drop of a version: no operation is in work
abbrev pub is_drop_planned : Hand → Bool
is_drop_planned hand = is_none hand.work && has_plan hand

-- a cell is to be put back
abbrev pub has_undo : Hand → Bool
has_undo hand = not (length hand.undo.pairs == 0)

-- a latch is held
abbrev pub has_latch : Seat → Bool
has_latch seat = not (seat.latches == 0)

-- a version of a marked transaction is to be stamped
abbrev pub needs_stamp : Seat → Bool → Bool
needs_stamp seat left = is_marked seat && left

-- a plan or latches are to be given up
abbrev pub needs_release : Seat → Bool
needs_release seat = has_plan seat.hand || has_latch seat

-- whether a step applies to a record, where an open version of the connection's may be left
abbrev pub applies : Seat → Bool → Thing → Bool
applies seat left thing.Stamp = needs_stamp seat left
applies seat left thing.GoOn = is_drop_planned seat.hand
applies seat left thing.TakeBack = has_undo seat.hand
applies seat left thing.Release = needs_release seat
applies seat left thing.PlanDrop = left
applies seat left thing.Close = true
