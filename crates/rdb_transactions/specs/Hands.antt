-- Changes of what a connection has in hand. Each says what it changes, and all else is as it was.
use Rattle.std.specs.Prelude.{ℕ, ◌+◌, ◌-◌, ◌==◌, ◌&&◌, Bool, List, [], ◌∷◌, ◌++◌, length, position, slice_set, Option, Some, None}
use Rattle.rdb_base.specs.declared.identity.Phase.{Phase}
use Rattle.rdb_base.specs.declared.identity.Phase.TheVariants as phase
use Rattle.rdb_base.specs.declared.journal.Cause.{Cause}
use Rattle.rdb_base.specs.declared.operation.Op.{Op}
use Rattle.rdb_base.specs.declared.operation.Reply.{Reply}
use Rattle.rdb_cells.specs.Records.{Record}
use Rattle.rdb_registry.specs.declared.hand.Hand.{Hand}
use Rattle.rdb_registry.specs.declared.hand.Subscription.{Subscription}

-- it goes over to a phase
abbrev pub in_phase : Phase → Hand → Hand
in_phase phase hand = record hand { phase = phase }

-- a roll-back begins, for this cause
abbrev pub rolling_back : Cause → Hand → Hand
rolling_back cause hand = record hand { phase = phase.RollingBack; cause = Some cause }

-- the operation in work is given up, with what is left of a plan
abbrev pub given_up : Hand → Hand
given_up hand = record hand { work = None; plan = record hand.plan { pairs = [] } }

-- the transaction is marked: nothing is taken back any more, and its versions are to be stamped
abbrev pub to_be_stamped : Hand → Hand
to_be_stamped hand = record hand { phase = phase.Stamping; undo = record hand.undo { pairs = [] } }

-- the operations of the story are moved out
abbrev pub without_story : Hand → Hand
without_story hand = record hand { done = record { items = []; room = 0 } }

-- these are the operations of the story
abbrev pub with_story : List (Op × Reply) → Hand → Hand
with_story done hand = record hand { done = record { items = done; room = 0 } }

-- an operation stands in the story with its reply
abbrev pub noted : Op → Reply → Hand → Hand
noted op reply hand = record hand { done = record { items = hand.done.items ++ (op, reply) ∷ []; room = hand.done.room - 1 } }

-- this is its undo record
abbrev pub with_undo : Record → Hand → Hand
with_undo undo hand = record hand { undo = undo }

-- it is idle: why it rolled back and what it wrote is forgotten, and the room stays
abbrev pub at_rest : Hand → Hand
at_rest hand =
    record hand { phase = phase.Idle; cause = None; own = record { items = []; room = hand.own.room + length hand.own.items } }

-- it watches one event more
abbrev pub with_watch : Subscription → Hand → Hand
with_watch watch hand = record hand { subscriptions = hand.subscriptions ++ watch ∷ [] }

-- the watch at a place among those that it has is another
abbrev pub with_watch_at : ℕ → Subscription → Hand → Hand
with_watch_at place watch hand = record hand { subscriptions = slice_set hand.subscriptions place watch }

-- the watch is of this event of a class
abbrev pub is_watch_of : ℕ → ℕ → Subscription → Bool
is_watch_of class event watch = (watch.class == class) && (watch.event == event)

-- the place of the watch of an event among those of a connection, if it watches it
abbrev pub watch_of : ℕ → ℕ → List Subscription → Option ℕ
watch_of class event watches = position (is_watch_of class event) watches
