-- A closed record is over.
use Rattle.std.proofs.Common.{◌≡◌, [], Bool, true, false, cond, None, refl, ◌∙◌}
use Rattle.rdb_base.specs.declared.identity.Manager.{Manager}
use Rattle.rdb_base.specs.declared.identity.Manager.TheVariants as manager
use Rattle.rdb_base.specs.declared.journal.Cause.{Cause}
use Rattle.rdb_cells.specs.Records.{Record}
use Rattle.rdb_registry.specs.declared.seat.Seat.{Seat}
use Rattle.rdb_transactions.specs.Hands.{without_story, with_undo}
use Rattle.rdb_transactions.specs.Records.{on_hand, closed, exchanged, is_single_writer, rolls_back}
use Rattle.rdb_steps.specs.Moves.{HasNothingLeft, IsOver}

-- whichever undo record it has, and whatever it forgot before
over_if : (b : Bool) (spare : Record) (seat : Seat) → HasNothingLeft seat → seat.hand.work ≡ None → spare.pairs ≡ [] → seat.hand.done.items ≡ [] → IsOver seat (closed (cond b (on_hand (with_undo spare) seat) seat))
over_if true spare seat clean workless empty told = record {
  conn = refl;
  phase = refl;
  idle = record {
    rest = record { latches = refl; plan = clean.plan; undo = empty; work = workless };
    transaction = refl;
    own = refl;
    done = told;
    cause = refl;
  };
}
over_if false spare seat clean workless empty told = record {
  conn = refl;
  phase = refl;
  idle = record {
    rest = record { latches = refl; plan = clean.plan; undo = clean.undo; work = workless };
    transaction = refl;
    own = refl;
    done = told;
    cause = refl;
  };
}

pub closed_over : (manager : Manager) (spare : Record) (seat : Seat) → HasNothingLeft seat → seat.hand.work ≡ None → spare.pairs ≡ [] → seat.hand.done.items ≡ [] → IsOver seat (closed (exchanged manager spare seat))
closed_over manager spare seat clean workless empty told = over_if (is_single_writer manager seat) spare seat clean workless empty told

-- a record of the same connection
as_it : (seat other now : Seat) → other.conn ≡ seat.conn → IsOver other now → IsOver seat now
as_it seat other now same over = record { conn = over.conn ∙ same; phase = over.phase; idle = over.idle }

pub told_over : (manager : Manager) (spare : Record) (seat : Seat) → HasNothingLeft seat → seat.hand.work ≡ None → spare.pairs ≡ [] → IsOver seat (closed (exchanged manager spare (on_hand without_story seat)))
told_over manager spare seat clean workless empty =
    as_it seat (on_hand without_story seat) (closed (exchanged manager spare (on_hand without_story seat))) refl
    (closed_over manager spare (on_hand without_story seat) (record { plan = clean.plan; undo = clean.undo; own = clean.own }) workless empty refl)

back_clean : (manager : Manager) (cause : Cause) (seat : Seat) → HasNothingLeft seat → HasNothingLeft (rolls_back manager cause seat)
back_clean manager.Mursiw cause seat clean = record { plan = refl; undo = clean.undo; own = clean.own }
back_clean manager.Mvcc cause seat clean = record { plan = refl; undo = clean.undo; own = clean.own }

back_workless : (manager : Manager) (cause : Cause) (seat : Seat) → (rolls_back manager cause seat).hand.work ≡ None
back_workless manager.Mursiw cause seat = refl
back_workless manager.Mvcc cause seat = refl

back_conn : (manager : Manager) (cause : Cause) (seat : Seat) → (rolls_back manager cause seat).conn ≡ seat.conn
back_conn manager.Mursiw cause seat = refl
back_conn manager.Mvcc cause seat = refl

pub back_over : (manager : Manager) (spare : Record) (cause : Cause) (seat : Seat) → HasNothingLeft seat → spare.pairs ≡ [] → IsOver seat (closed (exchanged manager spare (on_hand without_story (rolls_back manager cause seat))))
back_over manager spare cause seat clean empty =
    as_it seat (rolls_back manager cause seat) (closed (exchanged manager spare (on_hand without_story (rolls_back manager cause seat)))) (back_conn manager cause seat)
    (told_over manager spare (rolls_back manager cause seat) (back_clean manager cause seat clean) (back_workless manager cause seat) empty)
