-- What a call that touches no cell leaves of a World.
use Rattle.std.specs.Prelude.{◌≡◌, Option, Some, None, is_some, if◌then◌else◌}
use Rattle.rdb_answers.specs.declared.answer.Answer.{Answer}
use Rattle.rdb_answers.specs.declared.answer.Answer.TheVariants as answer
use Rattle.rdb_answers.specs.declared.answer.Outcome.TheVariants as outcome
use Rattle.rdb_registry.specs.declared.seat.Seat.{Seat}
use Rattle.rdb_sight.specs.Versions.{Versions}
use Rattle.rdb_steps.specs.declared.state.State.{State}
use Rattle.rdb_steps.specs.Lists.{taken_over}
use Rattle.rdb_steps.specs.Moves.{aimed_without}
use Rattle.rdb_steps.specs.Steps.{aimed_by_taking_back}

-- no cell, no number drawn and nothing of the schema changes: only the records of connections and the journal may
abbrev pub KeepsCells : {P : Type 0} → State P → State P → Type 0
KeepsCells before after = after ≡ record before { transactions = after.transactions }

-- what is aimed at once a connection is condemned: as before where it isn't there or was condemned already
abbrev pub aimed_once_condemned : Option Seat → Versions → Versions → Versions
aimed_once_condemned None settled aimed = aimed
aimed_once_condemned (Some seat) settled aimed = if is_some seat.condemned then aimed else aimed_without seat settled aimed

-- the same by the answer: where the one who condemns is gone, nothing has changed
abbrev pub aimed_by_condemning : Answer → Option Seat → Versions → Versions → Versions
aimed_by_condemning (answer.Gone by at) seat settled aimed = aimed
aimed_by_condemning _ seat settled aimed = aimed_once_condemned seat settled aimed

-- what is aimed at once a client has asked for a roll-back: where it goes on, what the connection aimed at is no longer spoken of
abbrev pub aimed_by_rolling_back : Answer → Option Seat → Versions → Versions → Versions
aimed_by_rolling_back answer.More seat settled aimed = aimed_by_taking_back seat settled aimed
aimed_by_rolling_back _ seat settled aimed = aimed

-- what is settled once a transaction is marked: what its connection aimed at in its classes
abbrev pub settled_by_mark : Option Seat → Versions → Versions → Versions
settled_by_mark None settled aimed = settled
settled_by_mark (Some seat) settled aimed = taken_over seat settled aimed

-- the same by the answer to a client that commits: a transaction is marked that is committed, or goes on
abbrev pub settled_by_committing : Answer → Option Seat → Versions → Versions → Versions
settled_by_committing (answer.Ready (outcome.Committed commit)) seat settled aimed = settled_by_mark seat settled aimed
settled_by_committing answer.More seat settled aimed = settled_by_mark seat settled aimed
settled_by_committing _ seat settled aimed = settled

-- what is aimed at then: with a conflict, what the connection aimed at is no longer spoken of
abbrev pub aimed_by_committing : Answer → Option Seat → Versions → Versions → Versions
aimed_by_committing (answer.Conflict commit operation) seat settled aimed = aimed_by_taking_back seat settled aimed
aimed_by_committing _ seat settled aimed = aimed
