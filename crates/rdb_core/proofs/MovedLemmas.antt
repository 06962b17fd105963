-- What is kept of a World as its records and its journal move.
use Rattle.std.proofs.Common.{◌≡◌, ℕ, List, refl, sym, ap, subst, ◌∙◌}
use Rattle.rdb_base.specs.declared.identity.Manager.{Manager}
use Rattle.rdb_base.specs.declared.journal.Entry.{Entry}
use Rattle.rdb_cells.specs.Records.{Record}
use Rattle.rdb_registry.specs.Registry.{Roll, IsRoll}
use Rattle.rdb_registry.specs.Seats.{EachSeat}
use Rattle.rdb_sight.specs.Versions.{Versions}
use Rattle.rdb_transactions.specs.declared.transactions.Transactions.{Transactions}
use Rattle.rdb_transactions.specs.Moves.{IsSame}
use Rattle.rdb_transactions.specs.Sound.{IsSound}
use Rattle.rdb_steps.specs.declared.state.State.{State}
use Rattle.rdb_steps.specs.Invariant.{IsKept}
use Rattle.rdb_steps.specs.Moves.{ArePlaced}
use Rattle.rdb_steps.specs.Rooms.{HaveRooms, KeepRooms}
use Rattle.rdb_steps.specs.States.{AreFewer, IsFurnished, IsWhole, Keeps, SpareFits, cell_count, ground_in}

-- the rooms of a whole state
rooms_of : {P : Type 0} (s : State P) → IsWhole s → HaveRooms s.schema (cell_count s.schema s.memory) s.counters.serials s.counters.ids.items s.transactions
rooms_of s whole = record { furnished = whole.furnished; spare = whole.spare; fewer = whole.fewer }

pub whole_moved : {P : Type 0} (s : State P) (u : Transactions) → IsWhole s → u.registry.classes ≡ s.transactions.registry.classes → IsSound u → KeepRooms s.transactions u → IsWhole (record s { transactions = u })
whole_moved s u whole classes sound keep =
    let rooms = keep s.schema (cell_count s.schema s.memory) s.counters.serials s.counters.ids.items (rooms_of s whole) in
    record {
      schema = whole.schema;
      served = whole.served;
      lawful = whole.lawful;
      store = whole.store;
      cells = whole.cells;
      classes = classes ∙ whole.classes;
      ids = whole.ids;
      sound = sound;
      furnished = rooms.furnished;
      spare = rooms.spare;
      fewer = rooms.fewer;
    }

-- with the same manager, what is kept by the one is kept by the other
pub kept_under : {P : Type 0} (s : State P) (u : Transactions) (settled aimed : Versions) → u.manager ≡ s.transactions.manager →
    IsKept s.schema s.transactions.manager s.counters.serials s.counters.ids.items (ground_in s.memory u.registry) settled aimed → Keeps (record s { transactions = u }) settled aimed
kept_under s u settled aimed same keeps =
    subst (λ (m : Manager). IsKept s.schema m s.counters.serials s.counters.ids.items (ground_in s.memory u.registry) settled aimed) (sym same) keeps

-- each record names its slot
pub placed_in : (roll : Roll) → IsRoll roll → ArePlaced roll.seats
placed_in roll is slot seat at = (is.seated slot seat at).place

-- nothing changes
pub unchanged : (t u : Transactions) → u ≡ t → IsSame t u
unchanged t u e = record {
  manager = ap (λ x. x.manager) e;
  registry = ap (λ x. x.registry) e;
  entries = ap (λ x. x.journal.entries) e;
  spare = ap (λ x. x.spare_undo) e;
}

-- nothing changes but the journal's room
pub kept_same : {P : Type 0} (s : State P) (u : Transactions) → IsSame s.transactions u → (settled aimed : Versions) → Keeps s settled aimed → Keeps (record s { transactions = u }) settled aimed
kept_same s u same settled aimed keeps =
    kept_under s u settled aimed same.manager
    (subst (λ (roll : Roll). IsKept s.schema s.transactions.manager s.counters.serials s.counters.ids.items (ground_in s.memory roll) settled aimed) (sym same.registry) keeps)

pub rooms_same : (t u : Transactions) → IsSame t u → KeepRooms t u
rooms_same t u same schema cells serials ids rooms = record {
  furnished =
      subst (λ (m : Manager). EachSeat (λ slot. IsFurnished schema m cells) u.registry.seats) (sym same.manager)
      (subst (λ (roll : Roll). EachSeat (λ slot. IsFurnished schema t.manager cells) roll.seats) (sym same.registry) rooms.furnished);
  spare = record { spare = fits.spare; own = fits.own };
  fewer = record { serials = fewer.serials; ids = fewer.ids; spent = fewer.spent };
}
  where
    fits : SpareFits cells (record t { manager = u.manager; registry = u.registry; spare_undo = u.spare_undo })
    fits =
        subst (λ (m : Manager). SpareFits cells (record t { manager = m; registry = u.registry; spare_undo = u.spare_undo })) (sym same.manager)
        (subst (λ (roll : Roll). SpareFits cells (record t { registry = roll; spare_undo = u.spare_undo })) (sym same.registry)
        (subst (λ (spare : Record). SpareFits cells (record t { spare_undo = spare })) (sym same.spare) rooms.spare))

    fewer : AreFewer serials ids (record t { registry = u.registry; journal = record t.journal { entries = u.journal.entries } })
    fewer =
        subst (λ (roll : Roll). AreFewer serials ids (record t { registry = roll; journal = record t.journal { entries = u.journal.entries } })) (sym same.registry)
        (subst (λ (entries : List Entry). AreFewer serials ids (record t { journal = record t.journal { entries = entries } })) (sym same.entries) rooms.fewer)
