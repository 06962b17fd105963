-- A World's state as its steps speak of it, and what is so of it between two steps, beside what its cells hold.
use Rattle.std.specs.Prelude.{◌≡◌, ◌<◌, ◌≤◌, ◌+◌, ◌*◌, ◌||◌, ℕ, List, [], length, slice_index, Option, Some, true, false, is_some, option_and_then, IsSome, not, if◌then◌else◌}
use Rattle.std.specs.List.{sum_by}
use Rattle.std.specs.Option.{option_map_or}
use Rattle.rdb_base.specs.declared.identity.Manager.{Manager}
use Rattle.rdb_base.specs.declared.limits.TheConstants.{MAX_OPERATIONS, MAX_ROW}
use Rattle.rdb_base.specs.declared.operation.Op.{Op}
use Rattle.rdb_base.specs.declared.operation.Op.TheVariants as op
use Rattle.rdb_base.specs.Operations.{class_of as class_named, is_write}
use Rattle.rdb_schema.specs.declared.schema.Schema.{Schema}
use Rattle.rdb_schema.specs.Encodes.{Encodes}
use Rattle.rdb_schema.specs.Schemas.{IsSchema}
use Rattle.rdb_schema.specs.Types.{types_of}
use Rattle.rdb_pages.specs.Pages.{page_cells}
use Rattle.rdb_cells.specs.Records.{max_plan}
use Rattle.rdb_cells.specs.References.{class_head_ref, heads_of_a_class}
use Rattle.rdb_registry.specs.declared.hand.Work.{Work}
use Rattle.rdb_registry.specs.declared.seat.Seat.{Seat}
use Rattle.rdb_registry.specs.Hands.{undo_places}
use Rattle.rdb_registry.specs.Registry.{Roll, spent_by}
use Rattle.rdb_registry.specs.Seats.{EachSeat}
use Rattle.rdb_sight.specs.Versions.{Versions}
use Rattle.rdb_space.specs.Memory.{RegionCells, image_of, class_of}
use Rattle.rdb_store.specs.Shapes.{IsServed, shapes_of}
use Rattle.rdb_transactions.specs.declared.transactions.Transactions.{Transactions}
use Rattle.rdb_transactions.specs.Claims.{is_unmarked}
use Rattle.rdb_transactions.specs.Records.{is_single_writer}
use Rattle.rdb_transactions.specs.Sound.{IsSound}
use Rattle.rdb_writes.specs.Grounds.{Ground}
use Rattle.rdb_writes.specs.Steps.{spans_one_plan}
use Rattle.rdb_steps.specs.declared.state.State.{State}
use Rattle.rdb_steps.specs.Invariant.{IsKept}
use Rattle.rdb_steps.specs.Kept.{IsLawful, is_rolling_back}

-- the cells and the records, of a region's memory and its registry
abbrev pub ground_in : RegionCells → Roll → Ground
ground_in memory roll = record { image = image_of memory; class_of = class_of memory; seats = roll.seats }

abbrev pub ground_of : {P : Type 0} → State P → Ground
ground_of s = ground_in s.memory s.transactions.registry

-- what every step keeps, of these versions settled and these aimed at
abbrev pub Keeps : {P : Type 0} → State P → Versions → Versions → Type 0
Keeps s settled aimed = IsKept s.schema s.transactions.manager s.counters.serials s.counters.ids.items (ground_of s) settled aimed

-- so it is of some
abbrev pub IsKeptSomehow : {P : Type 0} → State P → Type 0
IsKeptSomehow s = (settled : Versions) × (aimed : Versions) × Keeps s settled aimed

-- how many cells a region can have: those of all pages, and a block of heads for each class
abbrev pub cell_count : Schema → RegionCells → ℕ
cell_count schema memory = page_cells * length memory.owners + heads_of_a_class * length schema.classes

-- each class of the schema has its head, and no cell is of another class
pub record HasClasses (schema : Schema) (memory : RegionCells) : Type 0 where
  pub heads : (class : ℕ) → class < length schema.classes → class_of memory (class_head_ref class).number ≡ Some class
  pub only : (n class : ℕ) → class_of memory n ≡ Some class → class < length schema.classes

-- the row that an operation writes has these bytes
abbrev pub HasBytes : Schema → Op → List ℕ → Type 0
HasBytes schema (op.New class row id) bytes = Encodes (types_of schema class) row bytes
HasBytes schema (op.Put class id row) bytes = Encodes (types_of schema class) row bytes
HasBytes schema _ bytes = bytes ≡ []

-- an operation in work is a write on a class of the schema, and its bytes are those of its row
pub record WorkFits (schema : Schema) (work : Work) : Type 0 where
  pub write : is_write work.op ≡ true
  pub class : class_named work.op < length schema.classes
  pub bytes : HasBytes schema work.op work.bytes
  pub short : length work.bytes ≤ MAX_ROW

-- how many operations a record has in its story and in work
abbrev pub operations_of : Seat → ℕ
operations_of seat = length seat.hand.done.items + (if is_some seat.hand.work then 1 else 0)

-- What a record has room for: for a plan; in its undo record for one, or, where it is the single writer's, for each cell of the region; and
-- for the operation in work, which fits. The operations of a transaction are few.
pub record IsFurnished (schema : Schema) (manager : Manager) (cells : ℕ) (seat : Seat) : Type 0 where
  pub plan : seat.hand.plan.room ≡ max_plan
  pub undo : is_single_writer manager seat ≡ false → undo_places ≤ seat.hand.undo.room
  pub single : is_single_writer manager seat ≡ true → cells ≤ seat.hand.undo.room
  pub work : (work : Work) → seat.hand.work ≡ Some work → WorkFits schema work
  pub done : IsSome seat.hand.work → 0 < seat.hand.done.room
  pub own : IsSome seat.hand.work → 0 < seat.hand.own.room
  pub few : operations_of seat ≤ MAX_OPERATIONS

-- The undo record that is lent to the single writer has a place for each cell of the region, while no writer has it; meanwhile the writer's
-- own is kept, which has room for a plan.
pub record SpareFits (cells : ℕ) (t : Transactions) : Type 0 where
  pub spare : spans_one_plan t.manager ≡ false → EachSeat (λ slot seat. is_single_writer t.manager seat ≡ false) t.registry.seats
      → cells ≤ t.spare_undo.room
  pub own : EachSeat (λ slot seat. is_single_writer t.manager seat ≡ true → undo_places ≤ t.spare_undo.room) t.registry.seats

-- how many operations a record's story has, with the one in work once its version is planned
abbrev pub planned_so_far : Seat → ℕ
planned_so_far seat = length seat.hand.done.items + (if is_some (option_and_then (λ work. work.puts) seat.hand.work) then 1 else 0)

-- how many operations a record's open transaction has planned, at most, until its ending is in the journal
abbrev pub planned_by : Seat → ℕ
planned_by seat =
    if not (is_unmarked seat) then 0
    else (if is_some seat.condemned || is_rolling_back seat.hand.phase then MAX_OPERATIONS else planned_so_far seat)

abbrev pub planned_in : Option Seat → ℕ
planned_in seat = option_map_or planned_by seat 0

-- how many operations were ever planned, at most: those of the transactions that have ended, and those of the open ones
abbrev pub ever_planned : Transactions → ℕ
ever_planned t = MAX_OPERATIONS * length t.journal.entries + sum_by planned_in t.registry.seats

-- No more serials were drawn, nor ids in a class, than operations were planned; and what a slot spent in a class is within their claims.
pub record AreFewer (drawn_serials : ℕ) (drawn_ids : List ℕ) (t : Transactions) : Type 0 where
  pub serials : drawn_serials ≤ ever_planned t
  pub ids : (class : ℕ) → slice_index drawn_ids class ≤ ever_planned t
  pub spent : (slot class : ℕ) → spent_by t.registry.spent slot class ≤ max_plan * ever_planned t

-- What is so of a World's state between two steps, whatever its cells hold: the store, the heads, the registry and the counters are those
-- of the schema, which is served; records and journal are in order; there is room for what comes; and no number runs over.
pub record IsWhole {P : Type 0} (s : State P) : Type 0 where
  pub schema : IsSchema s.schema
  pub served : IsServed s.schema
  pub lawful : IsLawful s.schema
  pub store : s.store ≡ shapes_of s.schema
  pub cells : HasClasses s.schema s.memory
  pub classes : s.transactions.registry.classes ≡ length s.schema.classes
  pub ids : length s.counters.ids.items ≡ length s.schema.classes
  pub sound : IsSound s.transactions
  pub furnished : EachSeat (λ slot. IsFurnished s.schema s.transactions.manager (cell_count s.schema s.memory)) s.transactions.registry.seats
  pub spare : SpareFits (cell_count s.schema s.memory) s.transactions
  pub fewer : AreFewer s.counters.serials s.counters.ids.items s.transactions
