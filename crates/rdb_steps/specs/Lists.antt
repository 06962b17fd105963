-- What a step leaves of the two lists of versions: the settled ones and those aimed at.
use Rattle.std.specs.Prelude.{◌≡◌, ◌≢◌, ◌+◌, ◌==◌, ◌∷◌, ◌++◌, ◌⊎◌, ℕ, List, [], false, true, Some, None, IsSome, if◌then◌else◌}
use Rattle.std.specs.Int.{bit_at}
use Rattle.std.specs.Option.{option_map}
use Rattle.rdb_base.specs.declared.identity.ConnId.{ConnId}
use Rattle.rdb_base.specs.declared.identity.Manager.{Manager}
use Rattle.rdb_base.specs.declared.identity.Stamp.{Stamp}
use Rattle.rdb_schema.specs.declared.schema.Schema.{Schema}
use Rattle.rdb_pages.specs.declared.cell.Cell.{Cell}
use Rattle.rdb_pages.specs.Pages.{zero_cell}
use Rattle.rdb_cells.specs.declared.pairs.Pair.{Pair}
use Rattle.rdb_cells.specs.Images.{SameImage, Writes}
use Rattle.rdb_cells.specs.Records.{names, planned}
use Rattle.rdb_cells.specs.Work.{Work, reading}
use Rattle.rdb_registry.specs.declared.hand.Hand.{Hand}
use Rattle.rdb_registry.specs.declared.seat.Seat.{Seat}
use Rattle.rdb_registry.specs.declared.seat.Transaction.{Transaction}
use Rattle.rdb_registry.specs.OwnWrites.{header_of}
use Rattle.rdb_registry.specs.Seats.{EachSeat, HoldsLatch, NoneHolds, with_latches}
use Rattle.rdb_sight.specs.Versions.{Version, Object, Versions, objects_in, chain_of, chain_in, with_chain, with_chain_in, own_version}
use Rattle.rdb_store.specs.Plans.{Restamps}
use Rattle.rdb_store.specs.Shapes.{schema_class}
use Rattle.rdb_store.specs.Stored.{ref_of}
use Rattle.rdb_writes.specs.Changes.{ChangesHand}
use Rattle.rdb_writes.specs.Grounds.{Ground, settled_image}
use Rattle.rdb_writes.specs.Steps.{spans_one_plan}
use Rattle.rdb_steps.specs.Kept.{Agrees, HoldsClass, aims, takes_back, tx_of}

-- whatever versions are settled and aimed at before, afterwards these are
abbrev pub Leaves : Schema → Manager → Ground → Ground → (Versions → Versions → Versions) → (Versions → Versions → Versions) → Type 0
Leaves schema manager before after settled_now aimed_now = (settled aimed : Versions) → Agrees schema manager before settled aimed →
    Agrees schema manager after (settled_now settled aimed) (aimed_now settled aimed)

-- the settled versions, and those aimed at, as they are
abbrev pub the_settled : Versions → Versions → Versions
the_settled settled aimed = settled

abbrev pub the_aimed : Versions → Versions → Versions
the_aimed settled aimed = aimed

-- under MURSIW whoever writes a plan isn't taking back
abbrev pub WritesLive : Manager → Seat → Type 0
WritesLive manager seat = spans_one_plan manager ≡ false → takes_back manager seat ≡ false

-- the cells that come are zero
abbrev pub ComeZero : Ground → Ground → Type 0
ComeZero before after = (n : ℕ) → before.class_of n ≡ None → IsSome (after.class_of n) → after.image n ≡ Some zero_cell

-- the latches that a connection takes beside its own are held by nobody
pub record TakesFree (before : Ground) (seat : Seat) (latches : ℕ) : Type 0 where
  pub keeps : (class : ℕ) → HoldsLatch seat class → HoldsLatch (with_latches latches seat) class
  pub free : (class : ℕ) → HoldsLatch (with_latches latches seat) class → ¬ HoldsLatch seat class → NoneHolds before.seats class

-- both lists stay
abbrev pub KeepsLists : Schema → Manager → Ground → Ground → Type 0
KeepsLists schema manager before after = Leaves schema manager before after the_settled the_aimed

-- the versions, from a class on, with those of the latched classes from another list
abbrev pub taken_over_from : ℕ → ℕ → Versions → Versions → Versions
taken_over_from latches class [] others = []
taken_over_from latches class (objects ∷ rest) others =
    (if bit_at latches class == 1 then objects_in others class else objects) ∷ taken_over_from latches (class + 1) rest others

-- the versions, with those of a connection's classes from another list
abbrev pub taken_over : Seat → Versions → Versions → Versions
taken_over seat versions others = taken_over_from seat.latches 0 versions others

-- a plan is written whole, or a commit is marked: what a connection aimed at is settled
abbrev pub Settles : Schema → Manager → Ground → Ground → Seat → Type 0
Settles schema manager before after seat = Leaves schema manager before after (taken_over seat) the_aimed

-- a plan or a latch is given up: what a connection aimed at is no longer spoken of
abbrev pub GivesUp : Schema → Manager → Ground → Ground → Seat → Type 0
GivesUp schema manager before after seat = Leaves schema manager before after the_settled (λ settled aimed. taken_over seat aimed settled)

-- a version's chain with another stamp of it
abbrev pub restamped : List Version → Version → List Version → Stamp → List Version
restamped newer v older stamp = newer ++ record v { stamp = stamp } ∷ older

-- a version of an object has another stamp, in both lists
abbrev pub StampsVersion : Schema → Manager → Ground → Ground → ℕ → ℕ → Stamp → Type 0
StampsVersion schema manager before after class header stamp = (settled aimed : Versions) (id : ℕ) (newer older : List Version)
    (v : Version) → Agrees schema manager before settled aimed → chain_in settled class id ≡ newer ++ v ∷ older → v.header ≡ header →
    Agrees schema manager after (with_chain_in settled class id (restamped newer v older stamp))
    (with_chain_in aimed class id (restamped newer v older stamp))

-- Nobody has work unfinished in a class: whoever holds its latch has neither a plan nor a pair.
abbrev pub RestsThere : Ground → ℕ → Type 0
RestsThere g class = EachSeat (λ slot seat. HoldsLatch seat class → (seat.hand.plan.pairs ≡ []) × (seat.hand.undo.pairs ≡ [])) g.seats

-- a header of a class is written with another stamp, and no other cell
pub record WritesStamp (schema : Schema) (before after : Ground) (class header : ℕ) (stamp : Stamp) : Type 0 where
  pub cell : Cell
  pub of : before.class_of header ≡ Some class
  pub written : Writes before.image after.image header cell
  pub settled : Writes (settled_image before) (settled_image after) header cell
  pub classes : (n : ℕ) → after.class_of n ≡ before.class_of n
  pub records : after.seats ≡ before.seats
  pub restamps : Restamps (schema_class schema class) before.image after.image before.class_of header stamp

-- once these pairs are written, a class's cells hold what they did, where one object has this chain, with another chain of that object
abbrev pub LeadsTo : Schema → Ground → List Pair → ℕ → ℕ → List Version → List Version → Type 0
LeadsTo schema g pairs class id was chain = (objects : List Object) → HoldsClass schema g g.image class objects →
    chain_of objects id ≡ was → HoldsClass schema g (planned pairs g.image) class (with_chain objects id chain)

-- the work on a plan began over these cells, and these pairs are read as its plan
pub record IsPlanOf (g : Ground) (began ended : Work) (pairs : List Pair) : Type 0 where
  pub below : (n : ℕ) → began.below n ≡ g.image n
  pub classes : (n : ℕ) → began.class_of n ≡ g.class_of n
  pub classes_after : (n : ℕ) → ended.class_of n ≡ g.class_of n
  pub read : SameImage (planned pairs g.image) (reading ended)

-- A connection without a plan, whose aims are spoken of or who has nothing to take back, has one for a class whose latch it holds. It has
-- cells of that class alone, and leads from whatever the class's cells hold, where one object has this chain, to the same with another
-- chain of that object.
pub record LaysPlan (schema : Schema) (manager : Manager) (before after : Ground) (c : ConnId) (seat : Seat) (hand : Hand) (class id : ℕ)
    (was chain : List Version) : Type 0 where
  pub changes : ChangesHand before after c seat hand
  pub undo : hand.undo.pairs ≡ seat.hand.undo.pairs
  pub had_none : seat.hand.plan.pairs ≡ []
  pub stands : (aims manager seat ≡ true) ⊎ (seat.hand.undo.pairs ≡ [])
  pub aims : aims manager (record seat { hand = hand }) ≡ true
  pub latch : HoldsLatch seat class
  pub only : (n : ℕ) → names hand.plan.pairs n ≡ true → before.class_of n ≡ Some class
  pub leads : LeadsTo schema before hand.plan.pairs class id was chain

-- the object of a class and an id, which has this chain, will have another; the settled versions stay
abbrev pub AimsAtChain : Schema → Manager → Ground → Ground → ℕ → ℕ → List Version → List Version → Type 0
AimsAtChain schema manager before after class id was chain = (settled aimed : Versions) → Agrees schema manager before settled aimed →
    chain_in aimed class id ≡ was → Agrees schema manager after settled (with_chain_in aimed class id chain)

-- A record's own writes follow its transaction's versions as the object of a class and an id has this chain: they have of that object what
-- the chain has of the transaction, and of others what they had.
pub record OwnFollow (seat now : Seat) (class id : ℕ) (chain : List Version) : Type 0 where
  pub conn : now.conn ≡ seat.conn
  pub transaction : now.transaction ≡ seat.transaction
  pub here : (t : Transaction) → seat.transaction ≡ Some t
      → header_of now.hand.own.items (class, id) ≡ option_map ref_of (own_version (tx_of seat t) chain)
  pub others : (object : ℕ × ℕ) → object ≢ (class, id) → header_of now.hand.own.items object ≡ header_of seat.hand.own.items object
