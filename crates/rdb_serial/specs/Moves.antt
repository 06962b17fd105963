-- The moves of one connection that the serial history rests on: what each asks of the history before it, and what it leaves after it.
use Rattle.std.specs.Prelude.{◌≡◌, ◌≢◌, ◌<◌, ◌≤◌, ◌+◌, ◌∷◌, ◌++◌, ◌⊎◌, ℕ, Bool, true, false, List, [], length, replicate, slice_index, Option, Some, None}
use Rattle.rdb_base.specs.declared.identity.Kind.{Kind}
use Rattle.rdb_base.specs.declared.identity.Kind.TheVariants as kind
use Rattle.rdb_base.specs.declared.identity.Manager.{Manager}
use Rattle.rdb_base.specs.declared.identity.Manager.TheVariants as managers
use Rattle.rdb_base.specs.declared.operation.Op.{Op}
use Rattle.rdb_base.specs.declared.operation.Op.TheVariants as op
use Rattle.rdb_base.specs.declared.operation.Reply.{Reply}
use Rattle.rdb_base.specs.declared.journal.Cause.{Cause}
use Rattle.rdb_base.specs.declared.journal.Story.{Story}
use Rattle.rdb_base.specs.declared.journal.Entry.{Entry}
use Rattle.rdb_base.specs.declared.journal.Entry.TheVariants as entry
use Rattle.rdb_base.specs.Operations.{class_of}
use Rattle.rdb_pages.specs.declared.cell.CellRef.{CellRef}
use Rattle.rdb_schema.specs.declared.schema.Schema.{Schema}
use Rattle.rdb_registry.specs.declared.hand.Work.{Work}
use Rattle.rdb_registry.specs.declared.seat.Transaction.{Transaction}
use Rattle.rdb_registry.specs.Seats.{beginning, marked}
use Rattle.rdb_model.specs.Answer.{answer}
use Rattle.rdb_model.specs.Fits.{Fits}
use Rattle.rdb_model.specs.Journal.{commits}
use Rattle.rdb_model.specs.Touch.{written_by}
use Rattle.rdb_history.specs.Rows.{row_left}
use Rattle.rdb_history.specs.RowTouch.{IsUntouched}
use Rattle.rdb_shown.specs.Changes.{Puts, DropsOwn, DropsGarbage, Stamps, HasNone}
use Rattle.rdb_serial.specs.Progress.{Progress, Course, tx_of, holds, is_live, so_far, story_with, marks_of}
use Rattle.rdb_serial.specs.Histories.{History, scene_of, shown_to, TakesOver, AreSameIn, IsFloor}
use Rattle.rdb_serial.specs.Serial.{IsCauseOf, IsUnrefused}

-- one slot's progress is another, none where the slot is free; all others stay
pub record Turns (before after : History) (slot : ℕ) (was now : Option Progress) : Type 0 where
  pub was_there : before.course slot ≡ was
  pub is_there : after.course slot ≡ now
  pub others : (other : ℕ) → other ≢ slot → after.course other ≡ before.course other

-- the journal and the ids drawn stay
pub record KeepsJournal (before after : History) : Type 0 where
  pub journal : after.journal ≡ before.journal
  pub drawn : after.drawn ≡ before.drawn

-- both lists of versions stay
pub record KeepsVersions (before after : History) : Type 0 where
  pub settled : after.settled ≡ before.settled
  pub aimed : after.aimed ≡ before.aimed

-- one slot's progress is another, and all else stays
pub record OnlyTurns (before after : History) (slot : ℕ) (was now : Option Progress) : Type 0 where
  pub turns : Turns before after slot was now
  pub journal : KeepsJournal before after
  pub versions : KeepsVersions before after

-- one slot's progress is another as an entry is appended, and all else stays
pub record Enters (before after : History) (slot : ℕ) (was now : Option Progress) (e : Entry) : Type 0 where
  pub turns : Turns before after slot was now
  pub entered : after.journal ≡ before.journal ++ e ∷ []
  pub drawn : after.drawn ≡ before.drawn
  pub versions : KeepsVersions before after

-- A connection has an open transaction, which isn't marked.
pub record IsOpenOf (p : Progress) (t : Transaction) : Type 0 where
  pub open_one : p.transaction ≡ Some t
  pub unmarked : t.mark ≡ None

-- It goes on with it, and no operation is in work.
pub record IsFreeOf (p : Progress) (t : Transaction) : Type 0 where
  pub open_one : p.transaction ≡ Some t
  pub unmarked : t.mark ≡ None
  pub live : is_live p ≡ true
  pub work : p.work ≡ None

-- Latches are had beside others, of classes in which nobody aims at anything but the settled versions.
pub record TakesLatches (h : History) (had latches : ℕ) : Type 0 where
  pub keeps : (class : ℕ) → holds had class ≡ true → holds latches class ≡ true
  pub free : (class : ℕ) → holds latches class ≡ true → holds had class ≡ false → AreSameIn class h.aimed h.settled

-- Latches are given up, of classes in which the connection aims at the settled versions.
pub record GivesLatches (h : History) (had latches : ℕ) : Type 0 where
  pub had_them : (class : ℕ) → holds latches class ≡ true → holds had class ≡ true
  pub given : (class : ℕ) → holds had class ≡ true → holds latches class ≡ false → AreSameIn class h.aimed h.settled

-- Nothing was done yet: there are no entry, no connection, and no version in any of so many classes.
pub record IsEmpty (classes : ℕ) (h : History) : Type 0 where
  pub journal : h.journal ≡ []
  pub course : (slot : ℕ) → h.course slot ≡ None
  pub settled : h.settled ≡ replicate classes []
  pub aimed : h.aimed ≡ replicate classes []

-- A connection comes: it has begun nothing.
pub record Comes (before after : History) (slot : ℕ) (now : Progress) : Type 0 where
  pub turns : OnlyTurns before after slot None (Some now)
  pub place : now.conn.slot ≡ slot
  pub transaction : now.transaction ≡ None
  pub done : now.done ≡ []
  pub work : now.work ≡ None

-- the progress of a connection that begins a transaction when the journal is so
abbrev pub begins : Kind → ℕ → ℕ → ℕ → Progress → Progress
begins kind begun snapshot latches p = record p {
  begun = p.begun + 1;
  transaction = Some (beginning (p.begun + 1) kind begun snapshot);
  latches = latches;
}

-- A transaction begins: it sees all commits so far, no version is named after it, and its latches are of classes in which nobody aims at
-- anything but the settled versions.
pub record Begins (before after : History) (slot : ℕ) (k : Kind) : Type 0 where
  pub was : Progress
  pub latches : ℕ
  pub turns : OnlyTurns before after slot (Some was) (Some (begins k (length before.journal) (commits before.journal) latches was))
  pub transaction : was.transaction ≡ None
  pub cause : was.cause ≡ None
  pub done : was.done ≡ []
  pub work : was.work ≡ None
  pub unnamed : HasNone before.settled (record { conn = was.conn; number = was.begun + 1 })
  pub unnamed_aimed : HasNone before.aimed (record { conn = was.conn; number = was.begun + 1 })
  pub free : (class : ℕ) → holds latches class ≡ true → AreSameIn class before.aimed before.settled

-- An operation that wrote nothing, a read or a refused write, is noted with the plain answer on what the transaction is shown.
pub record Notes (schema : Schema) (before after : History) (slot : ℕ) (o : Op) (told : Reply) : Type 0 where
  pub was : Progress
  pub transaction : Transaction
  pub free : IsFreeOf was transaction
  pub turns : OnlyTurns before after slot (Some was) (Some (record was { done = was.done ++ (o, told) ∷ [] }))
  pub fits : Fits schema o transaction.kind
  pub answered : told ≡ (answer schema (shown_to (scene_of before) was transaction) o).0
  pub writes_none : written_by (o, told) ≡ None

-- A write that isn't refused on what the transaction is shown is taken into work, with the latch of its class.
pub record TakesWork (schema : Schema) (before after : History) (slot : ℕ) (work : Work) : Type 0 where
  pub was : Progress
  pub transaction : Transaction
  pub latches : ℕ
  pub free : IsFreeOf was transaction
  pub turns : OnlyTurns before after slot (Some was) (Some (record was { work = Some work; latches = latches }))
  pub unplanned : work.puts ≡ None
  pub fits : Fits schema work.op transaction.kind
  pub unrefused : IsUnrefused schema (shown_to (scene_of before) was transaction) work.op
  pub takes : TakesLatches before was.latches latches

-- A connection with an operation in work, whose own plan isn't made, has no plan.
pub record IsToPlan (p : Progress) (t : Transaction) (work : Work) : Type 0 where
  pub open_one : IsOpenOf p t
  pub live : is_live p ≡ true
  pub in_work : p.work ≡ Some work
  pub unplanned : work.puts ≡ None
  pub plans : p.plans ≡ false

-- It plans the drop of a garbage version of a class whose latch it holds.
pub record PlansGarbage (before after : History) (slot class id floor : ℕ) : Type 0 where
  pub was : Progress
  pub transaction : Transaction
  pub work : Work
  pub to_plan : IsToPlan was transaction work
  pub turns : Turns before after slot (Some was) (Some (record was { plans = true }))
  pub journal : KeepsJournal before after
  pub settled : after.settled ≡ before.settled
  pub latched : holds was.latches class ≡ true
  pub least : IsFloor before.journal before.course floor
  pub drops : DropsGarbage (Some floor) before.aimed after.aimed class id

-- an operation, with the id of the object that it makes
abbrev pub with_id : ℕ → Op → Op
with_id id (op.New class row was) = op.New class row id
with_id id o = o

-- an id is drawn in a class: one above all that were drawn there
pub record DrawsId (class id : ℕ) (drawn now : List ℕ) : Type 0 where
  pub above : slice_index drawn class < id
  pub counted : id ≤ slice_index now class
  pub grows : (other : ℕ) → slice_index drawn other ≤ slice_index now other

-- the object that an operation writes: one with a new id where it makes one, else the one that it names
abbrev pub WritesObject : Op → ℕ → List ℕ → List ℕ → Type 0
WritesObject (op.New class row was) id drawn now = DrawsId class id drawn now
WritesObject (op.Put class named row) id drawn now = (id ≡ named) × (now ≡ drawn)
WritesObject (op.Del class named) id drawn now = (id ≡ named) × (now ≡ drawn)
WritesObject _ id drawn now = ⊥

-- It makes the own plan of the operation in work, which puts a version of what the operation leaves of its object.
pub record PlansOwn (before after : History) (slot id : ℕ) (version : CellRef) : Type 0 where
  pub was : Progress
  pub transaction : Transaction
  pub work : Work
  pub to_plan : IsToPlan was transaction work
  pub planned : Work
  pub op_is : planned.op ≡ with_id id work.op
  pub puts_is : planned.puts ≡ Some version
  pub turns : Turns before after slot (Some was) (Some (record was { work = Some planned; plans = true }))
  pub journal : after.journal ≡ before.journal
  pub object : WritesObject work.op id before.drawn after.drawn
  pub settled : after.settled ≡ before.settled
  pub latched : holds was.latches (class_of work.op) ≡ true
  pub puts : Puts before.aimed after.aimed (tx_of was transaction) (class_of work.op) id (row_left work.op)

-- The last cell of a plan is written where many may write: what its connection aims at in its classes is settled.
pub record Settles (before after : History) (slot : ℕ) : Type 0 where
  pub was : Progress
  pub turns : Turns before after slot (Some was) (Some (record was { plans = false }))
  pub journal : KeepsJournal before after
  pub aimed : after.aimed ≡ before.aimed
  pub settled : TakesOver was.latches before.settled before.aimed after.settled

-- The last cell of a plan of a single writer is written, and its operation goes on: nothing is settled before its transaction is marked.
pub record WritesOut (manager : Manager) (before after : History) (slot : ℕ) : Type 0 where
  pub was : Progress
  pub single : manager ≡ managers.Mursiw
  pub turns : OnlyTurns before after slot (Some was) (Some (record was { plans = false }))

-- The operation in work is done, its own plan being written: it stands in the story with its reply. Where many may write, its versions are
-- settled, and its latch is given up.
pub record Finishes (manager : Manager) (before after : History) (slot : ℕ) (version : CellRef) : Type 0 where
  pub was : Progress
  pub transaction : Transaction
  pub work : Work
  pub latches : ℕ
  pub open_one : IsOpenOf was transaction
  pub live : is_live was ≡ true
  pub in_work : was.work ≡ Some work
  pub planned : work.puts ≡ Some version
  pub written : manager ≡ managers.Mvcc → was.plans ≡ false
  pub turns :
      OnlyTurns before after slot (Some was)
      (Some (record was { done = so_far was; work = None; plans = false; latches = latches }))
  pub gives : GivesLatches before was.latches latches

-- A roll-back begins, for a cause.
pub record RollsBack (schema : Schema) (before after : History) (slot : ℕ) (why : Cause) : Type 0 where
  pub was : Progress
  pub transaction : Transaction
  pub open_one : IsOpenOf was transaction
  pub live : is_live was ≡ true
  pub turns : OnlyTurns before after slot (Some was) (Some (record was { cause = Some why }))
  pub because : IsCauseOf schema before.journal (story_with was transaction was.done) why

-- A connection is condemned.
pub record IsCondemned (before after : History) (slot : ℕ) : Type 0 where
  pub was : Progress
  pub turns : OnlyTurns before after slot (Some was) (Some (record was { condemned = true }))

-- A connection that doesn't go on gives up what it aimed at, and what it likes of its work, its plan and its latches: what it aimed at is
-- no longer spoken of.
pub record LaysDown (before after : History) (slot : ℕ) : Type 0 where
  pub was : Progress
  pub work : Option Work
  pub latches : ℕ
  pub plans : Bool
  pub given_up : is_live was ≡ false
  pub turns : Turns before after slot (Some was) (Some (record was { work = work; plans = plans; latches = latches }))
  pub journal : KeepsJournal before after
  pub work_is : (work ≡ was.work) ⊎ (work ≡ None)
  pub had_them : (class : ℕ) → holds latches class ≡ true → holds was.latches class ≡ true
  pub settled : after.settled ≡ before.settled
  pub aimed : TakesOver was.latches before.aimed before.settled after.aimed

-- A connection that doesn't go on plans the drop of a version of its open transaction, and takes the latch of its class.
pub record PlansDrop (before after : History) (slot class id : ℕ) : Type 0 where
  pub was : Progress
  pub transaction : Transaction
  pub latches : ℕ
  pub open_one : IsOpenOf was transaction
  pub given_up : is_live was ≡ false
  pub plans : was.plans ≡ false
  pub turns : Turns before after slot (Some was) (Some (record was { plans = true; latches = latches }))
  pub journal : KeepsJournal before after
  pub settled : after.settled ≡ before.settled
  pub takes : TakesLatches before was.latches latches
  pub latched : holds latches class ≡ true
  pub drops : DropsOwn before.aimed after.aimed (tx_of was transaction) class id

-- the progress of a connection whose transaction is over
abbrev pub ended : ℕ → Progress → Progress
ended latches p = record p { transaction = None; done = []; latches = latches; cause = None }

-- Nothing is in work, and no plan is left.
pub record IsAtRest (p : Progress) : Type 0 where
  pub work : p.work ≡ None
  pub plans : p.plans ≡ false

-- A transaction that only read is over, and its Read stands in the journal.
pub record EndsRead (before after : History) (slot : ℕ) : Type 0 where
  pub was : Progress
  pub transaction : Transaction
  pub latches : ℕ
  pub free : IsFreeOf was transaction
  pub reads : transaction.kind ≡ kind.ReadOnly
  pub rest : IsAtRest was
  pub enters : Enters before after slot (Some was) (Some (ended latches was)) (entry.Read (story_with was transaction was.done))

-- A roll-back is over, and its Abort stands in the journal.
pub record EndsRolledBack (before after : History) (slot : ℕ) : Type 0 where
  pub was : Progress
  pub transaction : Transaction
  pub latches : ℕ
  pub why : Cause
  pub open_one : IsOpenOf was transaction
  pub cause : was.cause ≡ Some why
  pub rest : IsAtRest was
  pub enters : Enters before after slot (Some was) (Some (ended latches was)) (entry.Abort (story_with was transaction was.done) why)

-- no other connection has an open transaction
abbrev pub IsAlone : Course → ℕ → Type 0
IsAlone course slot = (other : ℕ) (p : Progress) (t : Transaction) → other ≢ slot → course other ≡ Some p
    → p.transaction ≡ Some t → ⊥

-- What a mark asks where many may write: no commit above its snapshot touches the story, and the connection holds no latch.
pub record MayMarkAmongMany (schema : Schema) (h : History) (p : Progress) (t : Transaction) : Type 0 where
  pub untouched : IsUntouched schema h.journal (story_with p t p.done)
  pub latches : p.latches ≡ 0

-- What it asks of a single writer: it holds the latch of each class, and nobody else has an open transaction.
pub record MayMarkAlone (h : History) (slot : ℕ) (p : Progress) : Type 0 where
  pub alone : IsAlone h.course slot
  pub latched : (class : ℕ) → class < length h.settled → holds p.latches class ≡ true

-- the entry of a story that is the next commit
abbrev pub next_commit : List Entry → Story → Entry
next_commit journal story = entry.Commit story (commits journal + 1)

-- the progress of a connection whose transaction is marked
abbrev pub marks : ℕ → Progress → Transaction → Progress
marks commit p t = record p { transaction = Some (marked commit t); done = [] }

-- A transaction is marked as the next commit, and its story stands in the journal; what it aims at in its classes is settled.
pub record Marks (schema : Schema) (manager : Manager) (before after : History) (slot : ℕ) : Type 0 where
  pub was : Progress
  pub transaction : Transaction
  pub free : IsFreeOf was transaction
  pub writes : transaction.kind ≡ kind.ReadWrite
  pub plans : was.plans ≡ false
  pub turns : Turns before after slot (Some was) (Some (marks (commits before.journal + 1) was transaction))
  pub entered : after.journal ≡ before.journal ++ next_commit before.journal (story_with was transaction was.done) ∷ []
  pub drawn : after.drawn ≡ before.drawn
  pub aimed : after.aimed ≡ before.aimed
  pub settled : TakesOver was.latches before.settled before.aimed after.settled
  pub many : manager ≡ managers.Mvcc → MayMarkAmongMany schema before was transaction
  pub single : manager ≡ managers.Mursiw → MayMarkAlone before slot was

-- A version of a marked transaction is stamped, among the settled ones and among those aimed at.
pub record StampsVersion (manager : Manager) (before after : History) (slot class id : ℕ) : Type 0 where
  pub was : Progress
  pub transaction : Transaction
  pub there : before.course slot ≡ Some was
  pub open_one : was.transaction ≡ Some transaction
  pub course : (other : ℕ) → after.course other ≡ before.course other
  pub journal : KeepsJournal before after
  pub settled : Stamps (marks_of before.course) before.settled after.settled (tx_of was transaction) class id
  pub aimed : Stamps (marks_of before.course) before.aimed after.aimed (tx_of was transaction) class id
  pub same : manager ≡ managers.Mvcc → AreSameIn class after.aimed after.settled

-- no version is of a transaction any more
pub record IsUnused (h : History) (p : Progress) (t : Transaction) : Type 0 where
  pub settled : HasNone h.settled (tx_of p t)
  pub aimed : HasNone h.aimed (tx_of p t)

-- A marked transaction whose versions are all stamped is over.
pub record EndsCommitted (before after : History) (slot commit : ℕ) : Type 0 where
  pub was : Progress
  pub transaction : Transaction
  pub latches : ℕ
  pub open_one : was.transaction ≡ Some transaction
  pub is_marked : transaction.mark ≡ Some commit
  pub rest : IsAtRest was
  pub unused : IsUnused before was transaction
  pub turns : OnlyTurns before after slot (Some was) (Some (ended latches was))

-- A connection without an open transaction takes leave.
pub record Closes (before after : History) (slot : ℕ) : Type 0 where
  pub was : Progress
  pub transaction : was.transaction ≡ None
  pub enters : Enters before after slot (Some was) None (entry.Closed slot)

-- Leave is taken of a connection that was condemned, of whose marked transaction no version lacks its stamp.
pub record IsHandled (before after : History) (slot by at : ℕ) (finished : Bool) : Type 0 where
  pub was : Progress
  pub plans : was.plans ≡ false
  pub unused : (t : Transaction) (commit : ℕ) → was.transaction ≡ Some t → t.mark ≡ Some commit → IsUnused before was t
  pub enters : Enters before after slot (Some was) None (entry.Handled slot by at finished)

-- Nothing of all this changes.
pub record IsUnchanged (before after : History) : Type 0 where
  pub course : (slot : ℕ) → after.course slot ≡ before.course slot
  pub journal : KeepsJournal before after
  pub versions : KeepsVersions before after
