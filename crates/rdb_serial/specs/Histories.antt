-- What a serial history is said of, and what each connection sees there.
use Rattle.std.specs.Prelude.{◌≡◌, ◌≤◌, ◌+◌, ◌⊎◌, ℕ, true, false, List, [], ◌∷◌, length, slice_set, Option, Some, None, if◌then◌else◌}
use Rattle.rdb_base.specs.declared.identity.TxId.{TxId}
use Rattle.rdb_base.specs.declared.journal.Entry.{Entry}
use Rattle.rdb_registry.specs.declared.seat.Transaction.{Transaction}
use Rattle.rdb_registry.specs.Seats.{Seats}
use Rattle.rdb_sight.specs.Versions.{Versions, Marks, objects_in, shown}
use Rattle.rdb_model.specs.Database.{Database, Row}
use Rattle.rdb_model.specs.Journal.{commits}
use Rattle.rdb_shown.specs.Changes.{Puts, DropsOwn, DropsGarbage}
use Rattle.rdb_serial.specs.Progress.{Progress, Course, progress_in, marks_of, tx_of, holds}

-- the journal; the progress of each connection; the ids drawn in each class; the settled versions and those aimed at
pub record History : Type 0 where
  pub journal : List Entry
  pub course : Course
  pub drawn : List ℕ
  pub settled : Versions
  pub aimed : Versions

-- that of the records by slot
abbrev pub history_of : List Entry → Seats → List ℕ → Versions → Versions → History
history_of journal seats drawn settled aimed =
    record { journal = journal; course = progress_in seats; drawn = drawn; settled = settled; aimed = aimed }

-- what is there for every connection: the history, with marks in place of the progress of each
pub record Scene : Type 0 where
  pub journal : List Entry
  pub marks : Marks
  pub drawn : List ℕ
  pub settled : Versions
  pub aimed : Versions

abbrev pub scene_of : History → Scene
scene_of h = record { journal = h.journal; marks = marks_of h.course; drawn = h.drawn; settled = h.settled; aimed = h.aimed }

-- the versions as they are seen with latches: those aimed at in the latched classes, from one on, and the settled ones in all others
abbrev pub view_from : ℕ → ℕ → Versions → Versions → Versions
view_from latches class [] aimed = []
view_from latches class (objects ∷ rest) aimed =
    (if holds latches class then objects_in aimed class else objects) ∷ view_from latches (class + 1) rest aimed

abbrev pub view : ℕ → Versions → Versions → Versions
view latches settled aimed = view_from latches 0 settled aimed

-- the versions as a connection sees them
abbrev pub view_in : Scene → Progress → Versions
view_in s p = view p.latches s.settled s.aimed

-- what a connection's open transaction is shown
abbrev pub shown_to : Scene → Progress → Transaction → Database
shown_to s p t = shown s.marks t.snapshot (Some (tx_of p t)) (view_in s p)

-- that in the latched classes versions have the objects of others, and in all other classes those that they had
pub record TakesOver (latches : ℕ) (versions others now : Versions) : Type 0 where
  pub count : length now ≡ length versions
  pub latched : (class : ℕ) → holds latches class ≡ true → objects_in now class ≡ objects_in others class
  pub elsewhere : (class : ℕ) → holds latches class ≡ false → objects_in now class ≡ objects_in versions class

-- that in a class two lists have the same objects
abbrev pub AreSameIn : ℕ → Versions → Versions → Type 0
AreSameIn class a b = objects_in a class ≡ objects_in b class

-- the versions, with those of one class from others
abbrev pub with_class : Versions → ℕ → Versions → Versions
with_class versions class others = slice_set versions class (objects_in others class)

-- that every open snapshot, and every later one, has a commit
pub record IsFloor (journal : List Entry) (course : Course) (floor : ℕ) : Type 0 where
  pub there : floor ≤ commits journal
  pub least : (slot : ℕ) (p : Progress) (t : Transaction) → course slot ≡ Some p → p.transaction ≡ Some t → floor ≤ t.snapshot

-- that one object of a class has a version of a transaction put into its chain, an earlier one of the transaction being taken out
pub record PutsOne (tx : TxId) (before after : Versions) (class : ℕ) : Type 0 where
  pub id : ℕ
  pub row : Option Row
  pub puts : Puts before after tx class id row

-- that one has a version of a transaction taken out
pub record DropsOne (tx : TxId) (before after : Versions) (class : ℕ) : Type 0 where
  pub id : ℕ
  pub drops : DropsOwn before after tx class id

-- that one has a garbage version taken out, by a floor
pub record DropsOld (journal : List Entry) (course : Course) (before after : Versions) (class : ℕ) : Type 0 where
  pub id : ℕ
  pub floor : ℕ
  pub least : IsFloor journal course floor
  pub drops : DropsGarbage (Some floor) before after class id

-- that a transaction's connection changes one chain of a class
abbrev pub IsOneChange : List Entry → Course → TxId → Versions → Versions → ℕ → Type 0
IsOneChange journal course tx before after class =
    PutsOne tx before after class ⊎ DropsOne tx before after class ⊎ DropsOld journal course before after class

-- that the holder of a class's latch has a plan there, which changes one chain of the settled versions
pub record IsPlanned (journal : List Entry) (course : Course) (settled aimed : Versions) (class : ℕ) : Type 0 where
  pub slot : ℕ
  pub progress : Progress
  pub transaction : Transaction
  pub there : course slot ≡ Some progress
  pub open_one : progress.transaction ≡ Some transaction
  pub unmarked : transaction.mark ≡ None
  pub latched : holds progress.latches class ≡ true
  pub plans : progress.plans ≡ true
  pub changes : IsOneChange journal course (tx_of progress transaction) settled (with_class settled class aimed) class

-- that a connection's latches are no other's
abbrev pub AreHeldOnce : Course → Type 0
AreHeldOnce course = (class i j : ℕ) (p q : Progress) → course i ≡ Some p → course j ≡ Some q → holds p.latches class ≡ true
    → holds q.latches class ≡ true → i ≡ j
