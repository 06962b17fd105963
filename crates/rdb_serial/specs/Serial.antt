-- That a journal is one serial history, which the versions and every connection's work go on with.
use Rattle.std.specs.Prelude.{◌≡◌, ◌≢◌, ◌<◌, ◌≤◌, ◌⊎◌, ℕ, true, false, List, length, take, slice_index, Option, Some, None}
use Rattle.std.specs.List.{Contains}
use Rattle.rdb_base.specs.declared.identity.Kind.TheVariants as kind
use Rattle.rdb_base.specs.declared.identity.Manager.{Manager}
use Rattle.rdb_base.specs.declared.identity.Manager.TheVariants as managers
use Rattle.rdb_base.specs.declared.operation.Op.{Op}
use Rattle.rdb_base.specs.declared.journal.Cause.{Cause}
use Rattle.rdb_base.specs.declared.journal.Cause.TheVariants as cause
use Rattle.rdb_base.specs.declared.journal.Story.{Story}
use Rattle.rdb_base.specs.declared.journal.Entry.{Entry}
use Rattle.rdb_base.specs.declared.journal.Entry.TheVariants as entry
use Rattle.rdb_schema.specs.declared.schema.Schema.{Schema}
use Rattle.rdb_registry.specs.declared.hand.Work.{Work}
use Rattle.rdb_registry.specs.declared.seat.Transaction.{Transaction}
use Rattle.rdb_sight.specs.Versions.{Versions, Marks, shown}
use Rattle.rdb_model.specs.Database.{Database}
use Rattle.rdb_model.specs.Answer.{answer}
use Rattle.rdb_model.specs.Fits.{Fits, AllFit}
use Rattle.rdb_model.specs.Story.{run}
use Rattle.rdb_model.specs.Journal.{commits, fold, made_in, made_before, was_made, has_ended_since_leave}
use Rattle.rdb_model.specs.Parts.{HoldsOfEach, IsLegalInStretches}
use Rattle.rdb_model.specs.SerialRun.{ReadsFit}
use Rattle.rdb_model.specs.Validation.{RunsAfter, MakesAnew}
use Rattle.rdb_history.specs.RowTouch.{IsFirstTouch}
use Rattle.rdb_shown.specs.Kept.{AreVersions, IsWork}
use Rattle.rdb_serial.specs.Progress.{Progress, Course, tx_of, is_live, reply_when_done, so_far, story_with}
use Rattle.rdb_serial.specs.Histories.{History, Scene, scene_of, view_in, shown_to, AreSameIn, IsPlanned}

-- why a transaction may roll back, by the journal before its end: it was asked for; or the first commit that touches its story, with the
-- first operation that it touches; or an operation needs more cells than there are
abbrev pub IsCauseOf : Schema → List Entry → Story → Cause → Type 0
IsCauseOf schema journal story cause.Asked = Unit {0}
IsCauseOf schema journal story (cause.Conflict commit operation) = IsFirstTouch schema journal story commit operation
IsCauseOf schema journal story (cause.Full need room) = room < need

-- that a transaction may end rolled back: its story runs on the database that it saw, and its cause is one
pub record MayRollBack (schema : Schema) (journal : List Entry) (story : Story) (why : Cause) : Type 0 where
  pub runs : RunsAfter schema journal story.snapshot story
  pub because : IsCauseOf schema journal story why

-- so it is of an entry, if it is an abort
abbrev pub IsAbortAllowed : Schema → List Entry → Entry → Type 0
IsAbortAllowed schema journal (entry.Abort story why) = MayRollBack schema journal story why
IsAbortAllowed schema journal _ = Unit {0}

-- that versions show the database that the first n commits make
abbrev pub ShowsCommits : Schema → List Entry → Marks → Versions → ℕ → Type 0
ShowsCommits schema journal marks versions n = shown marks n None versions ≡ fold schema journal n

-- that objects have ids that were drawn in their classes
abbrev pub AreDrawn : List ℕ → List (ℕ × ℕ) → Type 0
AreDrawn drawn objects = (class id : ℕ) → was_made objects (class, id) ≡ true → id ≤ slice_index drawn class

-- What is so of the journal and the versions. The journal keeps the law, with aborts that are caused and reads that only read; the versions
-- are kept beside it, settled and aimed at; and the settled ones show the database that all commits make.
pub record IsScene (schema : Schema) (s : Scene) : Type 0 where
  pub law : IsLegalInStretches schema s.journal
  pub aborts : HoldsOfEach (IsAbortAllowed schema) s.journal
  pub reads : ReadsFit schema s.journal
  pub drawn : AreDrawn s.drawn (made_before s.journal)
  pub settled : AreVersions s.journal s.marks s.settled
  pub aimed : AreVersions s.journal s.marks s.aimed
  pub classes : length s.settled ≡ length schema.classes
  pub classes_aimed : length s.aimed ≡ length schema.classes
  pub current : ShowsCommits schema s.journal s.marks s.settled (commits s.journal)

-- that an open transaction began within the journal and sees the commits before that, as the settled versions show them
pub record IsBegun (schema : Schema) (s : Scene) (t : Transaction) : Type 0 where
  pub begun : t.begun ≤ length s.journal
  pub snapshot : t.snapshot ≡ commits (take t.begun s.journal)
  pub shows : ShowsCommits schema s.journal s.marks s.settled t.snapshot

-- that an operation isn't refused on a database
abbrev pub IsUnrefused : Schema → Database → Op → Type 0
IsUnrefused schema db op = (answer schema db op).0 ≡ reply_when_done op

-- Under a single writer: what it sees beside its own work is what all commits make.
abbrev pub SeesAll : Schema → Manager → Scene → Progress → Transaction → Type 0
SeesAll schema manager s p t = manager ≡ managers.Mursiw → t.kind ≡ kind.ReadWrite
    → (t.snapshot ≡ commits s.journal) × ShowsCommits schema s.journal s.marks (view_in s p) (commits s.journal)

-- What is so of an open transaction that goes on: the versions that it sees are its story's work, and show it the database in which its
-- story ended, on the one that it began with; and an operation in work without a plan isn't refused there.
pub record IsGoingOn (schema : Schema) (manager : Manager) (s : Scene) (p : Progress) (t : Transaction) : Type 0 where
  pub work : IsWork s.marks (view_in s p) (tx_of p t) t.snapshot (so_far p)
  pub runs : run schema (fold schema s.journal t.snapshot) (so_far p) ≡ Some (shown_to s p t)
  pub unrefused : (w : Work) → p.work ≡ Some w → w.puts ≡ None → IsUnrefused schema (shown_to s p t) w.op
  pub fits : AllFit schema t.kind (so_far p)
  pub fits_work : (w : Work) → p.work ≡ Some w → Fits schema w.op t.kind
  pub sees_all : SeesAll schema manager s p t

-- that the journal has the commit of a marked transaction
abbrev pub HasCommit : List Entry → Progress → Transaction → ℕ → Type 0
HasCommit journal p t commit =
    (story : Story) × Contains journal (entry.Commit story commit) × (story.client ≡ p.conn.slot) × (story.number ≡ t.number)

-- What is so of an open transaction: it began within the journal; unmarked it hasn't ended, and marked its commit stands there; as long as
-- it goes on its versions are its story's work; and where it rolls back it may.
pub record IsOpen (schema : Schema) (manager : Manager) (s : Scene) (p : Progress) (t : Transaction) : Type 0 where
  pub number : t.number ≡ p.begun
  pub begun : IsBegun schema s t
  pub unended : t.mark ≡ None → has_ended_since_leave s.journal (p.conn.slot, t.number) ≡ false
  pub committed : (commit : ℕ) → t.mark ≡ Some commit → HasCommit s.journal p t commit
  pub goes_on : t.mark ≡ None → is_live p ≡ true → IsGoingOn schema manager s p t
  pub rolls_back : (why : Cause) → t.mark ≡ None → p.cause ≡ Some why → MayRollBack schema s.journal (story_with p t p.done) why

-- What is so of a connection in a slot: of its entries since that slot was left none has a number above those that it began; its story
-- makes its objects anew, with ids that were drawn; and so it is of its open transaction.
pub record IsConnection (schema : Schema) (manager : Manager) (s : Scene) (slot : ℕ) (p : Progress) : Type 0 where
  pub place : p.conn.slot ≡ slot
  pub ended : (number : ℕ) → has_ended_since_leave s.journal (slot, number) ≡ true → number ≤ p.begun
  pub anew : MakesAnew (made_before s.journal) (so_far p)
  pub drawn : AreDrawn s.drawn (made_in (so_far p))
  pub open_one : (t : Transaction) → p.transaction ≡ Some t → IsOpen schema manager s p t

-- What is so of a slot: a free one has no entry since it was left.
abbrev pub IsSlot : Schema → Manager → Scene → ℕ → Option Progress → Type 0
IsSlot schema manager s slot None = (number : ℕ) → has_ended_since_leave s.journal (slot, number) ≡ false
IsSlot schema manager s slot (Some p) = IsConnection schema manager s slot p

-- that two stories make no object both
abbrev pub MakeApart : Progress → Progress → Type 0
MakeApart p q = (object : ℕ × ℕ) → was_made (made_in (so_far p)) object ≡ true → was_made (made_in (so_far q)) object ≡ false

-- that the stories of any two slots make no object both
abbrev pub StoriesAreApart : Course → Type 0
StoriesAreApart course = (i j : ℕ) (p q : Progress) → i ≢ j → course i ≡ Some p → course j ≡ Some q → MakeApart p q

-- where many may write: in each class the versions aimed at are the settled ones, but for the one change that its latch's holder plans
abbrev pub EachClassAgrees : Manager → History → Type 0
EachClassAgrees manager h = manager ≡ managers.Mvcc → (class : ℕ) → AreSameIn class h.aimed h.settled
    ⊎ IsPlanned h.journal h.course h.settled h.aimed class

-- The journal is one serial history, and the versions and each connection's open work go on with it.
pub record IsSerial (schema : Schema) (manager : Manager) (h : History) : Type 0 where
  pub scene : IsScene schema (scene_of h)
  pub slots : (slot : ℕ) → IsSlot schema manager (scene_of h) slot (h.course slot)
  pub apart : StoriesAreApart h.course
  pub agrees : EachClassAgrees manager h
