-- A history stays serial as one connection's progress changes and neither the journal nor any version does.
use Rattle.std.proofs.Common.{◌≡◌, ◌⊎◌, inl, inr, ℕ, ◌≤◌, true, false, List, [], ◌++◌, length, Option, Some, None, refl, sym, ap, ap₂, subst, ◌∙◌}
use Rattle.rdb_base.specs.declared.identity.Manager.{Manager}
use Rattle.rdb_base.specs.declared.identity.Manager.TheVariants as managers
use Rattle.rdb_base.specs.declared.operation.Op.{Op}
use Rattle.rdb_base.specs.declared.operation.Reply.{Reply}
use Rattle.rdb_schema.specs.declared.schema.Schema.{Schema}
use Rattle.rdb_registry.specs.declared.hand.Work.{Work}
use Rattle.rdb_registry.specs.declared.seat.Transaction.{Transaction}
use Rattle.rdb_sight.specs.Versions.{Versions, objects_in}
use Rattle.rdb_base.specs.declared.identity.TxId.{TxId}
use Rattle.rdb_model.specs.Journal.{commits, made_in, was_made}
use Rattle.rdb_serial.specs.Progress.{Progress, holds, done_by_plan, so_far, mark_in, marks_of}
use Rattle.rdb_serial.specs.Histories.{History, scene_of, AreSameIn, IsFloor, IsPlanned}
use Rattle.rdb_serial.specs.Serial.{IsConnection, IsSlot, EachClassAgrees, IsSerial}
use Rattle.rdb_serial.specs.Moves.{Turns, KeepsJournal, KeepsVersions, OnlyTurns, IsUnchanged}
use Rattle.rdb_serial.proofs.ProgressLemmas.{marks_same}
use Rattle.rdb_serial.proofs.TurnLemmas.{MakesNoMore, apart_turned, turned, KeepsPlan, planned_turned, floor_turned}

-- the floors stay, as far as one connection goes
abbrev pub KeepsSnapshots : ℕ → Progress → Progress → Type 0
KeepsSnapshots n was now = (t : Transaction) → now.transaction ≡ Some t → (n ≤ t.snapshot) ⊎ ((u : Transaction) × (was.transaction ≡ Some u) × (u.snapshot ≡ t.snapshot))

-- a plan stays, as far as one connection goes
abbrev pub KeepsOwnPlan : Progress → Progress → ℕ → Type 0
KeepsOwnPlan was now class = (t : Transaction) → was.transaction ≡ Some t → t.mark ≡ None → holds was.latches class ≡ true → was.plans ≡ true →
    (now.transaction ≡ Some t) × (now.conn ≡ was.conn) × (holds now.latches class ≡ true) × (now.plans ≡ true)

pub floors_stay : (before after : History) (slot : ℕ) (was now : Progress) → Turns before after slot (Some was) (Some now) → commits before.journal ≤ commits after.journal → KeepsSnapshots (commits before.journal) was now →
    (floor : ℕ) → IsFloor before.journal before.course floor → IsFloor after.journal after.course floor
floors_stay before after slot was now turns more keeps = floor_turned before after slot (Some was) (Some now) turns more each
  where
    each : (q : Progress) (t : Transaction) → Some now ≡ Some q → q.transaction ≡ Some t → (commits before.journal ≤ t.snapshot) ⊎ ((p : Progress) × (u : Transaction) × (Some was ≡ Some p) × (p.transaction ≡ Some u) × (u.snapshot ≡ t.snapshot))
    each q t is open_one = go (keeps t (let same : now ≡ q = (cc) in ap (λ (r : Progress). r.transaction) same ∙ open_one))
      where
        go : (commits before.journal ≤ t.snapshot) ⊎ ((u : Transaction) × (was.transaction ≡ Some u) × (u.snapshot ≡ t.snapshot)) → (commits before.journal ≤ t.snapshot) ⊎ ((p : Progress) × (u : Transaction) × (Some was ≡ Some p) × (p.transaction ≡ Some u) × (u.snapshot ≡ t.snapshot))
        go (inl le) = inl le
        go (inr had) = inr (was, had.0, refl, had.1, had.2)

pub plan_stays : (was now : Progress) (class : ℕ) → KeepsOwnPlan was now class → KeepsPlan (Some was) (Some now) class
plan_stays was now class keeps p t is open_one unmarked latched plans =
    let same : was ≡ p = (cc) in
    let kept = keeps t (ap (λ (r : Progress). r.transaction) same ∙ open_one) unmarked (ap (λ (r : Progress). holds r.latches class) same ∙ latched) (ap (λ (r : Progress). r.plans) same ∙ plans) in
    (now, refl, kept.0, kept.1 ∙ ap (λ (r : Progress). r.conn) same, kept.2, kept.3)

-- what stays as it was of a class
pub record StaysIn (before after : History) (was now : Option Progress) (class : ℕ) : Type 0 where
  pub keeps : KeepsPlan was now class
  pub settled : AreSameIn class after.settled before.settled
  pub aimed : AreSameIn class after.aimed before.aimed

-- each class agrees where it did and stays, or where it does now
pub agrees_turned : (manager : Manager) (before after : History) (slot : ℕ) (was now : Option Progress) → Turns before after slot was now →
    ((floor : ℕ) → IsFloor before.journal before.course floor → IsFloor after.journal after.course floor) → length after.settled ≡ length before.settled →
    (manager ≡ managers.Mvcc → (class : ℕ) → (AreSameIn class after.aimed after.settled ⊎ IsPlanned after.journal after.course after.settled after.aimed class) ⊎ StaysIn before after was now class) →
    EachClassAgrees manager before → EachClassAgrees manager after
agrees_turned manager before after slot was now turns floors many each agrees many_write class = go (each many_write class) (agrees many_write class)
  where
    go : (AreSameIn class after.aimed after.settled ⊎ IsPlanned after.journal after.course after.settled after.aimed class) ⊎ StaysIn before after was now class
        → AreSameIn class before.aimed before.settled ⊎ IsPlanned before.journal before.course before.settled before.aimed class
        → AreSameIn class after.aimed after.settled ⊎ IsPlanned after.journal after.course after.settled after.aimed class
    go (inl new) old = new
    go (inr stays) (inl same) = inl (stays.aimed ∙ same ∙ sym stays.settled)
    go (inr stays) (inr planned) = inr (planned_turned before after slot was now class turns stays.keeps floors many stays.settled stays.aimed planned)

-- the scene stays
pub same_scene : (before after : History) → marks_of after.course ≡ marks_of before.course → KeepsJournal before after → KeepsVersions before after → scene_of after ≡ scene_of before
same_scene before after marks journal versions = λ i. record { journal = journal.journal i; marks = marks i; drawn = journal.drawn i; settled = versions.settled i; aimed = versions.aimed i }

-- a story of nothing
pub nothing_so_far : (p : Progress) → p.done ≡ [] → p.work ≡ None → so_far p ≡ []
nothing_so_far p done work = ap₂ (λ (d : List (Op × Reply)) (w : Option Work). d ++ done_by_plan w) done work

pub makes_nothing : (was : Option Progress) (p : Progress) → so_far p ≡ [] → MakesNoMore was (Some p)
makes_nothing was p nothing object made = let none : false ≡ true = sym (ap (λ (d : List (Op × Reply)). was_made (made_in d) object) nothing) ∙ made in (cc)

-- a history in which one connection's progress changes, and nothing else
pub turned_still : (schema : Schema) (manager : Manager) (before after : History) (slot : ℕ) (was : Option Progress) (now : Progress) → OnlyTurns before after slot was (Some now) → IsSerial schema manager before →
    ((tx : TxId) → mark_in tx (Some now) ≡ mark_in tx was) →
    ((floor : ℕ) → IsFloor before.journal before.course floor → IsFloor after.journal after.course floor) →
    (manager ≡ managers.Mvcc → (class : ℕ) → KeepsPlan was (Some now) class) → MakesNoMore was (Some now) →
    IsConnection schema manager (scene_of before) slot now → IsSerial schema manager after
turned_still schema manager before after slot was now turns serial marks floors keeps no_more is =
    turned schema manager before after (scene_of before) slot was (Some now) turns.turns scene serial serial.scene (λ other p differs there had. had) (λ other number differs free. free) is
    (apart_turned before.course after.course slot turns.turns.others more serial.apart)
    (agrees_turned manager before after slot was (Some now) turns.turns floors (ap (λ (vs : Versions). length vs) turns.versions.settled)
    (λ many class. inr (record { keeps = keeps many class; settled = ap (λ (vs : Versions). objects_in vs class) turns.versions.settled; aimed = ap (λ (vs : Versions). objects_in vs class) turns.versions.aimed }))
    serial.agrees)
  where
    here : (tx : TxId) → mark_in tx (after.course slot) ≡ mark_in tx (before.course slot)
    here tx = ap (mark_in tx) turns.turns.is_there ∙ marks tx ∙ sym (ap (mark_in tx) turns.turns.was_there)

    scene : scene_of after ≡ scene_of before
    scene = same_scene before after (marks_same before.course after.course slot turns.turns.others here) turns.journal turns.versions

    more : MakesNoMore (before.course slot) (after.course slot)
    more = subst (λ (o : Option Progress). MakesNoMore o (after.course slot)) (sym turns.turns.was_there) (subst (λ (o : Option Progress). MakesNoMore was o) (sym turns.turns.is_there) no_more)

-- what is so of a connection that is there
pub connection_of : (schema : Schema) (manager : Manager) (h : History) (slot : ℕ) (p : Progress) → IsSerial schema manager h → h.course slot ≡ Some p → IsConnection schema manager (scene_of h) slot p
connection_of schema manager h slot p serial there = subst (IsSlot schema manager (scene_of h) slot) there (serial.slots slot)

-- nothing changes
pub unchanged : (schema : Schema) (manager : Manager) (before after : History) → IsSerial schema manager before → IsUnchanged before after → IsSerial schema manager after
unchanged schema manager before after serial same = subst (IsSerial schema manager) (sym one) serial
  where
    one : after ≡ before
    one = λ i. record {
      journal = same.journal.journal i;
      course = λ slot. same.course slot i;
      drawn = same.journal.drawn i;
      settled = same.versions.settled i;
      aimed = same.versions.aimed i;
    }
