-- The events of commits, by the rows that objects were last written with. A pair is a commit's number and an object's id.
use Rattle.std.specs.Prelude.{◌≡◌, ℕ, ◌-◌, ◌<◌, ◌≤◌, true, false, List}
use Rattle.rdb_base.specs.declared.journal.Entry.{Entry}
use Rattle.rdb_schema.specs.declared.schema.EventKind.{EventKind}
use Rattle.rdb_model.specs.Journal.{commits}
use Rattle.rdb_model.specs.Events.{happened, is_behind}
use Rattle.rdb_history.specs.Rows.{last_row}

-- that an event of a kind happened to the object of an id in the commit of a number
pub record HappenedByRows (class : ℕ) (kind : EventKind) (journal : List Entry) (pair : ℕ × ℕ) : Type 0 where
  pub numbered : 0 < pair.0
  pub there : pair.0 ≤ commits journal
  pub changed : happened kind (last_row journal (pair.0 - 1) (class, pair.1)) (last_row journal pair.0 (class, pair.1)) ≡ true

-- that an event is the first behind a place: it happened, it is behind the place, and no other that happened behind the place is before it
pub record IsNextEvent (class : ℕ) (kind : EventKind) (journal : List Entry) (place next : ℕ × ℕ) : Type 0 where
  pub happened : HappenedByRows class kind journal next
  pub behind : is_behind place next ≡ true
  pub first : (other : ℕ × ℕ) → HappenedByRows class kind journal other → is_behind place other ≡ true → is_behind other next ≡ false

-- that no event of the first n commits is behind a place
abbrev pub HasNoEvent : ℕ → EventKind → List Entry → ℕ × ℕ → ℕ → Type 0
HasNoEvent class kind journal place n =
    (other : ℕ × ℕ) → HappenedByRows class kind journal other → other.0 ≤ n → is_behind place other ≡ false

-- that the event of a commit and of an id is the first of that commit behind a place
pub record IsLeastEvent (class : ℕ) (kind : EventKind) (journal : List Entry) (place : ℕ × ℕ) (commit id : ℕ) : Type 0 where
  pub happened : HappenedByRows class kind journal (commit, id)
  pub behind : is_behind place (commit, id) ≡ true
  pub least : (other : ℕ) → HappenedByRows class kind journal (commit, other) → is_behind place (commit, other) ≡ true → id ≤ other

-- that no event of a commit is behind a place
abbrev pub HasNoEventOf : ℕ → EventKind → List Entry → ℕ × ℕ → ℕ → Type 0
HasNoEventOf class kind journal place commit =
    (id : ℕ) → HappenedByRows class kind journal (commit, id) → is_behind place (commit, id) ≡ false
