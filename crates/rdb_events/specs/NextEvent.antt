-- The next event of a class's event behind a place, by the rows that objects were last written with.
use Rattle.std.specs.Prelude.{ℕ, List, Option, IsSomeAnd, MatchOption}
use Rattle.rdb_base.specs.declared.journal.Entry.{Entry}
use Rattle.rdb_schema.specs.declared.schema.Schema.{Schema}
use Rattle.rdb_model.specs.Journal.{commits}
use Rattle.rdb_model.specs.Events.{event_kind}
use Rattle.rdb_history.specs.RowEvents.{IsNextEvent, HasNoEvent}
use Rattle.rdb_events.specs.declared.events.Found.{Found}

-- an event as a pair of a commit and an id
abbrev pub pair_found : Found → ℕ × ℕ
pair_found found = (found.commit, found.id)

-- that an event is the first behind a place, or that there is none
abbrev pub IsNextOf : Schema → ℕ → ℕ → List Entry → ℕ × ℕ → Option (ℕ × ℕ) → Type 0
IsNextOf schema class event journal place found =
    IsSomeAnd (event_kind schema class event)
    (λ kind. MatchOption found (HasNoEvent class kind journal place (commits journal)) (IsNextEvent class kind journal place))
