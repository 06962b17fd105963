-- The events of commits: what happened to each object, by the database before and after a commit.
use Rattle.std.specs.Prelude.{◌≡◌, ℕ, zero, suc, ◌+◌, ◌-◌, ◌<◌, ◌≤◌, Bool, true, false, ◌&&◌, ◌||◌, ◌==◌, nat_lt, not, List, [], ◌∷◌, ◌++◌, map, slice_get, Option, Some, None, if◌then◌else◌}
use Rattle.std.specs.List.{filter, find, flat_map, cons_option}
use Rattle.std.specs.Option.{option_map, option_map_or}
use Rattle.std.specs.Ordering.{is_eq}
use Rattle.rdb_base.specs.Order.{row_order}
use Rattle.rdb_base.specs.declared.journal.Entry.{Entry}
use Rattle.rdb_schema.specs.declared.schema.EventKind.{EventKind}
use Rattle.rdb_schema.specs.declared.schema.EventKind.TheVariants as kind
use Rattle.rdb_schema.specs.declared.schema.Event.{Event}
use Rattle.rdb_schema.specs.declared.schema.Class.{Class}
use Rattle.rdb_schema.specs.declared.schema.Schema.{Schema}
use Rattle.rdb_model.specs.Database.{Row, Objects, Database, row_of, with_row, objects_of}
use Rattle.rdb_model.specs.Index.{key}
use Rattle.rdb_model.specs.Journal.{commits, fold}

-- whether an event of a kind happened to an object that had the first row and has the second: it is new, it is gone,
-- its row differs, or its field differs
abbrev pub happened : EventKind → Option Row → Option Row → Bool
happened kind.New None (Some after) = true
happened kind.Delete (Some before) None = true
happened kind.Update (Some before) (Some after) = not (is_eq (row_order before after))
happened (kind.UpdateField field) (Some before) (Some after) = not (is_eq (row_order (key (field ∷ []) before) (key (field ∷ []) after)))
happened _ _ _ = false

-- the objects, and over them others
abbrev pub with_rows : Objects → Objects → Objects
with_rows objects [] = objects
with_rows objects (o ∷ os) = with_row (with_rows objects os) o.0 o.1

-- the ids of the objects before or after a commit, ascending, each once
abbrev pub ids_of_both : Objects → Objects → List ℕ
ids_of_both before after = map (λ o. o.0) (with_rows before after)

-- the ids of the objects to which an event of a kind happened, ascending
abbrev pub event_ids : EventKind → Objects → Objects → List ℕ
event_ids kind before after = filter (λ id. happened kind (row_of before id) (row_of after id)) (ids_of_both before after)

-- the class, the id and the number of each of a class's events, from that number on, that happened to an object
abbrev pub events_of_object : ℕ → ℕ → ℕ → List Event → Option Row → Option Row → List (ℕ × ℕ × ℕ)
events_of_object class id number [] before after = []
events_of_object class id number (e ∷ es) before after =
    cons_option (if happened e.kind before after then Some (class, id, number) else None)
    (events_of_object class id (number + 1) es before after)

-- a class's events, object after object
abbrev pub events_of_class : ℕ → List Event → Objects → Objects → List (ℕ × ℕ × ℕ)
events_of_class class events before after =
    flat_map (λ id. events_of_object class id 0 events (row_of before id) (row_of after id)) (ids_of_both before after)

-- the events of classes, from that number on
abbrev pub events_of_classes : ℕ → List Class → Database → Database → List (ℕ × ℕ × ℕ)
events_of_classes class [] before after = []
events_of_classes class (c ∷ cs) before after =
    events_of_class class c.events (objects_of before class) (objects_of after class) ++ events_of_classes (class + 1) cs before after

-- the events of a commit, each a class, an id and the number of the class's event, in the order of class, then id, then number
abbrev pub commit_events : Schema → Database → Database → List (ℕ × ℕ × ℕ)
commit_events schema before after = events_of_classes 0 schema.classes before after

-- the kind of a class's event
abbrev pub event_kind : Schema → ℕ → ℕ → Option EventKind
event_kind schema class event =
    option_map (λ e. e.kind) (slice_get (option_map_or (λ c. c.events) (slice_get schema.classes class) []) event)

-- the pairs of a commit and an id to which an event of a kind happened in a class, of the first n commits, ids ascending
abbrev pub events_up_to : Schema → ℕ → EventKind → List Entry → ℕ → List (ℕ × ℕ)
events_up_to schema class kind journal zero = []
events_up_to schema class kind journal (suc n) =
    events_up_to schema class kind journal n
    ++ map (λ id. (suc n, id)) (event_ids kind (objects_of (fold schema journal n) class) (objects_of (fold schema journal (suc n)) class))

-- the event list of a class's event in a journal
abbrev pub event_list : Schema → ℕ → ℕ → List Entry → List (ℕ × ℕ)
event_list schema class event journal =
    option_map_or (λ kind. events_up_to schema class kind journal (commits journal)) (event_kind schema class event) []

-- whether a pair of a commit and an id is behind a place: of a later commit, or of the same one with a greater id
abbrev pub is_behind : ℕ × ℕ → ℕ × ℕ → Bool
is_behind place pair = nat_lt place.0 pair.0 || ((place.0 == pair.0) && nat_lt place.1 pair.1)

-- the first pair behind a place in the list
abbrev pub next_event : ℕ × ℕ → List (ℕ × ℕ) → Option (ℕ × ℕ)
next_event place events = find (is_behind place) events

-- that an event of a kind happened to the object of that id in the commit of that number
abbrev pub HappenedIn : Schema → ℕ → EventKind → List Entry → ℕ × ℕ → Type 0
HappenedIn schema class kind journal pair =
    (0 < pair.0) × (pair.0 ≤ commits journal)
    × (happened kind (row_of (objects_of (fold schema journal (pair.0 - 1)) class) pair.1)
    (row_of (objects_of (fold schema journal pair.0) class) pair.1) ≡ true)
