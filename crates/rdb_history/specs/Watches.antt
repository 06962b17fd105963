-- Watches of events: where one stands, and what a client is told of them.
use Rattle.std.specs.Prelude.{◌≡◌, ℕ, ◌-◌, ◌^◌, ◌<◌, ◌≤◌, Bool, ◌&&◌, ◌==◌, List, [], ◌∷◌, take, slice_get, Option, Some, None, IsSomeAnd, if◌then◌else◌}
use Rattle.rdb_base.specs.declared.identity.EventPlace.{EventPlace}
use Rattle.rdb_base.specs.declared.journal.Entry.{Entry}
use Rattle.rdb_schema.specs.declared.schema.EventKind.{EventKind}
use Rattle.rdb_schema.specs.declared.schema.Schema.{Schema}
use Rattle.rdb_model.specs.Journal.{commits}
use Rattle.rdb_model.specs.Events.{event_kind}
use Rattle.rdb_history.specs.declared.watches.Notice.{Notice}
use Rattle.rdb_history.specs.declared.watches.Notice.TheVariants as notice
use Rattle.rdb_history.specs.declared.watches.Note.{Note}
use Rattle.rdb_history.specs.RowEvents.{IsNextEvent, HasNoEvent}

-- a place as a pair of a commit and an id
abbrev pub pair_of : EventPlace → ℕ × ℕ
pair_of place = (place.commit, place.id)

-- the place of a watch that begins after n commits: behind all their events, since ids are below 2^64
abbrev pub watch_place : ℕ → ℕ × ℕ
watch_place n = (n, 2 ^ 64 - 1)

-- whether a note is of a class's event
abbrev pub is_note_of : ℕ → ℕ → Note → Bool
is_note_of class event note = (note.class == class) && (note.event == event)

-- where a watch stands after a notice, from where it stood before
abbrev pub place_moved : Option (ℕ × ℕ) → Notice → Option (ℕ × ℕ)
place_moved place (notice.Watching at) = Some (watch_place at)
place_moved place (notice.Event commit id) = Some (commit, id)
place_moved place (notice.NoEvent at) = place

-- where a client's watch of a class's event stands after notes, from where it stood before
abbrev pub place_after : ℕ → ℕ → Option (ℕ × ℕ) → List Note → Option (ℕ × ℕ)
place_after class event place [] = place
place_after class event place (n ∷ ns) = place_after class event (if is_note_of class event n then place_moved place n.notice else place) ns

-- that a notice of a watch that stands at a place agrees with a journal: what is watched isn't watched anew
abbrev pub AgreesAt : ℕ → EventKind → List Entry → Option (ℕ × ℕ) → Notice → Type 0
AgreesAt class kind journal place (notice.Watching at) = (place ≡ None) × (at ≤ commits journal)
AgreesAt class kind journal place (notice.Event commit id) = IsSomeAnd place (λ p. IsNextEvent class kind journal p (commit, id))
AgreesAt class kind journal place (notice.NoEvent at) = (at ≤ commits journal) × IsSomeAnd place (λ p. HasNoEvent class kind journal p at)

-- that a note agrees with a journal, after the earlier ones of its client
abbrev pub NoteAgrees : Schema → List Entry → List Note → Note → Type 0
NoteAgrees schema journal earlier note =
    IsSomeAnd (event_kind schema note.class note.event)
    (λ kind. AgreesAt note.class kind journal (place_after note.class note.event None earlier) note.notice)

-- the number of commits that a notice names as looked through
abbrev pub looked_through : Notice → Option ℕ
looked_through (notice.Watching at) = Some at
looked_through (notice.Event commit id) = None
looked_through (notice.NoEvent at) = Some at

-- that each note agrees with a journal, after the earlier ones
abbrev pub EachAgrees : Schema → List Entry → List Note → Type 0
EachAgrees schema journal notes = (i : ℕ) (note : Note) → slice_get notes i ≡ Some note → NoteAgrees schema journal (take i notes) note

-- that the commits which notes name as looked through never fall
abbrev pub NeverFalls : List Note → Type 0
NeverFalls notes =
    (i j earlier later : ℕ) (first second : Note) → i < j → slice_get notes i ≡ Some first → slice_get notes j ≡ Some second
    → looked_through first.notice ≡ Some earlier → looked_through second.notice ≡ Some later → earlier ≤ later

-- that what a client was told of its watches and polls, over all its events, agrees with a journal
pub record NotesAgree (schema : Schema) (journal : List Entry) (notes : List Note) : Type 0 where
  pub each : EachAgrees schema journal notes
  pub never_falls : NeverFalls notes
