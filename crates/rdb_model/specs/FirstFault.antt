-- The first fault of a journal, by parts: the first entry that breaks number, twice or place, and the first wrong reply before it.
use Rattle.std.specs.Prelude.{ℕ, ◌+◌, ◌<◌, ◌^◌, List, [], ◌∷◌, ◌++◌, length, take, slice_get, Option, Some, None, if◌then◌else◌, nat_le}
use Rattle.std.specs.Option.{option_map, option_map_or, option_or}
use Rattle.rdb_base.specs.declared.identity.Kind.{Kind}
use Rattle.rdb_base.specs.declared.identity.Kind.TheVariants as kind
use Rattle.rdb_base.specs.declared.journal.Story.{Story}
use Rattle.rdb_base.specs.declared.journal.Entry.{Entry}
use Rattle.rdb_base.specs.declared.journal.Entry.TheVariants as entry
use Rattle.rdb_schema.specs.declared.schema.Schema.{Schema}
use Rattle.rdb_model.specs.declared.legality.Legality.{Legality}
use Rattle.rdb_model.specs.declared.legality.Legality.TheVariants as legality
use Rattle.rdb_model.specs.declared.legality.Why.{Why}
use Rattle.rdb_model.specs.declared.legality.Why.TheVariants as why
use Rattle.rdb_model.specs.declared.legality.Span.{Span}
use Rattle.rdb_model.specs.Database.{Database}
use Rattle.rdb_model.specs.Fits.{AllFit}
use Rattle.rdb_model.specs.Journal.{breaks_number, breaks_twice, breaks_place, wrong_reply}

-- that a story's operations fit, and are fewer than numbers of 32 bits can tell apart
pub record FitsStory (schema : Schema) (may : Kind) (story : Story) : Type 0 where
  pub each : AllFit schema may story.done
  pub few : length story.done < 2 ^ 32

-- that the operations of an entry fit: those of a read under reading alone, those of the others under reading and writing
abbrev pub FitsEntry : Schema → Entry → Type 0
FitsEntry schema (entry.Commit story commit) = FitsStory schema kind.ReadWrite story
FitsEntry schema (entry.Read story) = FitsStory schema kind.ReadOnly story
FitsEntry schema (entry.Abort story cause) = FitsStory schema kind.ReadWrite story
FitsEntry schema _ = Unit {0}

-- the first of number, twice and place that an entry breaks, after the earlier ones
abbrev pub misplaced : Span → List Entry → Entry → Option Why
misplaced within earlier e =
    if breaks_number earlier e then Some why.Number
    else (if breaks_twice within earlier e then Some why.Twice
    else (if breaks_place earlier e then Some why.Place
    else None))

-- the first entry with a fault, of those that come after the earlier ones: its place, from 0, and the fault
abbrev pub first_at : {A : Type 0} → (List Entry → Entry → Option A) → List Entry → List Entry → Option (ℕ × A)
first_at fault earlier [] = None
first_at fault earlier (e ∷ es) =
    option_or (option_map (λ f. (length earlier, f)) (fault earlier e)) (first_at fault (earlier ++ e ∷ []) es)

-- the fault of the entry at a place
abbrev pub fault_at : {A : Type 0} → (List Entry → Entry → Option A) → List Entry → ℕ → Option A
fault_at fault journal place = option_map_or (fault (take place journal)) (slice_get journal place) None

-- the entries before the first misplaced one
abbrev pub before : Option (ℕ × Why) → List Entry → List Entry
before None journal = journal
before (Some found) journal = take found.0 journal

-- what is said of a journal with that first wrong reply before the first misplaced entry, and that first misplaced entry
abbrev pub verdict : Option (ℕ × ℕ) → Option (ℕ × Why) → Legality
verdict (Some wrong) found = legality.Illegal (wrong.0 + 1) (why.Reply wrong.1)
verdict None (Some found) = legality.Illegal (found.0 + 1) found.1
verdict None None = legality.Legal

-- the earlier of a fault found so far and the fault at a place, if there is one
abbrev pub earlier_of : Option (ℕ × ℕ) → ℕ → Option ℕ → Option (ℕ × ℕ)
earlier_of best place None = best
earlier_of None place (Some operation) = Some (place, operation)
earlier_of (Some best) place (Some operation) = if nat_le best.0 place then Some best else Some (place, operation)

-- the first wrong operation of a read, on a database
abbrev pub wrong_read : Schema → Database → Entry → Option ℕ
wrong_read schema db (entry.Read story) = wrong_reply schema db [] 1 story.done
wrong_read schema db _ = None

-- the earliest of a fault found so far and those of the reads at these places, on a database
abbrev pub earliest_read : Schema → Database → List Entry → Option (ℕ × ℕ) → List ℕ → Option (ℕ × ℕ)
earliest_read schema db journal best [] = best
earliest_read schema db journal best (place ∷ places) =
    earliest_read schema db journal (earlier_of best place (option_map_or (wrong_read schema db) (slice_get journal place) None)) places
