-- What is kept of the entries so far while a journal is judged.
use Rattle.std.specs.Prelude.{◌≡◌, ℕ, ◌+◌, ◌≤◌, Bool, true, false, ◌&&◌, ◌==◌, nat_eq, nat_le, nat_lt, List, [], ◌∷◌, length, take, slice_get, slice_index, slice_index_or, Option, Some, None, if◌then◌else◌}
use Rattle.std.specs.List.{list_any}
use Rattle.std.specs.Option.{option_map_or, option_or}
use Rattle.std.specs.Ordering.{nat_cmp, ordering_then}
use Rattle.std.specs.BTreeMap.{BTreeMap, get as map_get}
use Rattle.std.specs.BTreeSet.{BTreeSet, contains}
use Rattle.std.specs.declared.cmp.Ordering.{Ordering}
use Rattle.rdb_base.specs.declared.journal.Entry.{Entry}
use Rattle.rdb_base.specs.declared.journal.Entry.TheVariants as entry
use Rattle.rdb_model.specs.declared.legality.Span.{Span}
use Rattle.rdb_model.specs.declared.legality.Span.TheVariants as span
use Rattle.rdb_model.specs.Journal.{commits, ends, takes_leave, was_made}

-- the order of pairs of numbers: by the first, then by the second
abbrev pub two_cmp : ℕ × ℕ → ℕ × ℕ → Ordering
two_cmp a b = ordering_then (nat_cmp a.0 b.0) (nat_cmp a.1 b.1)

-- the number of commits among the first n entries, for each n
pub record Counts (earlier : List Entry) (counts : List ℕ) : Type 0 where
  pub many : length counts ≡ length earlier + 1
  pub each : (n : ℕ) → n ≤ length earlier → slice_index counts n ≡ commits (take n earlier)

-- the place of the last entry that passes a test, the first of them standing at that place
abbrev pub last_from : (Entry → Bool) → ℕ → List Entry → Option ℕ
last_from passes place [] = None
last_from passes place (e ∷ es) = option_or (last_from passes (place + 1) es) (if passes e then Some place else None)

-- where each transaction, a client and a number, ended last
pub record LastEnds (earlier : List Entry) (transactions : BTreeMap (ℕ × ℕ) ℕ) : Type 0 where
  pub same : (tx : ℕ × ℕ) → map_get two_cmp transactions tx ≡ last_from (ends tx) 0 earlier

-- where leave of each client was taken last
pub record LastLeaves (earlier : List Entry) (clients : BTreeMap ℕ ℕ) : Type 0 where
  pub same : (client : ℕ) → map_get nat_cmp clients client ≡ last_from (takes_leave client) 0 earlier

-- whether a transaction that ends has ended within the span, which is after the last leave of its client where that ends a stretch
abbrev pub is_second_end : Span → Option ℕ → Option ℕ → Bool
is_second_end within None leave = false
is_second_end span.Journal (Some ended) leave = true
is_second_end span.Stretch (Some ended) None = true
is_second_end span.Stretch (Some ended) (Some left) = nat_lt left ended

-- the objects that were made, each its class and its id
pub record HasMade (objects : List (ℕ × ℕ)) (made : BTreeSet (ℕ × ℕ)) : Type 0 where
  pub same : (object : ℕ × ℕ) → contains two_cmp made object ≡ was_made objects object

-- whether an entry after so many commits is a read that sees n of them
abbrev pub reads_after : ℕ → ℕ → Entry → Bool
reads_after n before (entry.Read story) = (story.snapshot == n) && nat_le n before
reads_after n before _ = false

-- whether a read that sees n commits stands at a place
abbrev pub sees : List Entry → ℕ → ℕ → Bool
sees journal n place = option_map_or (reads_after n (commits (take place journal))) (slice_get journal place) false

-- for each number of commits, the places of the reads that see so many
pub record AreReaders (journal : List Entry) (readers : List (List ℕ)) : Type 0 where
  pub many : length readers ≡ commits journal + 1
  pub each : (n place : ℕ) → list_any (nat_eq place) (slice_index_or readers n []) ≡ sees journal n place
