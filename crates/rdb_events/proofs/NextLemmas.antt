-- The next event is one, and is the next of the event list.
use Rattle.std.proofs.Common.{◌≡◌, ℕ, List, Option, Some, None, IsSomeAnd, MatchOption, refl, sym, ap, subst, ◌∙◌}
use Rattle.rdb_base.specs.declared.journal.Entry.{Entry}
use Rattle.rdb_schema.specs.declared.schema.Schema.{Schema}
use Rattle.rdb_schema.specs.declared.schema.EventKind.{EventKind}
use Rattle.rdb_model.specs.Journal.{commits}
use Rattle.rdb_model.specs.Parts.{NumbersInOrder, RepliesHold}
use Rattle.rdb_model.specs.Events.{event_kind, event_list, next_event}
use Rattle.rdb_history.specs.RowEvents.{IsNextEvent, HasNoEvent}
use Rattle.rdb_history.proofs.EventLemmas.{one_next, some_next}
use Rattle.rdb_history.proofs.RowLaws.{next_listed, none_listed}
use Rattle.rdb_events.specs.NextEvent.{IsNextOf}

-- what is next by one kind
abbrev pub IsNext : ℕ → EventKind → List Entry → ℕ × ℕ → Option (ℕ × ℕ) → Type 0
IsNext class kind journal place found = MatchOption found (HasNoEvent class kind journal place (commits journal)) (IsNextEvent class kind journal place)

one_by_kind : (class : ℕ) (kind : EventKind) (journal : List Entry) (place : ℕ × ℕ) (one other : Option (ℕ × ℕ)) → IsNext class kind journal place one → IsNext class kind journal place other → one ≡ other
one_by_kind class kind journal place None None a b = refl
one_by_kind class kind journal place None (Some y) a b = absurd (some_next class kind journal place y b a)
one_by_kind class kind journal place (Some x) None a b = absurd (some_next class kind journal place x a b)
one_by_kind class kind journal place (Some x) (Some y) a b = ap Some (one_next class kind journal place x y a b)

pub one_next_of : (schema : Schema) (class event : ℕ) (journal : List Entry) (place : ℕ × ℕ) (one other : Option (ℕ × ℕ)) → IsNextOf schema class event journal place one → IsNextOf schema class event journal place other → one ≡ other
one_next_of schema class event journal place one other a b = go (event_kind schema class event) a b
  where
    go : (k : Option EventKind) → IsSomeAnd k (λ kind. IsNext class kind journal place one) → IsSomeAnd k (λ kind. IsNext class kind journal place other) → one ≡ other
    go None f g = absurd f
    go (Some kind) f g = one_by_kind class kind journal place one other f g

-- the next of the list is next by the rows
listed_next : (schema : Schema) (class event : ℕ) (kind : EventKind) (journal : List Entry) (place : ℕ × ℕ) → NumbersInOrder journal → RepliesHold schema journal → event_kind schema class event ≡ Some kind
    → IsNext class kind journal place (next_event place (event_list schema class event journal))
listed_next schema class event kind journal place numbers replies is = go (next_event place (event_list schema class event journal)) refl
  where
    go : (found : Option (ℕ × ℕ)) → next_event place (event_list schema class event journal) ≡ found → IsNext class kind journal place found
    go None e = none_listed schema journal numbers replies class event kind is place e
    go (Some next) e = next_listed schema journal numbers replies class event kind is place next e

pub is_listed : (schema : Schema) (class event : ℕ) (kind : EventKind) (journal : List Entry) (place : ℕ × ℕ) (found : Option (ℕ × ℕ)) → event_kind schema class event ≡ Some kind → IsNext class kind journal place found
    → NumbersInOrder journal → RepliesHold schema journal → found ≡ next_event place (event_list schema class event journal)
is_listed schema class event kind journal place found of_kind is numbers replies =
    one_by_kind class kind journal place found (next_event place (event_list schema class event journal)) is (listed_next schema class event kind journal place numbers replies of_kind)
