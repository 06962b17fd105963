-- The answers of `watch` and `poll`.
use Rattle.std.specs.Prelude.{◌≡◌, ℕ, List, [], Some, None, IsSome, slice_get}
use Rattle.rdb_base.specs.declared.identity.ConnId.{ConnId}
use Rattle.rdb_base.specs.declared.identity.EventPlace.{EventPlace}
use Rattle.rdb_schema.specs.declared.schema.Schema.{Schema}
use Rattle.rdb_model.specs.Journal.{commits}
use Rattle.rdb_history.specs.Watches.{pair_of, watch_place}
use Rattle.rdb_events.specs.NextEvent.{IsNextOf}
use Rattle.rdb_registry.specs.declared.hand.Subscription.{Subscription}
use Rattle.rdb_registry.specs.declared.seat.Seat.{Seat}
use Rattle.rdb_registry.specs.Seats.{seat_of}
use Rattle.rdb_answers.specs.declared.answer.Answer.{Answer}
use Rattle.rdb_answers.specs.declared.answer.Answer.TheVariants as answer
use Rattle.rdb_answers.specs.declared.answer.Outcome.TheVariants as outcome
use Rattle.rdb_answers.specs.Callers.{IsLive, IsGone}
use Rattle.rdb_transactions.specs.declared.transactions.Transactions.{Transactions}
use Rattle.rdb_transactions.specs.Hands.{watch_of, with_watch, with_watch_at}
use Rattle.rdb_transactions.specs.Records.{on_hand}
use Rattle.rdb_transactions.specs.Moves.{IsSame, Moves, KeepsSpare}

-- the record's connection watches the event
abbrev pub WatchesEvent : ℕ → ℕ → Seat → Type 0
WatchesEvent class event seat = IsSome (watch_of class event seat.hand.subscriptions)

-- the watch of an event has this number among those of a connection, and stands at this place
pub record IsWatchAmong (class event : ℕ) (watches : List Subscription) (number : ℕ) (place : EventPlace) : Type 0 where
  pub found : watch_of class event watches ≡ Some number
  pub watch : Subscription
  pub at : slice_get watches number ≡ Some watch
  pub place_is : watch.place ≡ place

-- the watch of a class's event behind a commit and an id
abbrev pub watching : ℕ → ℕ → ℕ × ℕ → Subscription
watching class event place = record { class = class; event = event; place = record { commit = place.0; id = place.1 } }

-- The event is watched, behind all events of the commits so far.
pub record Watches (before after : Transactions) (c : ConnId) (class event at : ℕ) : Type 0 where
  pub live : IsLive before c
  pub commits_are : at ≡ commits before.journal.entries
  pub moves : Moves before after c (on_hand (with_watch (watching class event (watch_place at)))) []
  pub spare : KeepsSpare before after

-- what each answer of `watch` means; no other comes
abbrev pub WatchAnswer : Transactions → Transactions → ConnId → ℕ → ℕ → Answer → Type 0
WatchAnswer before after c class event (answer.Ready (outcome.Watching at)) = Watches before after c class event at
WatchAnswer before after c class event (answer.Gone by at) = IsGone before after c by at
WatchAnswer before after c class event answer.NoMemory = IsLive before c × IsSame before after
WatchAnswer before after c class event _ = ⊥

-- what is so of the place of a connection's watch of an event, and of the watch
abbrev pub OfWatch : Transactions → ConnId → ℕ → ℕ → (ℕ → Subscription → Type 0) → Type 0
OfWatch t c class event P =
    (seat : Seat) (number : ℕ) (watch : Subscription) → seat_of t.registry.seats c ≡ Some seat
    → watch_of class event seat.hand.subscriptions ≡ Some number → slice_get seat.hand.subscriptions number ≡ Some watch
    → P number watch

-- The event is the first behind the place of the watch, which moves to it.
pub record Tells (schema : Schema) (before after : Transactions) (c : ConnId) (class event commit id : ℕ) : Type 0 where
  pub live : IsLive before c
  pub next :
      OfWatch before c class event (λ number watch.
      IsNextOf schema class event before.journal.entries (pair_of watch.place) (Some (commit, id)))
  pub moves :
      OfWatch before c class event (λ number watch.
      Moves before after c (on_hand (with_watch_at number (watching class event (commit, id)))) [])
  pub spare : KeepsSpare before after

-- No event of all commits is behind the place of the watch; nothing has changed.
pub record TellsNone (schema : Schema) (before after : Transactions) (c : ConnId) (class event at : ℕ) : Type 0 where
  pub live : IsLive before c
  pub commits_are : at ≡ commits before.journal.entries
  pub none :
      OfWatch before c class event (λ number watch.
      IsNextOf schema class event before.journal.entries (pair_of watch.place) None)
  pub same : after ≡ before

-- what each answer of `poll` means; no other comes
abbrev pub PollAnswer : Schema → Transactions → Transactions → ConnId → ℕ → ℕ → Answer → Type 0
PollAnswer schema before after c class event (answer.Ready (outcome.Event commit id)) = Tells schema before after c class event commit id
PollAnswer schema before after c class event (answer.Ready (outcome.NoEvent at)) = TellsNone schema before after c class event at
PollAnswer schema before after c class event (answer.Gone by at) = IsGone before after c by at
PollAnswer schema before after c class event _ = ⊥
