-- The answers of `disconnect` and `condemn`.
use Rattle.std.specs.Prelude.{◌≡◌, None, IsSome}
use Rattle.rdb_base.specs.declared.identity.ConnId.{ConnId}
use Rattle.rdb_base.specs.declared.journal.Entry.TheVariants as entry
use Rattle.rdb_registry.specs.Seats.{seat_of}
use Rattle.rdb_answers.specs.declared.answer.Answer.{Answer}
use Rattle.rdb_answers.specs.declared.answer.Answer.TheVariants as answer
use Rattle.rdb_answers.specs.declared.answer.Outcome.TheVariants as outcome
use Rattle.rdb_answers.specs.Callers.{IsLive, IsGone}
use Rattle.rdb_transactions.specs.declared.transactions.Transactions.{Transactions}
use Rattle.rdb_transactions.specs.Sound.{Has}
use Rattle.rdb_transactions.specs.Moves.{IsSame, Condemns, Leaves, KeepsSpare}

-- The connection's slot is free, and the journal has its Closed.
pub record Closes (before after : Transactions) (c : ConnId) : Type 0 where
  pub live : IsLive before c
  pub leaves : Leaves before after c (entry.Closed c.slot)
  pub spare : KeepsSpare before after

-- what each answer of `disconnect` means; no other comes
abbrev pub DisconnectAnswer : Transactions → Transactions → ConnId → Answer → Type 0
DisconnectAnswer before after c (answer.Ready outcome.Closed) = Closes before after c
DisconnectAnswer before after c (answer.Gone by at) = IsGone before after c by at
DisconnectAnswer before after c _ = ⊥

-- A connection that is there is condemned, at the journal's length; one that was condemned or isn't there stays as it is.
pub record IsCondemned (before after : Transactions) (by d : ConnId) : Type 0 where
  pub live : IsLive before by
  pub first : Has before d (λ seat. seat.condemned ≡ None) → Condemns before after d by
  pub again : Has before d (λ seat. IsSome seat.condemned) → IsSame before after
  pub absent : seat_of before.registry.seats d ≡ None → IsSame before after

-- what each answer of `condemn` means; no other comes
abbrev pub CondemnAnswer : Transactions → Transactions → ConnId → ConnId → Answer → Type 0
CondemnAnswer before after by d (answer.Ready outcome.RolledBack) = IsCondemned before after by d
CondemnAnswer before after by d (answer.Gone who at) = IsGone before after by who at
CondemnAnswer before after by d _ = ⊥
