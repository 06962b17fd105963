-- The answers of `begin`.
use Rattle.std.specs.Prelude.{◌≡◌, ℕ, [], length}
use Rattle.rdb_base.specs.declared.identity.ConnId.{ConnId}
use Rattle.rdb_base.specs.declared.identity.Kind.{Kind}
use Rattle.rdb_base.specs.declared.identity.Manager.TheVariants as manager
use Rattle.rdb_model.specs.Journal.{commits}
use Rattle.rdb_mursiw.specs.declared.admission.Admission.{Admission}
use Rattle.rdb_mursiw.specs.declared.admission.Admission.TheVariants as admission
use Rattle.rdb_mursiw.specs.Admission.{IsLowestBar}
use Rattle.rdb_answers.specs.declared.answer.Answer.{Answer}
use Rattle.rdb_answers.specs.declared.answer.Answer.TheVariants as answer
use Rattle.rdb_answers.specs.declared.answer.Outcome.TheVariants as outcome
use Rattle.rdb_answers.specs.Callers.{IsLive, IsGone, IsFree}
use Rattle.rdb_transactions.specs.declared.transactions.Transactions.{Transactions}
use Rattle.rdb_transactions.specs.Moves.{IsSame, Moves, ExchangesSpare, begins, opens}

-- The transaction is open, and sees all commits so far.
pub record Begins (before after : Transactions) (c : ConnId) (kind : Kind) (snapshot begun : ℕ) : Type 0 where
  pub live : IsLive before c
  pub free : IsFree before c kind
  pub snapshot_is : snapshot ≡ commits before.journal.entries
  pub begun_is : begun ≡ length before.journal.entries
  pub moves : Moves before after c (begins before kind) []
  pub spare : ExchangesSpare before after c (opens before kind)

-- Under the manager of a single writer another connection's transaction is in the way, the lowest such; nothing has changed.
pub record IsBusy (before after : Transactions) (c : ConnId) (kind : Kind) (holder : ConnId) : Type 0 where
  pub live : IsLive before c
  pub single : before.manager ≡ manager.Mursiw
  pub lowest : (slot : ℕ) × IsLowestBar before.registry.seats c kind holder slot
  pub same : after ≡ before

-- Nobody is in the way, but memory is wanting; nothing has changed.
pub record LacksMemory (before after : Transactions) (c : ConnId) (kind : Kind) : Type 0 where
  pub live : IsLive before c
  pub free : IsFree before c kind
  pub same : IsSame before after

-- what each answer of `begin` means; no other comes
abbrev pub BeginAnswer : Transactions → Transactions → ConnId → Kind → Answer → Type 0
BeginAnswer before after c kind (answer.Ready (outcome.Begun snapshot begun)) = Begins before after c kind snapshot begun
BeginAnswer before after c kind (answer.Busy holder) = IsBusy before after c kind holder
BeginAnswer before after c kind (answer.Gone by at) = IsGone before after c by at
BeginAnswer before after c kind answer.NoMemory = LacksMemory before after c kind
BeginAnswer before after c kind _ = ⊥

-- whether a connection may begin now, or who is in its way
abbrev pub AdmissionAnswer : Transactions → ConnId → Kind → Admission → Type 0
AdmissionAnswer t c kind admission.Go = IsFree t c kind
AdmissionAnswer t c kind (admission.Busy holder) =
    (t.manager ≡ manager.Mursiw) × ((slot : ℕ) × IsLowestBar t.registry.seats c kind holder slot)
