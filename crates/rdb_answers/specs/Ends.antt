-- The answers of `commit` and `roll_back`. A story is that of the record as the call begins.
use Rattle.std.specs.Prelude.{◌≡◌, ◌≢◌, ◌+◌, ℕ, List, [], ◌∷◌, Some, None}
use Rattle.rdb_base.specs.declared.identity.ConnId.{ConnId}
use Rattle.rdb_base.specs.declared.identity.Kind.TheVariants as kind
use Rattle.rdb_base.specs.declared.identity.Manager.{Manager}
use Rattle.rdb_base.specs.declared.identity.Manager.TheVariants as manager
use Rattle.rdb_base.specs.declared.identity.Phase.TheVariants as phase
use Rattle.rdb_base.specs.declared.operation.Op.{Op}
use Rattle.rdb_base.specs.declared.operation.Reply.{Reply}
use Rattle.rdb_base.specs.declared.journal.Story.{Story}
use Rattle.rdb_base.specs.declared.journal.Cause.TheVariants as cause
use Rattle.rdb_base.specs.declared.journal.Entry.{Entry}
use Rattle.rdb_base.specs.declared.journal.Entry.TheVariants as entry
use Rattle.rdb_schema.specs.declared.schema.Schema.{Schema}
use Rattle.rdb_model.specs.Journal.{commits}
use Rattle.rdb_mvcc.specs.declared.validation.Checked.{Checked}
use Rattle.rdb_mvcc.specs.declared.validation.Checked.TheVariants as checked
use Rattle.rdb_mvcc.specs.Answers.{IsAnswer}
use Rattle.rdb_registry.specs.declared.seat.Seat.{Seat}
use Rattle.rdb_registry.specs.declared.seat.Transaction.{Transaction}
use Rattle.rdb_registry.specs.Seats.{seat_of}
use Rattle.rdb_answers.specs.declared.answer.Answer.{Answer}
use Rattle.rdb_answers.specs.declared.answer.Answer.TheVariants as answer
use Rattle.rdb_answers.specs.declared.answer.Outcome.TheVariants as outcome
use Rattle.rdb_answers.specs.Callers.{IsLive, IsGone}
use Rattle.rdb_transactions.specs.declared.transactions.Transactions.{Transactions}
use Rattle.rdb_transactions.specs.Hands.{without_story, with_story}
use Rattle.rdb_transactions.specs.Records.{on_hand, story_in, becomes_marked, rolls_back}
use Rattle.rdb_transactions.specs.Sound.{Has}
use Rattle.rdb_transactions.specs.Moves.{Moves, KeepsSpare, ExchangesSpare, ends, ends_with_story}

-- whether a story may commit: where many may write, no commit above its snapshot may touch it; a single writer always may
abbrev pub IsChecked : Schema → Manager → List Entry → Story → Checked → Type 0
IsChecked schema manager.Mvcc journal story said = IsAnswer schema journal story said
IsChecked schema manager.Mursiw journal story said = said ≡ checked.Clear

-- what is so of the record and the open transaction of a connection
abbrev pub Of : Transactions → ConnId → (Seat → Transaction → Type 0) → Type 0
Of t c P =
    (seat : Seat) (open_one : Transaction) → seat_of t.registry.seats c ≡ Some seat → seat.transaction ≡ Some open_one
    → P seat open_one

-- A transaction that only read is ended: its Read stands in the journal.
pub record EndsRead (before after : Transactions) (c : ConnId) (at : ℕ) : Type 0 where
  pub live : IsLive before c
  pub reads : Of before c (λ seat t. (t.kind ≡ kind.ReadOnly) × (at ≡ t.snapshot))
  pub moves : Of before c (λ seat t. Moves before after c (ends_with_story before) (entry.Read (story_in c t seat.hand) ∷ []))
  pub spare : KeepsSpare before after

-- the record as its transaction is marked with the number of a commit, its story having gone into the journal
abbrev pub marks : ℕ → Seat → Seat
marks commit seat = becomes_marked commit (on_hand without_story seat)

-- A transaction that may write is marked as the next commit, and its story stands in the journal with it.
pub record Marks (schema : Schema) (before after : Transactions) (c : ConnId) (commit : ℕ) (change : Seat → Seat) : Type 0 where
  pub live : IsLive before c
  pub writes : Of before c (λ seat t. t.kind ≡ kind.ReadWrite)
  pub clear : Of before c (λ seat t. IsChecked schema before.manager before.journal.entries (story_in c t seat.hand) checked.Clear)
  pub number : commit ≡ commits before.journal.entries + 1
  pub moves : Of before c (λ seat t. Moves before after c change (entry.Commit (story_in c t seat.hand) commit ∷ []))

-- It has no version to be stamped, and is over.
pub record Commits (schema : Schema) (before after : Transactions) (c : ConnId) (commit : ℕ) : Type 0 where
  pub marks_it : Marks schema before after c commit (λ seat. ends before (marks commit seat))
  pub none_left : Of before c (λ seat t. seat.hand.own.items ≡ [])
  pub spare : ExchangesSpare before after c (marks commit)

-- It has versions to be stamped.
pub record IsMarked (schema : Schema) (before after : Transactions) (c : ConnId) (commit : ℕ) : Type 0 where
  pub marks_it : Marks schema before after c commit (marks commit)
  pub some_left : Of before c (λ seat t. seat.hand.own.items ≢ [])
  pub spare : KeepsSpare before after

-- the record as its transaction rolls back for a conflict; its story takes no more room than it needs
abbrev pub conflicts : Manager → ℕ → ℕ → Seat → Seat
conflicts manager commit operation seat =
    rolls_back manager (cause.Conflict commit operation) (on_hand (λ hand. with_story hand.done.items hand) seat)

-- A commit after its snapshot touches it: the first such, and the first of its operations that this commit touches. It rolls back.
pub record Conflicts (schema : Schema) (before after : Transactions) (c : ConnId) (commit operation : ℕ) : Type 0 where
  pub live : IsLive before c
  pub writes : Of before c (λ seat t. t.kind ≡ kind.ReadWrite)
  pub touched :
      Of before c (λ seat t.
      IsChecked schema before.manager before.journal.entries (story_in c t seat.hand) (checked.Conflict commit operation))
  pub moves : Moves before after c (conflicts before.manager commit operation) []
  pub spare : KeepsSpare before after

-- the record of a running transaction whose story was moved out to be validated
pub record IsMovedOut (seat : Seat) : Type 0 where
  pub running : seat.hand.phase ≡ phase.Running kind.ReadWrite
  pub live : seat.condemned ≡ None
  pub empty : seat.hand.done.items ≡ []

-- what the answers mean where a transaction is marked with a story that was moved out of its record
abbrev pub MarkAnswer : Transactions → Transactions → ConnId → Story → Answer → Type 0
MarkAnswer before after c story (answer.Ready (outcome.Committed commit)) =
    (commit ≡ commits before.journal.entries + 1) × Has before c (λ seat. seat.hand.own.items ≡ [])
    × Moves before after c (λ seat. ends before (becomes_marked commit seat)) (entry.Commit story commit ∷ [])
    × ExchangesSpare before after c (becomes_marked commit)
MarkAnswer before after c story answer.More =
    let commit = commits before.journal.entries + 1 in
    Has before c (λ seat. seat.hand.own.items ≢ []) × Moves before after c (becomes_marked commit) (entry.Commit story commit ∷ [])
    × KeepsSpare before after
MarkAnswer before after c story _ = ⊥

-- the record as its transaction rolls back for a conflict, with these operations put back into its story
abbrev pub refuses : Manager → List (Op × Reply) → ℕ → ℕ → Seat → Seat
refuses manager done commit operation seat = rolls_back manager (cause.Conflict commit operation) (on_hand (with_story done) seat)

-- what each answer of `commit` means; no other comes
abbrev pub CommitAnswer : Schema → Transactions → Transactions → ConnId → Answer → Type 0
CommitAnswer schema before after c (answer.Ready (outcome.Ended at)) = EndsRead before after c at
CommitAnswer schema before after c (answer.Ready (outcome.Committed commit)) = Commits schema before after c commit
CommitAnswer schema before after c answer.More = (commit : ℕ) × IsMarked schema before after c commit
CommitAnswer schema before after c (answer.Conflict commit operation) = Conflicts schema before after c commit operation
CommitAnswer schema before after c (answer.Gone by at) = IsGone before after c by at
CommitAnswer schema before after c _ = ⊥

-- nothing is there to take back or to drop
abbrev pub IsClean : Seat → Type 0
IsClean seat = (seat.hand.undo.pairs ≡ []) × (seat.hand.own.items ≡ [])

-- Nothing is there to take back or to drop: the transaction is over, and its Abort stands in the journal.
pub record RollsBackAtOnce (before after : Transactions) (c : ConnId) : Type 0 where
  pub live : IsLive before c
  pub clean : Of before c (λ seat t. IsClean seat)
  pub moves :
      Of before c (λ seat t.
      Moves before after c (λ s. ends_with_story before (rolls_back before.manager cause.Asked s))
      (entry.Abort (story_in c t seat.hand) cause.Asked ∷ []))
  pub spare : ExchangesSpare before after c (rolls_back before.manager cause.Asked)

-- Something is there to take back or to drop: the transaction rolls back.
pub record RollsBack (before after : Transactions) (c : ConnId) : Type 0 where
  pub live : IsLive before c
  pub unclean : Of before c (λ seat t. ¬ IsClean seat)
  pub moves : Moves before after c (rolls_back before.manager cause.Asked) []
  pub spare : KeepsSpare before after

-- what each answer of `roll_back` means; no other comes
abbrev pub RollBackAnswer : Transactions → Transactions → ConnId → Answer → Type 0
RollBackAnswer before after c (answer.Ready outcome.RolledBack) = RollsBackAtOnce before after c
RollBackAnswer before after c answer.More = RollsBack before after c
RollBackAnswer before after c (answer.Gone by at) = IsGone before after c by at
RollBackAnswer before after c _ = ⊥
