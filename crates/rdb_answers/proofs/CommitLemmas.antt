-- A commit, from the answer of the step that marks a story which was moved out of its record.
use Rattle.std.proofs.Common.{◌≡◌, ◌≢◌, ◌+◌, ◌∷◌, ℕ, List, [], Option, Some, None, IsSome, IsSomeAnd, refl, sym, ap, subst, ◌∙◌}
use Rattle.std.proofs.lemmas.List.{append-nil}
use Rattle.rdb_base.specs.declared.identity.ConnId.{ConnId}
use Rattle.rdb_base.specs.declared.identity.Kind.{Kind}
use Rattle.rdb_base.specs.declared.identity.Kind.TheVariants as kind
use Rattle.rdb_base.specs.declared.identity.Phase.TheVariants as phase
use Rattle.rdb_base.specs.declared.identity.Manager.{Manager}
use Rattle.rdb_base.specs.declared.journal.Cause.TheVariants as cause
use Rattle.rdb_base.specs.declared.operation.Op.{Op}
use Rattle.rdb_base.specs.declared.operation.Reply.{Reply}
use Rattle.rdb_base.specs.declared.journal.Entry.{Entry}
use Rattle.rdb_base.specs.declared.journal.Entry.TheVariants as entry
use Rattle.rdb_base.specs.declared.journal.Story.{Story}
use Rattle.rdb_cells.specs.Records.{Record}
use Rattle.rdb_model.specs.Journal.{commits}
use Rattle.rdb_mvcc.specs.declared.validation.Checked.{Checked}
use Rattle.rdb_mvcc.specs.declared.validation.Checked.TheVariants as checked
use Rattle.rdb_registry.specs.declared.seat.Seat.{Seat}
use Rattle.rdb_registry.specs.declared.seat.Transaction.{Transaction}
use Rattle.rdb_registry.specs.Registry.{IsRoll}
use Rattle.rdb_registry.specs.Seats.{Seats, seat_of, condemned_in}
use Rattle.rdb_registry.proofs.SlotLemmas.{some_of, is_some_from}
use Rattle.rdb_schema.specs.declared.schema.Schema.{Schema}
use Rattle.rdb_answers.specs.declared.answer.Answer.{Answer}
use Rattle.rdb_answers.specs.declared.answer.Answer.TheVariants as answer
use Rattle.rdb_answers.specs.declared.answer.Outcome.TheVariants as outcome
use Rattle.rdb_answers.specs.Callers.{IsLive}
use Rattle.rdb_answers.specs.Ends.{Of, IsMovedOut, MarkAnswer, CommitAnswer, IsChecked, Marks, marks, conflicts, refuses}
use Rattle.rdb_answers.proofs.CallLemmas.{moves_two, has_back}
use Rattle.rdb_transactions.specs.declared.transactions.Transactions.{Transactions}
use Rattle.rdb_transactions.specs.Hands.{without_story, with_story}
use Rattle.rdb_transactions.specs.Records.{on_hand, exchanged, closed, spare_left, story_in, becomes_marked, rolls_back}
use Rattle.rdb_transactions.specs.Phases.{IsRunning}
use Rattle.rdb_transactions.specs.Sound.{IsSound}
use Rattle.rdb_transactions.specs.Moves.{Moves, KeepsSpare, ends}
use Rattle.rdb_transactions.proofs.EditLemmas.{of_held, is_held, has_from, has_seat, seat_edited, alike, stands}
use Rattle.rdb_transactions.proofs.PhaseLemmas.{in_its_phase}
use Rattle.rdb_transactions.proofs.SoundLemmas.{orderly_of}

-- an ending by the manager and the spare record that were there before
pub ends_alike :
    (a b d : Transactions) (c : ConnId) (f : Seat → Seat) (es : List Entry) → b.manager ≡ a.manager → b.spare_undo ≡ a.spare_undo
    → Moves a d c (λ s. ends b (f s)) es → Moves a d c (λ s. ends a (f s)) es
ends_alike a b d c f es manager spare m =
    subst (λ (x : Manager). Moves a d c (λ s. closed (exchanged x a.spare_undo (f s))) es) manager
    (subst (λ (u : Record). Moves a d c (λ s. closed (exchanged b.manager u (f s))) es) spare m)

-- What is known where a story was moved out of the record of a connection.
pub record Moved (before moved : Transactions) (c : ConnId) (story : Story) : Type 0 where
  pub live : IsLive before c
  pub held : IsSome (seat_of before.registry.seats c)
  pub writes : Of before c (λ seat t. t.kind ≡ kind.ReadWrite)
  pub story_is : Of before c (λ seat t. story ≡ story_in c t seat.hand)
  pub moves : Moves before moved c (on_hand without_story) []
  pub spare : KeepsSpare before moved

pub same_entries : (before moved : Transactions) (c : ConnId) (story : Story) → Moved before moved c story → moved.journal.entries ≡ before.journal.entries
same_entries before moved c story m = m.moves.entries ∙ append-nil before.journal.entries

-- what validation said holds of the record's story, before it was moved out
pub checked_before :
    (schema : Schema) (before moved : Transactions) (c : ConnId) (story : Story) (said : Checked) → Moved before moved c story
    → IsChecked schema moved.manager moved.journal.entries story said
    → Of before c (λ seat t. IsChecked schema before.manager before.journal.entries (story_in c t seat.hand) said)
checked_before schema before moved c story said m h seat t at opened =
    subst (λ (s : Story). IsChecked schema before.manager before.journal.entries s said) (m.story_is seat t at opened)
    (subst (λ (es : List Entry). IsChecked schema before.manager es story said) (same_entries before moved c story m)
    (subst (λ (x : Manager). IsChecked schema x moved.journal.entries story said) m.moves.manager h))

-- the marking, as a move of the whole call
marks_from :
    (schema : Schema) (before moved after : Transactions) (c : ConnId) (story : Story) (commit : ℕ) (change : Seat → Seat) → Moved before moved c story
    → IsChecked schema moved.manager moved.journal.entries story checked.Clear → commit ≡ commits moved.journal.entries + 1
    → Moves before after c change (entry.Commit story commit ∷ []) → Marks schema before after c commit change
marks_from schema before moved after c story commit change m h number moves = record {
  live = m.live;
  writes = m.writes;
  clear = checked_before schema before moved c story checked.Clear m h;
  number = number ∙ ap (λ (es : List Entry). commits es + 1) (same_entries before moved c story m);
  moves = λ seat t at opened. subst (λ (s : Story). Moves before after c change (entry.Commit s commit ∷ [])) (m.story_is seat t at opened) moves;
}

-- the answer of the marking is the answer of the call
pub commit_from_mark :
    (schema : Schema) (before moved after : Transactions) (c : ConnId) (story : Story) (said : Answer) → Moved before moved c story
    → IsChecked schema moved.manager moved.journal.entries story checked.Clear → MarkAnswer moved after c story said → CommitAnswer schema before after c said
commit_from_mark schema before moved after c story (answer.Ready (outcome.Committed commit)) m h a = record {
  marks_it =
      marks_from schema before moved after c story commit (λ s. ends before (marks commit s)) m h a.0
      (ends_alike before moved after c (marks commit) (entry.Commit story commit ∷ []) m.moves.manager m.spare
      (moves_two before moved after c (on_hand without_story) (λ s. ends moved (becomes_marked commit s)) [] (entry.Commit story commit ∷ []) m.moves a.2));
  none_left = λ seat t at opened. has_seat before.registry.seats c (λ (s : Seat). s.hand.own.items ≡ []) seat
      (has_back before.registry moved.registry c (on_hand without_story) (λ (s : Seat). s.hand.own.items ≡ []) (λ s. refl) m.moves.registry m.held a.1) at;
  spare = λ seat at.
      let told = a.3 (on_hand without_story seat) (seat_edited before.registry moved.registry c (on_hand without_story) seat (λ s. refl) m.moves.registry at) in
      subst (λ (x : Manager). after.spare_undo ≡ spare_left x before.spare_undo (marks commit seat)) m.moves.manager
      (subst (λ (u : Record). after.spare_undo ≡ spare_left moved.manager u (marks commit seat)) m.spare told);
}
commit_from_mark schema before moved after c story answer.More m h a =
    let commit = commits moved.journal.entries + 1 in (
      commit,
      record {
        marks_it =
            marks_from schema before moved after c story commit (marks commit) m h refl
            (moves_two before moved after c (on_hand without_story) (becomes_marked commit) [] (entry.Commit story commit ∷ []) m.moves a.1);
        some_left = λ seat t at opened. has_seat before.registry.seats c (λ (s : Seat). s.hand.own.items ≢ []) seat
            (has_back before.registry moved.registry c (on_hand without_story) (λ (s : Seat). s.hand.own.items ≢ []) (λ s. refl) m.moves.registry m.held a.0) at;
        spare = a.2 ∙ m.spare;
      },
    )
commit_from_mark schema before moved after c story (answer.Ready (outcome.Begun s b)) m h a = absurd a
commit_from_mark schema before moved after c story (answer.Ready (outcome.Did r)) m h a = absurd a
commit_from_mark schema before moved after c story (answer.Ready (outcome.Ended at)) m h a = absurd a
commit_from_mark schema before moved after c story (answer.Ready outcome.RolledBack) m h a = absurd a
commit_from_mark schema before moved after c story (answer.Ready (outcome.Watching at)) m h a = absurd a
commit_from_mark schema before moved after c story (answer.Ready (outcome.Event n i)) m h a = absurd a
commit_from_mark schema before moved after c story (answer.Ready (outcome.NoEvent at)) m h a = absurd a
commit_from_mark schema before moved after c story (answer.Ready outcome.Closed) m h a = absurd a
commit_from_mark schema before moved after c story (answer.Busy x) m h a = absurd a
commit_from_mark schema before moved after c story (answer.Conflict n o) m h a = absurd a
commit_from_mark schema before moved after c story (answer.Full n r) m h a = absurd a
commit_from_mark schema before moved after c story (answer.Gone by at) m h a = absurd a
commit_from_mark schema before moved after c story answer.NoMemory m h a = absurd a

-- a story that is put back is the one that was there
pub refuses_alike :
    (before moved after : Transactions) (c : ConnId) (seat : Seat) (done : List (Op × Reply)) (commit operation : ℕ) → seat_of before.registry.seats c ≡ Some seat → done ≡ seat.hand.done.items
    → before.manager ≡ moved.manager
    → Moves before after c (λ s. refuses moved.manager done commit operation (on_hand without_story s)) []
    → Moves before after c (conflicts before.manager commit operation) []
refuses_alike before moved after c seat done commit operation at is same m =
    let why = cause.Conflict commit operation in
    let at_seat : refuses moved.manager done commit operation (on_hand without_story seat) ≡ conflicts before.manager commit operation seat =
    ap (λ (d : List (Op × Reply)). rolls_back moved.manager why (on_hand (with_story d) seat)) is
    ∙ ap (λ (x : Manager). rolls_back x why (on_hand (with_story seat.hand.done.items) seat)) (sym same) in
    record {
      manager = m.manager;
      registry = m.registry ∙ ap (λ (ss : Seats). record before.registry { seats = ss })
          (alike before.registry.seats c.slot seat (λ s. refuses moved.manager done commit operation (on_hand without_story s)) (conflicts before.manager commit operation)
          (stands before.registry.seats c seat at).there at_seat);
      entries = m.entries;
    }

-- the record of a connection that wasn't condemned says so
pub live_seat : (t : Transactions) (c : ConnId) (seat : Seat) → IsRoll t.registry → IsLive t c → seat_of t.registry.seats c ≡ Some seat → seat.condemned ≡ None
live_seat t c seat roll live at =
    let there = stands t.registry.seats c seat at in
    (roll.seated c.slot seat there.there).condemned ∙ (ap (condemned_in t.registry.condemned) there.conn ∙ live)

-- a running transaction that may write
running_writes : (t : Transactions) (c : ConnId) (seat : Seat) → IsSound t → IsSomeAnd (seat_of t.registry.seats c) (λ s. s.hand.phase ≡ phase.Running kind.ReadWrite) → seat_of t.registry.seats c ≡ Some seat → IsRunning seat
running_writes t c seat s h at =
    in_its_phase _ seat (phase.Running kind.ReadWrite) (orderly_of [] t c seat s at) (has_seat t.registry.seats c (λ (x : Seat). x.hand.phase ≡ phase.Running kind.ReadWrite) seat h at)

pub kind_of : (k : Kind) (o : Option Transaction) (t : Transaction) → IsSomeAnd o (λ x. (x.kind ≡ k) × (x.mark ≡ None)) → o ≡ Some t → t.kind ≡ k
kind_of k o t h e = let there = subst (λ (p : Option Transaction). IsSomeAnd p (λ x. (x.kind ≡ k) × (x.mark ≡ None))) e h in there.0

-- what is known once a story was moved out of the record of a running writer
pub moved_is :
    (before moved : Transactions) (c : ConnId) (story : Story) → IsSound before → IsLive before c
    → IsSomeAnd (seat_of before.registry.seats c) (λ s. s.hand.phase ≡ phase.Running kind.ReadWrite)
    → ((seat : Seat) (t : Transaction) → seat_of before.registry.seats c ≡ Some seat → seat.transaction ≡ Some t → story ≡ story_in c t seat.hand)
    → Moves before moved c (on_hand without_story) [] → KeepsSpare before moved → Moved before moved c story
moved_is before moved c story s live h told moves spare = record {
  live = live;
  held = is_held before.registry.seats c (λ (x : Seat). x.hand.phase ≡ phase.Running kind.ReadWrite) h;
  writes = λ seat t at opened. kind_of kind.ReadWrite seat.transaction t (running_writes before c seat s h at).transaction opened;
  story_is = told;
  moves = moves;
  spare = spare;
}

-- its record then
pub moved_out :
    (before moved : Transactions) (c : ConnId) → IsRoll before.registry → IsLive before c
    → IsSomeAnd (seat_of before.registry.seats c) (λ s. s.hand.phase ≡ phase.Running kind.ReadWrite)
    → Moves before moved c (on_hand without_story) [] → IsSomeAnd (seat_of moved.registry.seats c) IsMovedOut
moved_out before moved c roll live h moves =
    let there = of_held before.registry.seats c (λ (x : Seat). x.hand.phase ≡ phase.Running kind.ReadWrite) h in
    has_from moved.registry.seats c IsMovedOut (on_hand without_story there.0)
    (seat_edited before.registry moved.registry c (on_hand without_story) there.0 (λ s. refl) moves.registry there.1.0)
    (record { running = there.1.1; live = live_seat before c there.0 roll live there.1.0; empty = refl })

-- its transaction is open
pub running_open : (t : Transactions) (c : ConnId) → IsSound t → IsSomeAnd (seat_of t.registry.seats c) (λ s. s.hand.phase ≡ phase.Running kind.ReadWrite) → IsSomeAnd (seat_of t.registry.seats c) (λ s. IsSome s.transaction)
running_open t c s h =
    let there = of_held t.registry.seats c (λ (x : Seat). x.hand.phase ≡ phase.Running kind.ReadWrite) h in
    has_from t.registry.seats c (λ (x : Seat). IsSome x.transaction) there.0 there.1.0
    (is_some_from (λ (x : Transaction). (x.kind ≡ kind.ReadWrite) × (x.mark ≡ None)) there.0.transaction (running_writes t c there.0 s h there.1.0).transaction)

-- the operations of a story are those of the record that it was moved out of
pub story_done :
    (t : Transactions) (c : ConnId) (story : Story) (seat : Seat) → IsSome seat.transaction
    → ((s : Seat) (x : Transaction) → seat_of t.registry.seats c ≡ Some s → s.transaction ≡ Some x → story ≡ story_in c x s.hand)
    → seat_of t.registry.seats c ≡ Some seat → story.done ≡ seat.hand.done.items
story_done t c story seat opened told at =
    let x = some_of seat.transaction opened in
    ap (λ (s : Story). s.done) (told seat x.0 at x.1)
