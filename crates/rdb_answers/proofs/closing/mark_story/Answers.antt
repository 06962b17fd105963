use Rattle.std.proofs.Common.{◌≡◌, ◌≢◌, ◌+◌, ◌∷◌, ℕ, [], None, refl, sym, ap, subst, arith}
use Rattle.rdb_base.specs.declared.identity.Kind.TheVariants as kind
use Rattle.rdb_base.specs.declared.identity.Manager.{Manager}
use Rattle.rdb_base.specs.declared.identity.Phase.TheVariants as phase
use Rattle.rdb_base.specs.declared.journal.Entry.TheVariants as entry
use Rattle.rdb_cells.specs.Records.{Record}
use Rattle.rdb_model.specs.Journal.{commits}
use Rattle.rdb_registry.specs.declared.seat.Seat.{Seat}
use Rattle.rdb_answers.specs.declared.answer.Answer.TheVariants as answer
use Rattle.rdb_answers.specs.declared.answer.Outcome.TheVariants as outcome
use Rattle.rdb_answers.specs.Ends.{IsMovedOut, MarkAnswer}
use Rattle.rdb_transactions.specs.Records.{becomes_marked, spare_left}
use Rattle.rdb_transactions.specs.Moves.{ends}
use Rattle.rdb_transactions.proofs.EditLemmas.{has_after, held_edited, is_held, seat_edited}
use Rattle.rdb_transactions.proofs.SoundLemmas.{commits_few}
use Rattle.rdb_answers.proofs.CallLemmas.{has_map, has_back, moves_then, on_true, on_false}
use Rattle.rdb_answers.proofs.CommitLemmas.{ends_alike}
use Rattle.rdb_answers.proofs.closing.mark_story.Goals as goal

pub overflow_add-commit : goal.overflow_add-commit
overflow_add-commit c =
    let few = commits_few c.args.t.now.journal.entries in
    let limit = c.requires.sound.claims.room.limit in
    let is = c.commits-commit.ensures in
    omega (arith, few, limit, is)

pub mark-requires-clause-running : goal.mark-requires-clause-running
mark-requires-clause-running c = has_map c.args.t.now.registry.seats c.args.c IsMovedOut (λ (s : Seat). s.hand.phase ≡ phase.Running kind.ReadWrite) (λ s m. m.running) c.requires.moved

pub mark-requires-clause-live : goal.mark-requires-clause-live
mark-requires-clause-live c = has_map c.args.t.now.registry.seats c.args.c IsMovedOut (λ (s : Seat). s.condemned ≡ None) (λ s m. m.live) c.requires.moved

pub mark-requires-clause-empty : goal.mark-requires-clause-empty
mark-requires-clause-empty c = has_map c.args.t.now.registry.seats c.args.c IsMovedOut (λ (s : Seat). s.hand.done.items ≡ []) (λ s m. m.empty) c.requires.moved

pub has_no_version-requires : goal.has_no_version-requires
has_no_version-requires c =
    let before = c.args.t.now in
    held_edited before.registry c.mark.new.self.registry c.args.c (becomes_marked (commits before.journal.entries + 1)) (λ s. refl) c.mark.ensures.moves.registry
    (is_held before.registry.seats c.args.c IsMovedOut c.requires.moved)

pub end_committed-requires-clause-stamping : goal.end_committed-requires-clause-stamping
end_committed-requires-clause-stamping c =
    let before = c.args.t.now in
    has_after before.registry c.mark.new.self.registry c.args.c (becomes_marked (commits before.journal.entries + 1)) IsMovedOut (λ (s : Seat). s.hand.phase ≡ phase.Stamping) (λ s. refl) c.mark.ensures.moves.registry
    (λ seat m. refl) c.requires.moved

pub returns-then-has_no_version-clause-answer : goal.returns-then-has_no_version-clause-answer
returns-then-has_no_version-clause-answer c =
    let before = c.args.t.now in
    let marked = c.mark.new.self in
    let after = c.end_committed.new.self in
    let number = commits before.journal.entries + 1 in
    let is : c.commits-commit.result + 1 ≡ number = ap (λ n. n + 1) c.commits-commit.ensures in
    let change = becomes_marked number in
    let held = is_held before.registry.seats c.args.c IsMovedOut c.requires.moved in
    let none = has_back before.registry marked.registry c.args.c change (λ (s : Seat). s.hand.own.items ≡ []) (λ s. refl) c.mark.ensures.moves.registry held
    (on_true c.has_no_version.result c.if-has_no_version.true c.has_no_version.ensures.yes) in
    subst (λ (n : ℕ). MarkAnswer before after c.args.c c.args.story (answer.Ready (outcome.Committed n))) (sym is) (
      refl,
      none,
      ends_alike before marked after c.args.c change (entry.Commit c.args.story number ∷ []) c.mark.ensures.moves.manager c.mark.ensures.spare
          (moves_then before marked after c.args.c change (ends marked) (entry.Commit c.args.story number ∷ []) c.mark.ensures.moves c.end_committed.ensures.moves),
      λ seat at.
          let told = c.end_committed.ensures.spare (change seat) (seat_edited before.registry marked.registry c.args.c change seat (λ s. refl) c.mark.ensures.moves.registry at) in
          subst (λ (m : Manager). after.spare_undo ≡ spare_left m before.spare_undo (change seat)) c.mark.ensures.moves.manager
          (subst (λ (u : Record). after.spare_undo ≡ spare_left marked.manager u (change seat)) c.mark.ensures.spare told),
    )

pub returns-else-has_no_version-clause-answer : goal.returns-else-has_no_version-clause-answer
returns-else-has_no_version-clause-answer c =
    let before = c.args.t.now in
    let marked = c.mark.new.self in
    let held = is_held before.registry.seats c.args.c IsMovedOut c.requires.moved in
    let some = has_back before.registry marked.registry c.args.c (becomes_marked (commits before.journal.entries + 1)) (λ (s : Seat). s.hand.own.items ≢ []) (λ s. refl) c.mark.ensures.moves.registry held
    (on_false c.has_no_version.result c.if-has_no_version.false c.has_no_version.ensures.no) in
    (some, c.mark.ensures.moves, c.mark.ensures.spare)
