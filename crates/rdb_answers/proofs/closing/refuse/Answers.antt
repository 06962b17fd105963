use Rattle.std.proofs.Common.{◌≡◌, [], refl, subst}
use Rattle.rdb_base.specs.declared.identity.Kind.TheVariants as kind
use Rattle.rdb_base.specs.declared.identity.Manager.{Manager}
use Rattle.rdb_base.specs.declared.identity.Phase.TheVariants as phase
use Rattle.rdb_base.specs.declared.journal.Cause.TheVariants as cause
use Rattle.rdb_registry.specs.declared.seat.Seat.{Seat}
use Rattle.rdb_answers.specs.Ends.{IsMovedOut}
use Rattle.rdb_answers.specs.Callers.{Runs}
use Rattle.rdb_answers.proofs.CallLemmas.{has_map, moves_two, running_unmarked}
use Rattle.rdb_transactions.specs.Hands.{with_story}
use Rattle.rdb_transactions.specs.Moves.{Moves}
use Rattle.rdb_transactions.specs.Records.{on_hand, rolls_back}
use Rattle.rdb_transactions.proofs.EditLemmas.{has_after}
use Rattle.rdb_answers.proofs.closing.refuse.Goals as goal

pub put_story_back-requires-clause-running : goal.put_story_back-requires-clause-running
put_story_back-requires-clause-running c = has_map c.args.t.now.registry.seats c.args.c IsMovedOut (λ (s : Seat). s.hand.phase ≡ phase.Running kind.ReadWrite) (λ s m. m.running) c.requires.moved

pub put_story_back-requires-clause-empty : goal.put_story_back-requires-clause-empty
put_story_back-requires-clause-empty c = has_map c.args.t.now.registry.seats c.args.c IsMovedOut (λ (s : Seat). s.hand.done.items ≡ []) (λ s m. m.empty) c.requires.moved

pub begin_roll_back-requires-clause-opened : goal.begin_roll_back-requires-clause-opened
begin_roll_back-requires-clause-opened c =
    let before = c.args.t.now in
    running_unmarked c.put_story_back.new.self c.args.c [] c.put_story_back.ensures.sound
    (has_after before.registry c.put_story_back.new.self.registry c.args.c (on_hand (with_story c.args.story.done)) IsMovedOut Runs (λ s. refl) c.put_story_back.ensures.moves.registry
    (λ seat m. (kind.ReadWrite, m.running)) c.requires.moved)

pub returns-clause-moves : goal.returns-clause-moves
returns-clause-moves c =
    let before = c.args.t.now in
    let back = c.put_story_back.new.self in
    let after = c.begin_roll_back.new.self in
    let why = cause.Conflict c.args.commit c.args.operation in
    subst (λ (m : Manager). Moves before after c.args.c (λ s. rolls_back m why (on_hand (with_story c.args.story.done) s)) []) c.put_story_back.ensures.moves.manager
    (moves_two before back after c.args.c (on_hand (with_story c.args.story.done)) (rolls_back back.manager why) [] [] c.put_story_back.ensures.moves c.begin_roll_back.ensures.moves)
