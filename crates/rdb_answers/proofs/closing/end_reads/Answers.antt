use Rattle.std.proofs.Common.{◌≡◌, [], IsSomeAnd, Option, sym, subst}
use Rattle.rdb_base.specs.declared.identity.Kind.TheVariants as kind
use Rattle.rdb_base.specs.declared.identity.Phase.TheVariants as phase
use Rattle.rdb_registry.specs.declared.seat.Seat.{Seat}
use Rattle.rdb_registry.specs.declared.seat.Transaction.{Transaction}
use Rattle.rdb_transactions.proofs.EditLemmas.{has_seat}
use Rattle.rdb_transactions.proofs.PhaseLemmas.{in_its_phase}
use Rattle.rdb_transactions.proofs.SoundLemmas.{orderly_of}
use Rattle.rdb_answers.proofs.CommitLemmas.{kind_of}
use Rattle.rdb_answers.proofs.closing.end_reads.Goals as goal

pub returns-clause-answer : goal.returns-clause-answer
returns-clause-answer c schema =
    let before = c.args.t.now in
    record {
      live = c.requires.live;
      reads = λ seat t at opened.
          let is = has_seat before.registry.seats c.args.c (λ (s : Seat). s.hand.phase ≡ phase.Running kind.ReadOnly) seat c.requires.reading at in
          let reading = in_its_phase _ seat (phase.Running kind.ReadOnly) (orderly_of [] before c.args.c seat c.requires.sound at) is in
          let told = has_seat before.registry.seats c.args.c (λ (s : Seat). IsSomeAnd s.transaction (λ x. x.snapshot ≡ c.end_read-at.result)) seat c.end_read-at.ensures.snapshot at in
          let snapshot : t.snapshot ≡ c.end_read-at.result = subst (λ (o : Option Transaction). IsSomeAnd o (λ x. x.snapshot ≡ c.end_read-at.result)) opened told in
          (kind_of kind.ReadOnly seat.transaction t reading.transaction opened, sym snapshot);
      moves = c.end_read-at.ensures.moves;
      spare = c.end_read-at.ensures.spare;
    }
