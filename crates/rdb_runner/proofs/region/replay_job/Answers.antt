use Rattle.std.proofs.Common.{ℕ, List, refl, subst}
use Rattle.rdb_runner.specs.declared.status.Status.TheVariants.{NoMemory}
use Rattle.rdb_runner.specs.Parts.{names_of}
use Rattle.rdb_runner.specs.Promise.{ReplayEnds}
use Rattle.rdb_runner.specs.Reading.{sight_of}
use Rattle.rdb_runner.specs.Telling.{ink_of}
use Rattle.rdb_runner.proofs.EndingLemmas.{asks_none}
use Rattle.rdb_runner.proofs.region.replay_job.Goals as goal

pub returns-in-Ok : goal.returns-in-Ok
returns-in-Ok g c =
    subst (λ (names : List (List ℕ)). ReplayEnds names (sight_of g.F.Files.told g.F.Files.asked g.F.Files.faults c.args.files.now c.replay.new.files) (ink_of g.K.Sink.written g.K.Sink.faults c.args.out.now c.replay.new.out) c.replay.result)
    c.in-Ok.ensures.0 c.replay.ensures

pub returns-in-Err : goal.returns-in-Err
returns-in-Err g c = record {
  status = NoMemory;
  number = c.number.ensures;
  told = (refl, refl);
  asked = asks_none (names_of c.args.schema.now c.args.schedule.now c.args.client.now) (sight_of g.F.Files.told g.F.Files.asked g.F.Files.faults c.args.files.now c.args.files.now) refl;
}
