use Rattle.std.proofs.Common.{◌≡◌, ℕ, List, [], ◌∷◌, sym, ap, ◌∙◌, subst}
use Rattle.rdb_runner.specs.Promise.{ReplayEnds}
use Rattle.rdb_runner.specs.Statuses.{number_of}
use Rattle.rdb_runner.specs.Reading.{sight_of}
use Rattle.rdb_runner.specs.Telling.{ink_of}
use Rattle.rdb_runner.proofs.JobLemmas.{single}
use Rattle.rdb_runner.proofs.replay.end.Goals as goal

pub returns : goal.returns
returns g c =
    let job = c.args.job.now in
    let client = c.at.result.now in
    let last : c.as_str-client.result.now ∷ [] ≡ job.clients = ap (λ (x : List ℕ). x ∷ []) c.as_str-client.ensures ∙ sym (single job.clients client c.requires c.at.ensures) in
    subst (λ (names : List (List ℕ)). ReplayEnds names (sight_of g.F.Files.told g.F.Files.asked g.F.Files.faults c.args.files.now c.end_job.new.files) (ink_of g.K.Sink.written g.K.Sink.faults c.args.out.now c.end_job.new.out) (number_of c.end_job.result))
    (λ i. c.as_str-schema.ensures i ∷ c.as_str-schedule.ensures i ∷ last i) c.end_job.ensures
