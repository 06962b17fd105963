use Rattle.std.proofs.Common.{◌≡◌, [], ◌∷◌, refl, sym, ap, ◌∙◌, subst, length}
use Rattle.rdb_runner.specs.Command.{CommandEnds, IsBuilt, task_of}
use Rattle.rdb_words.specs.Grammar.{texts}
use Rattle.rdb_runner.specs.CommandLine.{replay, run, job}
use Rattle.rdb_runner.specs.Reading.{sight_of}
use Rattle.rdb_runner.specs.Telling.{ink_of}
use Rattle.rdb_runner.proofs.CommandLemmas.{unbuilt_ends, unbuilt_is_no_want, not_one_client}
use Rattle.rdb_runner.proofs.region.end_command.Goals as goal

pub returns-in-Some-clause-ends : goal.returns-in-Some-clause-ends
returns-in-Some-clause-ends g c =
    let line = c.in-Replay in
    let clients : texts line.clients.items ≡ c.in-Some.client.now ∷ [] = ap texts (sym c.as_slice.ensures.value) ∙ c.in-Some.ensures.some in
    rw line.is (subst (λ cs. CommandEnds (replay line.settings line.schema.now line.schedule.now cs) (sight_of g.F.Files.told g.F.Files.asked g.F.Files.faults c.args.files.now c.replay_job.new.files) (ink_of g.K.Sink.written g.K.Sink.faults c.args.out.now c.replay_job.new.out) c.replay_job.result) (sym clients) c.replay_job.ensures)

pub returns-in-Some-clause-memory : goal.returns-in-Some-clause-memory
returns-in-Some-clause-memory g c =
    let line = c.in-Replay in
    let clients : texts line.clients.items ≡ c.in-Some.client.now ∷ [] = ap texts (sym c.as_slice.ensures.value) ∙ c.in-Some.ensures.some in
    rw line.is (λ wants. subst (λ cs. IsBuilt (task_of (replay line.settings line.schema.now line.schedule.now cs))) (sym clients) tt)

pub returns-in-None-clause-ends : goal.returns-in-None-clause-ends
returns-in-None-clause-ends g c =
    let line = c.in-Replay in
    let none : length line.clients.items ≡ 1 → ⊥ = λ one. c.in-None.ensures.none (ap length c.as_slice.ensures.value ∙ one) in
    rw line.is (unbuilt_ends (replay line.settings line.schema.now line.schedule.now (texts line.clients.items)) _ _ _ (not_one_client line.settings line.schema.now line.schedule.now line.clients.items none) (refl, refl) c.answer.ensures)

pub returns-in-None-clause-memory : goal.returns-in-None-clause-memory
returns-in-None-clause-memory g c = λ wants. absurd (unbuilt_is_no_want _ _ _ c.answer.ensures wants)

pub returns-in-Check-clause-ends : goal.returns-in-Check-clause-ends
returns-in-Check-clause-ends g c = rw c.in-Check.is c.check.ensures

pub returns-in-Check-clause-memory : goal.returns-in-Check-clause-memory
returns-in-Check-clause-memory g c = rw c.in-Check.is (λ wants. tt)

pub returns-in-Run-clause-ends : goal.returns-in-Run-clause-ends
returns-in-Run-clause-ends g c =
    let line = c.in-Run in
    rw line.is (unbuilt_ends (run line.settings line.schema.now (texts line.clients.items)) _ _ _ refl (refl, refl) c.answer-in-Run.ensures)

pub returns-in-Run-clause-memory : goal.returns-in-Run-clause-memory
returns-in-Run-clause-memory g c = λ wants. absurd (unbuilt_is_no_want _ _ _ c.answer-in-Run.ensures wants)

pub returns-in-Audit-clause-ends : goal.returns-in-Audit-clause-ends
returns-in-Audit-clause-ends g c = rw c.in-Audit.is c.audit_file.ensures

pub returns-in-Audit-clause-memory : goal.returns-in-Audit-clause-memory
returns-in-Audit-clause-memory g c = rw c.in-Audit.is (λ wants. tt)

pub returns-in-Job-clause-ends : goal.returns-in-Job-clause-ends
returns-in-Job-clause-ends g c =
    let line = c.in-Job in
    rw line.is (unbuilt_ends (job line.seed line.threads) _ _ _ refl (refl, refl) c.answer-in-Job.ensures)

pub returns-in-Job-clause-memory : goal.returns-in-Job-clause-memory
returns-in-Job-clause-memory g c = λ wants. absurd (unbuilt_is_no_want _ _ _ c.answer-in-Job.ensures wants)
