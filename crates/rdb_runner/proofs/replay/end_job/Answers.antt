use Rattle.std.proofs.Common.{subst, Err, refl}
use Rattle.rdb_runner.specs.declared.status.Status.TheVariants.{NoMemory}
use Rattle.rdb_runner.specs.Parts.{names_of}
use Rattle.rdb_runner.specs.Reading.{sight_of}
use Rattle.rdb_runner.specs.Telling.{ink_of}
use Rattle.rdb_runner.specs.Work.{IsJobWork}
use Rattle.rdb_runner.proofs.JobLemmas.{report_told, unread_told, other_told, schema_fault_told, script_fault_told, schedule_fault_told}
use Rattle.rdb_runner.proofs.replay.end_job.Goals as goal

pub returns-in-Ok : goal.returns-in-Ok
returns-in-Ok g c =
    let names = names_of c.args.schema.now c.args.schedule.now c.args.client.now in
    let sight = sight_of g.F.Files.told g.F.Files.asked g.F.Files.faults c.args.files.now c.work.new.files in
    let ink = ink_of g.K.Sink.written g.K.Sink.faults c.args.out.now c.tell_lines.new.out in
    let work = subst (IsJobWork names sight) c.in-Ok.is c.work.ensures.work in
    record {
      status = c.tell_lines.result;
      number = refl;
      told = report_told names sight ink c.tell_lines.result _ work c.tell_lines.ensures;
      asked = c.work.ensures.asked;
    }

pub returns-in-Err-Unreadable : goal.returns-in-Err-Unreadable
returns-in-Err-Unreadable g c =
    let names = names_of c.args.schema.now c.args.schedule.now c.args.client.now in
    let sight = sight_of g.F.Files.told g.F.Files.asked g.F.Files.faults c.args.files.now c.work.new.files in
    let ink = ink_of g.K.Sink.written g.K.Sink.faults c.args.out.now c.tell_unreadable.new.out in
    let work = subst (λ h. IsJobWork names sight (Err h)) c.in-Err-Unreadable.field-0-is (subst (IsJobWork names sight) c.in-Err-Unreadable.is c.work.ensures.work) in
    record {
      status = c.tell_unreadable.result;
      number = refl;
      told = unread_told names sight ink c.tell_unreadable.result c.in-Err-Unreadable.place c.name_at-name.result.now work c.name_at-name.ensures c.tell_unreadable.ensures;
      asked = c.work.ensures.asked;
    }

pub returns-in-Err-BadSchema : goal.returns-in-Err-BadSchema
returns-in-Err-BadSchema g c =
    let names = names_of c.args.schema.now c.args.schedule.now c.args.client.now in
    let sight = sight_of g.F.Files.told g.F.Files.asked g.F.Files.faults c.args.files.now c.work.new.files in
    let ink = ink_of g.K.Sink.written g.K.Sink.faults c.args.out.now c.tell_fault.new.out in
    let work = subst (λ h. IsJobWork names sight (Err h)) c.in-Err-BadSchema.field-0-is (subst (IsJobWork names sight) c.in-Err-BadSchema.is c.work.ensures.work) in
    record {
      status = c.tell_fault.result;
      number = refl;
      told = schema_fault_told names sight ink c.tell_fault.result c.in-Err-BadSchema.fault work c.tell_fault.ensures;
      asked = c.work.ensures.asked;
    }

pub returns-in-Err-BadScript : goal.returns-in-Err-BadScript
returns-in-Err-BadScript g c =
    let names = names_of c.args.schema.now c.args.schedule.now c.args.client.now in
    let sight = sight_of g.F.Files.told g.F.Files.asked g.F.Files.faults c.args.files.now c.work.new.files in
    let ink = ink_of g.K.Sink.written g.K.Sink.faults c.args.out.now c.tell_line.new.out in
    let work = subst (λ h. IsJobWork names sight (Err h)) c.in-Err-BadScript.field-0-is (subst (IsJobWork names sight) c.in-Err-BadScript.is c.work.ensures.work) in
    record {
      status = c.tell_line.result;
      number = refl;
      told = script_fault_told names sight ink c.tell_line.result c.in-Err-BadScript.line work c.tell_line.ensures;
      asked = c.work.ensures.asked;
    }

pub returns-in-Err-BadSchedule : goal.returns-in-Err-BadSchedule
returns-in-Err-BadSchedule g c =
    let names = names_of c.args.schema.now c.args.schedule.now c.args.client.now in
    let sight = sight_of g.F.Files.told g.F.Files.asked g.F.Files.faults c.args.files.now c.work.new.files in
    let ink = ink_of g.K.Sink.written g.K.Sink.faults c.args.out.now c.tell_item.new.out in
    let work = subst (λ h. IsJobWork names sight (Err h)) c.in-Err-BadSchedule.field-0-is (subst (IsJobWork names sight) c.in-Err-BadSchedule.is c.work.ensures.work) in
    record {
      status = c.tell_item.result;
      number = refl;
      told = schedule_fault_told names sight ink c.tell_item.result c.in-Err-BadSchedule.item work c.tell_item.ensures;
      asked = c.work.ensures.asked;
    }

pub returns-in-Err-NotBuilt : goal.returns-in-Err-NotBuilt
returns-in-Err-NotBuilt g c =
    let names = names_of c.args.schema.now c.args.schedule.now c.args.client.now in
    let sight = sight_of g.F.Files.told g.F.Files.asked g.F.Files.faults c.args.files.now c.work.new.files in
    let ink = ink_of g.K.Sink.written g.K.Sink.faults c.args.out.now c.tell_not_built.new.out in
    let work = subst (λ h. IsJobWork names sight (Err h)) c.in-Err-NotBuilt.field-0-is (subst (IsJobWork names sight) c.in-Err-NotBuilt.is c.work.ensures.work) in
    record {
      status = c.tell_not_built.result;
      number = refl;
      told = other_told names sight ink c.tell_not_built.result c.in-Err-NotBuilt.place c.name_at-name-in-Err-NotBuilt.result.now work c.name_at-name-in-Err-NotBuilt.ensures c.tell_not_built.ensures;
      asked = c.work.ensures.asked;
    }

pub returns-in-Err-NoMemory : goal.returns-in-Err-NoMemory
returns-in-Err-NoMemory g c = record { status = NoMemory; number = refl; told = (refl, refl); asked = c.work.ensures.asked }
