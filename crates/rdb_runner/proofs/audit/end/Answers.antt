use Rattle.std.proofs.Common.{subst, Err, refl}
use Rattle.rdb_runner.specs.declared.status.Status.TheVariants.{NoMemory}
use Rattle.rdb_runner.specs.Reading.{sight_of}
use Rattle.rdb_runner.specs.Telling.{ink_of}
use Rattle.rdb_runner.specs.Work.{IsAuditWork}
use Rattle.rdb_runner.proofs.AuditLemmas.{counts_told, unread_told, fault_told, bad_line_told, illegal_told}
use Rattle.rdb_runner.proofs.audit.end.Goals as goal

pub returns-in-Ok : goal.returns-in-Ok
returns-in-Ok g c =
    let schema = c.args.schema.now in
    let report = c.args.report.now in
    let sight = sight_of g.F.Files.told g.F.Files.asked g.F.Files.faults c.args.files.now c.work.new.files in
    let ink = ink_of g.K.Sink.written g.K.Sink.faults c.args.out.now c.tell_counts.new.out in
    let work = subst (IsAuditWork schema report sight) c.in-Ok.is c.work.ensures.work in
    record {
      status = c.tell_counts.result;
      number = refl;
      told = counts_told schema report sight ink c.tell_counts.result c.in-Ok.counts work c.tell_counts.ensures;
      asked = c.work.ensures.asked;
    }

pub returns-in-Err-Unreadable : goal.returns-in-Err-Unreadable
returns-in-Err-Unreadable g c =
    let schema = c.args.schema.now in
    let report = c.args.report.now in
    let sight = sight_of g.F.Files.told g.F.Files.asked g.F.Files.faults c.args.files.now c.work.new.files in
    let ink = ink_of g.K.Sink.written g.K.Sink.faults c.args.out.now c.tell_unreadable.new.out in
    let work = subst (λ h. IsAuditWork schema report sight (Err h)) c.in-Err-Unreadable.field-0-is (subst (IsAuditWork schema report sight) c.in-Err-Unreadable.is c.work.ensures.work) in
    record {
      status = c.tell_unreadable.result;
      number = refl;
      told = unread_told schema report sight ink c.tell_unreadable.result c.in-Err-Unreadable.place c.name_at-name.result.now work c.name_at-name.ensures c.tell_unreadable.ensures;
      asked = c.work.ensures.asked;
    }

pub returns-in-Err-BadSchema : goal.returns-in-Err-BadSchema
returns-in-Err-BadSchema g c =
    let schema = c.args.schema.now in
    let report = c.args.report.now in
    let sight = sight_of g.F.Files.told g.F.Files.asked g.F.Files.faults c.args.files.now c.work.new.files in
    let ink = ink_of g.K.Sink.written g.K.Sink.faults c.args.out.now c.tell_fault.new.out in
    let work = subst (λ h. IsAuditWork schema report sight (Err h)) c.in-Err-BadSchema.field-0-is (subst (IsAuditWork schema report sight) c.in-Err-BadSchema.is c.work.ensures.work) in
    record {
      status = c.tell_fault.result;
      number = refl;
      told = fault_told schema report sight ink c.tell_fault.result c.in-Err-BadSchema.fault work c.tell_fault.ensures;
      asked = c.work.ensures.asked;
    }

pub returns-in-Err-BadLine : goal.returns-in-Err-BadLine
returns-in-Err-BadLine g c =
    let schema = c.args.schema.now in
    let report = c.args.report.now in
    let sight = sight_of g.F.Files.told g.F.Files.asked g.F.Files.faults c.args.files.now c.work.new.files in
    let ink = ink_of g.K.Sink.written g.K.Sink.faults c.args.out.now c.tell_bad_line.new.out in
    let work = subst (λ h. IsAuditWork schema report sight (Err h)) c.in-Err-BadLine.field-0-is (subst (IsAuditWork schema report sight) c.in-Err-BadLine.is c.work.ensures.work) in
    record {
      status = c.tell_bad_line.result;
      number = refl;
      told = bad_line_told schema report sight ink c.tell_bad_line.result c.in-Err-BadLine.line work c.tell_bad_line.ensures;
      asked = c.work.ensures.asked;
    }

pub returns-in-Err-Illegal : goal.returns-in-Err-Illegal
returns-in-Err-Illegal g c =
    let schema = c.args.schema.now in
    let report = c.args.report.now in
    let sight = sight_of g.F.Files.told g.F.Files.asked g.F.Files.faults c.args.files.now c.work.new.files in
    let ink = ink_of g.K.Sink.written g.K.Sink.faults c.args.out.now c.tell_illegal.new.out in
    let work = subst (λ h. IsAuditWork schema report sight (Err h)) c.in-Err-Illegal.field-0-is (subst (IsAuditWork schema report sight) c.in-Err-Illegal.is c.work.ensures.work) in
    record {
      status = c.tell_illegal.result;
      number = refl;
      told = illegal_told schema report sight ink c.tell_illegal.result c.in-Err-Illegal.entry c.in-Err-Illegal.why work c.tell_illegal.ensures;
      asked = c.work.ensures.asked;
    }

pub returns-in-Err-NoMemory : goal.returns-in-Err-NoMemory
returns-in-Err-NoMemory g c = record { status = NoMemory; number = refl; told = (refl, refl); asked = c.work.ensures.asked }
