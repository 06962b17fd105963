use Rattle.std.proofs.Common.{◌≡◌, ℕ, List, subst, Err, refl, rules}
use Rattle.rdb_runner.specs.declared.status.Status.TheVariants.{Done, NoMemory}
use Rattle.rdb_runner.specs.Reading.{sight_of}
use Rattle.rdb_runner.specs.Telling.{Tells, ink_of}
use Rattle.rdb_runner.specs.Work.{IsCheckWork}
use Rattle.rdb_runner.proofs.CheckLemmas.{checked_told, unreadable_told, fault_told}
use Rattle.rdb_runner.proofs.check.end.Goals as goal

pub returns-in-Ok : goal.returns-in-Ok
returns-in-Ok g c =
    let name = c.args.schema.now in
    let sight = sight_of g.F.Files.told g.F.Files.asked g.F.Files.faults c.args.files.now c.work.new.files in
    let ink = ink_of g.K.Sink.written g.K.Sink.faults c.args.out.now c.tell.new.out in
    let work = subst (IsCheckWork name sight) c.in-Ok.is c.work.ensures.work in
    let bytes : c.as_bytes.result.now ≡ c.in-Ok.text = search rules in
    record {
      status = c.tell.result;
      number = refl;
      told = checked_told name sight ink c.tell.result c.in-Ok.text work (subst (λ (b : List ℕ). Tells ink Done b c.tell.result) bytes c.tell.ensures);
      asked = c.work.ensures.asked;
    }

pub returns-in-Err-Unreadable : goal.returns-in-Err-Unreadable
returns-in-Err-Unreadable g c =
    let name = c.args.schema.now in
    let sight = sight_of g.F.Files.told g.F.Files.asked g.F.Files.faults c.args.files.now c.work.new.files in
    let ink = ink_of g.K.Sink.written g.K.Sink.faults c.args.out.now c.tell_unreadable.new.out in
    let work = subst (λ h. IsCheckWork name sight (Err h)) c.in-Err-Unreadable.field-0-is (subst (IsCheckWork name sight) c.in-Err-Unreadable.is c.work.ensures.work) in
    record {
      status = c.tell_unreadable.result;
      number = refl;
      told = unreadable_told name sight ink c.tell_unreadable.result work c.tell_unreadable.ensures;
      asked = c.work.ensures.asked;
    }

pub returns-in-Err-Refused : goal.returns-in-Err-Refused
returns-in-Err-Refused g c =
    let name = c.args.schema.now in
    let sight = sight_of g.F.Files.told g.F.Files.asked g.F.Files.faults c.args.files.now c.work.new.files in
    let ink = ink_of g.K.Sink.written g.K.Sink.faults c.args.out.now c.tell_fault.new.out in
    let work = subst (λ h. IsCheckWork name sight (Err h)) c.in-Err-Refused.field-0-is (subst (IsCheckWork name sight) c.in-Err-Refused.is c.work.ensures.work) in
    record {
      status = c.tell_fault.result;
      number = refl;
      told = fault_told name sight ink c.tell_fault.result c.in-Err-Refused.fault work c.tell_fault.ensures;
      asked = c.work.ensures.asked;
    }

pub returns-in-Err-NoMemory : goal.returns-in-Err-NoMemory
returns-in-Err-NoMemory g c = record { status = NoMemory; number = refl; told = (refl, refl); asked = c.work.ensures.asked }
