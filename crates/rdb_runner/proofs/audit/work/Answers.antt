use native.Mathlib.Omega.{arith}
use Rattle.std.proofs.Common.{◌≡◌, length, lit≤}
use Rattle.rdb_runner.specs.AuditFile.{audit_names}
use Rattle.rdb_runner.specs.Reading.{sight_of}
use Rattle.rdb_runner.proofs.AuditLemmas.{audit_work_of, two_lent}
use Rattle.rdb_runner.proofs.audit.work.Goals as goal

pub returns-clause-work : goal.returns-clause-work
returns-clause-work g c =
    let schema = c.args.schema.now in
    let report = c.args.report.now in
    let sight = sight_of g.F.Files.told g.F.Files.asked g.F.Files.faults c.args.files.now c.read_all.new.files in
    let there = c.as_slice.result.now in
    let two : length there ≡ 2 = omega (arith, c.in-len2.len_at_least, c.in-len2.len_below) in
    let read = two_lent (audit_names schema report) sight _ there c.schema-item.result c.report-item.result c.as_slice-2.result.now c.as_slice-3.result.now c.in-Ok.ensures.answer c.as_slice.ensures two
    c.schema-item.is c.report-item.is c.as_slice-2.ensures c.as_slice-3.ensures in
    audit_work_of schema report sight c.as_slice-2.result.now c.as_slice-3.result.now c.audited.result read c.audited.ensures

pub returns-clause-asked : goal.returns-clause-asked
returns-clause-asked g c = (2, lit≤ tt, c.in-Ok.ensures.answer.1)
