use native.Mathlib.Omega.{arith}
use Rattle.std.proofs.Common.{◌≡◌, length, lit≤}
use Rattle.rdb_runner.specs.Parts.{names_of}
use Rattle.rdb_runner.specs.Reading.{sight_of}
use Rattle.rdb_runner.proofs.JobLemmas.{work_of, three_lent}
use Rattle.rdb_runner.proofs.replay.work.Goals as goal

pub returns-clause-work : goal.returns-clause-work
returns-clause-work g c =
    let names = names_of c.args.schema.now c.args.schedule.now c.args.client.now in
    let sight = sight_of g.F.Files.told g.F.Files.asked g.F.Files.faults c.args.files.now c.read_all.new.files in
    let there = c.as_slice.result.now in
    let three : length there ≡ 3 = omega (arith, c.in-len3.len_at_least, c.in-len3.len_below) in
    let read = three_lent names sight _ there c.schema-item.result c.schedule-item.result c.client-item.result c.as_slice-2.result.now c.as_slice-3.result.now c.as_slice-4.result.now c.in-Ok.ensures.answer c.as_slice.ensures three
    c.schema-item.is c.schedule-item.is c.client-item.is c.as_slice-2.ensures c.as_slice-3.ensures c.as_slice-4.ensures in
    work_of names sight c.as_slice-2.result.now c.as_slice-3.result.now c.as_slice-4.result.now c.report_of.result read c.report_of.ensures

pub returns-clause-asked : goal.returns-clause-asked
returns-clause-asked g c = (3, lit≤ tt, c.in-Ok.ensures.answer.1)
