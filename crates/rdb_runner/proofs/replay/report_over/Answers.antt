use Rattle.rdb_runner.proofs.ScriptLines.{lines_can_run, lines_are_few}
use Rattle.rdb_runner.proofs.WorkLemmas.{work_no_script, work_no_schedule, work_other, work_done}
use Rattle.rdb_runner.proofs.replay.report_over.Goals as goal

pub lines_of-requires-clause-plain : goal.lines_of-requires-clause-plain
lines_of-requires-clause-plain c = c.in-Ok-plain_job.ensures.plain.schema_plain

pub lines_of-requires-clause-few : goal.lines_of-requires-clause-few
lines_of-requires-clause-few c = lines_are_few c.args.schema.now c.args.client.now c.in-Ok-schedule_in.items c.in-Ok.script c.in-Ok-plain_job.lines.now c.in-Ok.ensures.read c.in-Ok-plain_job.ensures.plain

pub lines_of-requires-clause-each : goal.lines_of-requires-clause-each
lines_of-requires-clause-each c = lines_can_run c.args.schema.now c.args.client.now c.in-Ok-schedule_in.items c.in-Ok.script c.in-Ok-plain_job.lines.now c.in-Ok.ensures.read c.in-Ok-plain_job.ensures.plain

pub returns-in-Err : goal.returns-in-Err
returns-in-Err c = λ text read. work_no_script text c.args.schedule.now c.args.client.now c.args.schema.now c.in-Err.halt read c.in-Err.ensures.refused

pub returns-in-Err-schedule_in : goal.returns-in-Err-schedule_in
returns-in-Err-schedule_in c = λ text read. work_no_schedule text c.args.schedule.now c.args.client.now c.args.schema.now c.in-Ok.script c.in-Err-schedule_in.halt read c.in-Ok.ensures.read c.in-Err-schedule_in.ensures.refused

pub returns : goal.returns
returns c = λ text read. work_other text c.args.schedule.now c.args.client.now c.args.schema.now c.in-Ok-schedule_in.items c.in-Ok.script read c.in-Ok.ensures.read c.in-Ok-schedule_in.ensures.read c.in-Err-plain_job.place c.in-Ok.ensures.only c.in-Ok-schedule_in.ensures.only c.in-Err-plain_job.ensures.other

pub returns-in-Ok-plain_job : goal.returns-in-Ok-plain_job
returns-in-Ok-plain_job c = λ text read. work_done text c.args.schedule.now c.args.client.now c.args.schema.now c.in-Ok-schedule_in.items c.in-Ok.script read c.in-Ok.ensures.read c.in-Ok-schedule_in.ensures.read c.in-Ok-plain_job.lines.now c.in_ok-lines_of-in-Ok-plain_job.field-0 c.in-Ok-plain_job.ensures.plain c.in_ok-lines_of-in-Ok-plain_job.ensures
