use Rattle.rdb_runner.proofs.WordsLaws.{words_asked, words_bad_report, words_bad_schedule, words_bad_schema, words_bad_script, words_done, words_interrupted, words_memory, words_statuses, words_unreadable, words_usage}
use Rattle.rdb_runner.proofs.laws.words_status_tells.Goals as goal

pub returns : goal.returns
returns c = record {
  statuses = words_statuses;
  done = words_done;
  usage = words_usage;
  unreadable = words_unreadable;
  bad_schema = words_bad_schema;
  bad_script = words_bad_script;
  bad_schedule = words_bad_schedule;
  bad_report = words_bad_report;
  interrupted = words_interrupted;
  memory = words_memory;
  asked = words_asked;
}
