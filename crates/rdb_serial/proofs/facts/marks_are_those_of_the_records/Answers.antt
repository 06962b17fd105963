use Rattle.rdb_serial.proofs.ProgressLemmas.{marks_are}
use Rattle.rdb_serial.proofs.facts.marks_are_those_of_the_records.Goals as goal

pub returns : goal.returns
returns c = marks_are
