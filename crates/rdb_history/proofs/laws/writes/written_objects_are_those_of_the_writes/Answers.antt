use Rattle.rdb_history.proofs.ClassLemmas.{has_class}
use Rattle.rdb_history.proofs.ObjectLemmas.{objects_at_most}
use Rattle.rdb_history.proofs.WriteLemmas.{among_is, placed, written_at, written_once}
use Rattle.rdb_history.proofs.laws.writes.written_objects_are_those_of_the_writes.Goals as goal

pub returns : goal.returns
returns c = record {
  among = among_is;
  placed = placed;
  written = written_at;
  once = written_once;
  few = objects_at_most;
  classes = λ done classes object has written. has_class classes done object has written;
}
