-- Unit by unit.
use Rattle.rdb_bindings.proofs.NumberLemmas.{first_number, next_number, line_of_number}
use Rattle.rdb_bindings.proofs.laws.lines_are_numbered.Goals as goal

pub returns : goal.returns
returns c = record { first = first_number; next = next_number; line = line_of_number }
