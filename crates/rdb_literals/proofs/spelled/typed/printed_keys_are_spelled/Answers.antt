use Rattle.rdb_schema.specs.Indexes.{key_fields}
use Rattle.rdb_literals.proofs.PrintedValueLemmas.{key_printed}
use Rattle.rdb_literals.proofs.spelled.typed.printed_keys_are_spelled.Goals as goal

pub returns : goal.returns
returns c = λ schema class index key held proper. (key_printed schema (key_fields schema class index) key held proper, held)
