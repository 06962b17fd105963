use Rattle.std.proofs.Common.{refl}
use Rattle.std.specs.Prelude.{flat_map}
use Rattle.rdb_literals.specs.Printed.{escaped}
use Rattle.rdb_literals.proofs.PrintedLemmas.{printed_spelled}
use Rattle.rdb_literals.proofs.spelled.printed_texts_are_quoted.Goals as goal

pub returns : goal.returns
returns c = λ words utf8. (flat_map escaped words, refl, printed_spelled words, utf8)
