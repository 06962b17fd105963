use Rattle.std.proofs.Common.{◌<◌, arith}
use Rattle.rdb_patricia.proofs.StartingLemmas.{bytes_of}
use Rattle.rdb_patricia.proofs.tests.short.Goals as goal

pub returns-clause-bytes : goal.returns-clause-bytes
returns-clause-bytes g c = bytes_of c.args.text.now (λ i. let fits = c.type_inv.text i in omega arith)
