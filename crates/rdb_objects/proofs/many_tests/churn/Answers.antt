use Rattle.std.proofs.Common.{ap}
use Rattle.rdb_cells.specs.Memory.{memory_image}
use Rattle.rdb_cells.specs.Records.{Record}
use Rattle.rdb_objects.proofs.TestLemmas.{starts_empty}
use Rattle.rdb_objects.proofs.many_tests.churn.Goals as goal

pub adding-init : goal.adding-init
adding-init g c = (starts_empty (memory_image c.in_ok-cells.cells) c.in_ok-cells.ensures, ap (λ (r : Record). r.pairs) c.in_ok-plan.ensures)
