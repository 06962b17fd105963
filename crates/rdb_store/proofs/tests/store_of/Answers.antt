use Rattle.std.proofs.Common.{◌≡◌, ◌<◌, List, length, ap, ◌∙◌, arith, rules}
use Rattle.rdb_store.specs.Shapes.{ClassShape}
use Rattle.rdb_store.proofs.ClassNumbers.{many_shapes}
use Rattle.rdb_store.proofs.tests.store_of.Goals as goal

pub returns-clause-some : goal.returns-clause-some
returns-clause-some c =
    let some : 0 < length c.args.schema.now.classes = search rules in
    let many : length c.in_ok-store.store ≡ length c.args.schema.now.classes = ap (λ (l : List ClassShape). length l) c.in_ok-store.ensures ∙ many_shapes c.args.schema.now 0 (length c.args.schema.now.classes) in
    omega arith
