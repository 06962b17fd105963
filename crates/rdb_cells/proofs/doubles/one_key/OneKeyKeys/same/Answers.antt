use Rattle.std.proofs.Common.{◌≡◌, ◌↔◌, IsTrue, List}
use Rattle.rdb_base.specs.declared.value.Value.{Value}
use Rattle.rdb_cells.proofs.KeyLemmas.{of_key}
use Rattle.rdb_cells.proofs.doubles.one_key.OneKeyKeys.same.Goals as goal

pub returns : goal.returns
returns g c = of_key c.args.self.now.key (λ (key : List Value). IsTrue c.are_equal.result ↔ (key ≡ c.args.key.now)) c.are_equal.ensures (g.C.Cells.image c.args._cells.now c.args._version.number)
