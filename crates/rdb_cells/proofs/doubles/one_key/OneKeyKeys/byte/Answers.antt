use Rattle.std.proofs.Common.{◌≡◌, List, slice_get}
use Rattle.std.specs.Option.{ForSome}
use Rattle.rdb_base.specs.declared.value.Value.{Value}
use Rattle.rdb_cells.specs.Keys.{text_of}
use Rattle.rdb_cells.proofs.KeyLemmas.{of_key}
use Rattle.rdb_cells.proofs.doubles.one_key.OneKeyKeys.byte.Goals as goal

pub returns : goal.returns
returns g c = of_key c.args.self.now.key (λ (key : List Value). ForSome (text_of key) (λ text. c.byte_in.result ≡ slice_get text c.args.place)) c.byte_in.ensures (g.C.Cells.image c.args._cells.now c.args._version.number)
