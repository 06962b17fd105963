use Rattle.std.proofs.Common.{◌≡◌, Some, IsSome, List}
use Rattle.rdb_base.specs.declared.value.Value.{Value}
use Rattle.rdb_cells.specs.Keys.{box_of}
use Rattle.rdb_cells.proofs.KeyLemmas.{of_key, has_key}
use Rattle.rdb_cells.proofs.doubles.one_key.OneKeyKeys.rect.Goals as goal

pub rect_in-requires : goal.rect_in-requires
rect_in-requires g c = has_key c.args.self.now.key (λ (key : List Value). IsSome (box_of key)) (g.C.Cells.image c.args._cells.now c.args._version.number) c.requires.0 c.requires.1 c.requires.2

pub returns : goal.returns
returns g c = of_key c.args.self.now.key (λ (key : List Value). box_of key ≡ Some c.rect_in.result) c.rect_in.ensures (g.C.Cells.image c.args._cells.now c.args._version.number)
