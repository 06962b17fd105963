use Rattle.std.proofs.Common.{length, ap, ◌∙◌}
use Rattle.std.specs.Prelude.{nat_lt}
use Rattle.rdb_pages.specs.declared.cell.CellRef.{CellRef}
use Rattle.rdb_cells.specs.Work.{work, reading}
use Rattle.rdb_tree.proofs.ChangeLemmas.{node_cell, node_few, node_keys}
use Rattle.rdb_tree.proofs.remove.can_spare.Goals as goal

pub node_at-requires : goal.node_at-requires
node_at-requires g c = node_cell (reading (work g.C.Cells c.args.cells.now)) c.args.at c.requires.0 c.requires.1 c.requires.2

pub keys_of-requires : goal.keys_of-requires
keys_of-requires g c = node_few (reading (work g.C.Cells c.args.cells.now)) c.args.at c.requires.0 c.requires.1 c.requires.2 c.node_at.result c.node_at.ensures

pub returns : goal.returns
returns g c = λ keys children is.
    ap (λ (n : _). nat_lt 3 n) (ap (length {A = CellRef}) (c.keys_of.ensures ∙ node_keys (reading (work g.C.Cells c.args.cells.now)) c.args.at keys children is c.node_at.result c.node_at.ensures))
