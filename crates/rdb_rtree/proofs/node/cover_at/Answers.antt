use Rattle.rdb_rtree.proofs.NodeLemmas.{entry_box, entry_read, entry_cell, entry_cover}
use Rattle.std.proofs.Common.{◌∙◌}
use Rattle.rdb_rtree.proofs.node.cover_at.Goals as goal

pub rect-requires : goal.rect-requires
rect-requires g c = entry_box (g.K.Keys.meaning c.args.keys.now) c.requires.0 (g.C.Cells.image c.args.cells.now) c.args.at c.args.level c.requires.1 c.requires.2 c.requires.3 c.if-level-eq0.true

pub returns-then-level-eq0 : goal.returns-then-level-eq0
returns-then-level-eq0 g c = λ said h t is. entry_read (g.K.Keys.meaning c.args.keys.now) said (g.C.Cells.image c.args.cells.now) c.args.at c.args.level h t is c.if-level-eq0.true c.rect.result c.rect.ensures

pub read-requires : goal.read-requires
read-requires g c = entry_cell (g.K.Keys.meaning c.args.keys.now) c.requires.0 (g.C.Cells.image c.args.cells.now) c.args.at c.args.level c.requires.1 c.requires.2 c.requires.3 c.if-level-eq0.false

pub returns : goal.returns
returns g c = λ said h t is. c.cover_in.ensures ∙ entry_cover (g.K.Keys.meaning c.args.keys.now) said (g.C.Cells.image c.args.cells.now) c.args.at c.args.level h t is c.if-level-eq0.false c.read.result.now c.read.ensures
