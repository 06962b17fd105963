use Rattle.std.proofs.Common.{◌≡◌, ◌<◌, ◌≢◌, Some, length, arith, rules}
use Rattle.rdb_cells.proofs.ChangeLemmas.{keeps-named, keeps-kept, keeps-skipped, is_changed}
use Rattle.rdb_cells.proofs.pairs.keep_changes.Goals as goal
use Rattle.rdb_cells.proofs.pairs.keep_changes.Goals.{then-ne, else-ne}

pub read-requires : goal.read-requires
read-requires g c =
    let h : c.loop-at.at < length c.args.pairs.now.items = omega arith in
    c.requires c.index.result.now.at.number (keeps-named (g.C.Cells.image c.args.cells.now) c.args.pairs.now.items c.loop-at.pairs.items c.loop-at.at c.loop-at.kept c.index.result.now h c.loop-at.invariant.0 c.index.ensures)

pub loop-at-preserved : goal.loop-at-preserved
loop-at-preserved g c =
    let image = g.C.Cells.image c.args.cells.now in
    let initial = c.args.pairs.now.items in
    let now = c.loop-at.pairs.items in
    let p = c.index.result.now in
    let h : c.loop-at.at < length initial = omega arith in
    elim c.if-ne.branch [
      | then-ne w ↦
          let differ : c.read.result.now ≢ p.cell = search rules in
          rw (w.pairs-is, w.kept-is)
          (keeps-kept image initial now c.loop-at.at c.loop-at.kept p h c.loop-at.invariant.0 c.index.ensures (is_changed (image p.at.number) c.read.result.now p.cell c.read.ensures differ), c.loop-at.invariant.1)
      | else-ne w ↦
          let same : image p.at.number ≡ Some p.cell = search rules in
          rw (w.pairs-is, w.kept-is)
          (keeps-skipped image initial now c.loop-at.at c.loop-at.kept p h c.loop-at.invariant.0 c.index.ensures same, c.loop-at.invariant.1)
    ]
