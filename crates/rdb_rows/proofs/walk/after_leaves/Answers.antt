use Rattle.std.proofs.Common.{◌+◌, ◌++◌, drop, arith}
use Rattle.rdb_schema.specs.Encoding.{leaf_bytes, leaves_bytes}
use Rattle.rdb_schema.specs.Values.{leaf_holds}
use Rattle.rdb_rows.proofs.WalkLemmas.{pairs_begin, pairs_end}
use Rattle.rdb_rows.proofs.walk.after_leaves.Goals as goal

pub after_leaf-behind-requires : goal.after_leaf-behind-requires
after_leaf-behind-requires g c =
    let image = g.C.Cells.image c.args.cells.now in
    let has = c.requires in
    let there = pairs_begin leaf_bytes leaf_holds image c.loop-at.behind c.args.types.now has.value has.rest c.loop-at.at c.at.result.now c.at.ensures has.fits (c.loop-at.invariant has.value has.rest has.fits has.stand) in
    record {
      value = there.0;
      rest = leaves_bytes (drop (c.loop-at.at + 1) c.args.types.now) (drop (c.loop-at.at + 1) has.value) ++ has.rest;
      fits = there.1;
      stand = there.2;
    }

pub loop-at-preserved : goal.loop-at-preserved
loop-at-preserved g c ls rest fits stand =
    let image = g.C.Cells.image c.args.cells.now in
    let there = pairs_begin leaf_bytes leaf_holds image c.loop-at.behind c.args.types.now ls rest c.loop-at.at c.at.result.now c.at.ensures fits (c.loop-at.invariant ls rest fits stand) in
    c.after_leaf-behind.ensures there.0 (leaves_bytes (drop (c.loop-at.at + 1) c.args.types.now) (drop (c.loop-at.at + 1) ls) ++ rest) there.1 there.2

pub returns : goal.returns
returns g c ls rest fits stand =
    let image = g.C.Cells.image c.args.cells.now in
    let least = c.loop-at-test.false in
    let count = c.len-at-end.ensures in
    pairs_end leaf_bytes image c.loop-at.behind c.args.types.now ls rest c.loop-at.at (omega arith) (c.loop-at.invariant ls rest fits stand)
