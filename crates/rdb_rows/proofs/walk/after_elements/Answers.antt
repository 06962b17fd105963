use Rattle.std.proofs.Common.{◌<◌, ◌+◌, ◌++◌, drop, arith}
use Rattle.std.specs.List.{flat_map}
use Rattle.rdb_schema.specs.Encoding.{element_bytes}
use Rattle.rdb_rows.proofs.WalkLemmas.{element_begin, elements_end}
use Rattle.rdb_rows.proofs.walk.after_elements.Goals as goal

pub after_element-behind-requires : goal.after_element-behind-requires
after_element-behind-requires g c =
    let image = g.C.Cells.image c.args.cells.now in
    let has = c.requires in
    let before : c.loop.counter < c.args.many = c.loop-test.true in
    let count = has.count in
    let there = element_begin c.args.of.now image c.loop.behind has.elements has.rest c.loop.counter (omega arith) has.fit (c.loop.invariant has.elements has.rest has.count has.fit has.stand) in
    record {
      value = there.0;
      rest = flat_map (element_bytes c.args.of.now) (drop (c.loop.counter + 1) has.elements) ++ has.rest;
      fits = there.1;
      stand = there.2;
    }

pub loop-preserved : goal.loop-preserved
loop-preserved g c es rest count fit stand =
    let image = g.C.Cells.image c.args.cells.now in
    let before : c.loop.counter < c.args.many = c.loop-test.true in
    let there = element_begin c.args.of.now image c.loop.behind es rest c.loop.counter (omega arith) fit (c.loop.invariant es rest count fit stand) in
    c.after_element-behind.ensures there.0 (flat_map (element_bytes c.args.of.now) (drop (c.loop.counter + 1) es) ++ rest) there.1 there.2

pub returns : goal.returns
returns g c es rest count fit stand =
    let image = g.C.Cells.image c.args.cells.now in
    let least = c.loop-test.false in
    elements_end c.args.of.now image c.loop.behind es rest c.loop.counter (omega arith) (c.loop.invariant es rest count fit stand)
