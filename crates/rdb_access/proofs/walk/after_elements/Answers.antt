use Rattle.std.proofs.Common.{◌≡◌, ◌+◌, ◌-◌, sym, ◌∙◌, arith, ap}
use Rattle.rdb_access.specs.Walk.{after_elements}
use Rattle.rdb_access.proofs.Walking.{elements_fewer}
use Rattle.rdb_access.proofs.walk.after_elements.Goals as goal

pub loop-preserved : goal.loop-preserved
loop-preserved c =
    ap (after_elements c.args.of.now (c.args.count - (c.loop.counter + 1))) c.after_element-rest.ensures
    ∙ sym (elements_fewer c.args.of.now c.args.count c.loop.counter c.loop.rest.now c.loop-test.true) ∙ c.loop.invariant

pub returns : goal.returns
returns c =
    let none : c.args.count - c.loop.counter ≡ 0 = omega arith in
    ap (λ n. after_elements c.args.of.now n c.loop.rest.now) (sym none) ∙ c.loop.invariant
