use Rattle.rdb_access.proofs.Decoding.{elements_read}
use Rattle.rdb_access.proofs.decode.read_elements.Goals as goal

pub loop-preserved : goal.loop-preserved
loop-preserved c =
    elements_read c.args.of.now c.args.count c.loop.counter c.loop.rest.now c.after_element-rest.result.now c.in_ok-read_element.field-0 c.loop.elements c.push.new.self _ c.loop-test.true c.in_ok-read_element.ensures
    c.after_element-rest.ensures c.in_ok-push.ensures.ok c.loop.invariant
