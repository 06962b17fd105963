use Rattle.std.proofs.Common.{◌≡◌, ◌≢◌, ◌∙◌, Some, get_or, sym, rules}
use Rattle.rdb_cursor.proofs.Clashing.{but_found, but_more, but_none}
use Rattle.rdb_cursor.proofs.refusals.first_but.Goals as goal

pub returns-then-ne : goal.returns-then-ne
returns-then-ne c =
    let other : c.args.left_out ≢ Some (get_or c.args.ids.now c.loop-id.id-index 0) = search rules in
    sym (but_found c.args.left_out c.args.ids.now c.loop-id.id-index c.loop-id-test.true other) ∙ c.loop-id.invariant

pub loop-id-preserved : goal.loop-id-preserved
loop-id-preserved c =
    let out : c.args.left_out ≡ Some (get_or c.args.ids.now c.loop-id.id-index 0) = search rules in
    but_more c.args.left_out c.args.ids.now c.loop-id.id-index c.loop-id-test.true out ∙ c.loop-id.invariant

pub returns : goal.returns
returns c = sym (but_none c.args.left_out c.args.ids.now c.loop-id.id-index c.loop-id-test.false) ∙ c.loop-id.invariant
