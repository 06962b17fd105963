-- What the unique index there has is the first clash.
use Rattle.std.proofs.Common.{sym, ◌∙◌}
use Rattle.rdb_model.specs.Others.{others}
use Rattle.rdb_model.proofs.ClashLemmas.{clash_found}
use Rattle.rdb_model.proofs.clash.find_clash.Goals as goal

pub returns-in-Some : goal.returns-in-Some
returns-in-Some c =
    let os = others c.args.left_out c.args.objects.now in
    let decl = c.index-item.result in
    sym (clash_found c.as_slice-index-items.result.now c.loop-index.number c.args.row.now os c.loop-index.index-index decl c.in-Some.id c.loop-index-test.true c.index-item.is c.if-index.true c.in-Some.ensures)
    ∙ c.loop-index.invariant.left
