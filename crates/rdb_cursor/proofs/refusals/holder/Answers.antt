use Rattle.std.proofs.Common.{◌≡◌, ◌∙◌, Bool, true, cond, None, sym, ap, rules}
use Rattle.rdb_model.specs.Index.{key}
use Rattle.rdb_model.specs.Others.{others, first_with}
use Rattle.rdb_store.specs.Shapes.{index_at}
use Rattle.rdb_cursor.specs.Clashes.{first_but}
use Rattle.rdb_cursor.specs.Views.{rows_of}
use Rattle.rdb_cursor.proofs.Clashing.{row_key_fits, held_by}
use Rattle.rdb_cursor.proofs.refusals.holder.Goals as goal

pub ids_with_key-requires-clause-key : goal.ids_with_key-requires-clause-key
ids_with_key-requires-clause-key g c =
    row_key_fits c.args.view.now.class.now c.args.index c.args.declared.now.key c.args.row.now c.in_ok-key.key c.requires.row c.requires.fields c.in_ok-key.ensures

pub returns : goal.returns
returns g c objects holds =
    let unique : c.args.declared.now.unique ≡ true = search rules in
    let rows = rows_of (g.M.Marks.marked c.args.view.now.marks.now) c.args.view.now.reader objects in
    held_by c.args.declared.now.key (index_at c.args.view.now.class.now c.args.index).fields c.args.row.now c.in_ok-key.key c.args.left_out rows c.in_ok-ids.ids c.first_but.result
    c.requires.fields c.in_ok-key.ensures (c.in_ok-ids.ensures objects holds) (c.first_but.ensures ∙ ap (first_but c.args.left_out) c.as_slice.ensures)
    ∙ sym (ap (λ (b : Bool). cond b (first_with c.args.declared.now.key (key c.args.declared.now.key c.args.row.now) (others c.args.left_out rows)) None) unique)
