use Rattle.std.proofs.Common.{◌∙◌, ℕ, List, sym, ap, subst}
use Rattle.std.specs.Option.{option_map}
use Rattle.rdb_base.specs.declared.operation.Reply.TheVariants as reply
use Rattle.rdb_schema.specs.declared.schema.IndexDecl.{IndexDecl}
use Rattle.rdb_model.specs.Answer.{clash}
use Rattle.rdb_model.specs.Others.{others}
use Rattle.rdb_cursor.specs.Clashes.{AreDeclared}
use Rattle.rdb_cursor.specs.Views.{rows_of}
use Rattle.rdb_cursor.proofs.Clashing.{declared_at, clash_here, clash_later, clash_nowhere}
use Rattle.rdb_cursor.proofs.refusals.clash.Goals as goal

pub holder-requires-clause-index : goal.holder-requires-clause-index
holder-requires-clause-index g c = (declared_at c.args.view.now.class.now c.as_slice-indexes.result.now (subst (λ (l : List IndexDecl). AreDeclared c.args.view.now.class.now l) (sym c.as_slice-indexes.ensures) c.requires.indexes) c.loop-place.place c.index-indexes-place.result c.loop-place-test.true c.index-indexes-place.is).0

pub holder-requires-clause-fields : goal.holder-requires-clause-fields
holder-requires-clause-fields g c = (declared_at c.args.view.now.class.now c.as_slice-indexes.result.now (subst (λ (l : List IndexDecl). AreDeclared c.args.view.now.class.now l) (sym c.as_slice-indexes.ensures) c.requires.indexes) c.loop-place.place c.index-indexes-place.result c.loop-place-test.true c.index-indexes-place.is).1

pub returns-in-Some : goal.returns-in-Some
returns-in-Some g c objects holds =
    clash_here c.as_slice-indexes.result.now c.args.row.now (others c.args.left_out (rows_of (g.M.Marks.marked c.args.view.now.marks.now) c.args.view.now.reader objects)) c.loop-place.place c.index-indexes-place.result c.loop-place-test.true c.index-indexes-place.is
    c.in_ok-id.field-0 (c.in_ok-id.ensures objects holds) (c.loop-place.invariant objects holds) c.in-Some.id c.in-Some.is
    ∙ ap (λ (l : List IndexDecl). option_map (λ (at : ℕ × ℕ). reply.Duplicate at.0 at.1) (clash l 0 c.args.row.now (others c.args.left_out (rows_of (g.M.Marks.marked c.args.view.now.marks.now) c.args.view.now.reader objects)))) c.as_slice-indexes.ensures

pub loop-place-preserved : goal.loop-place-preserved
loop-place-preserved g c objects holds =
    clash_later c.as_slice-indexes.result.now c.args.row.now (others c.args.left_out (rows_of (g.M.Marks.marked c.args.view.now.marks.now) c.args.view.now.reader objects)) c.loop-place.place c.index-indexes-place.result c.loop-place-test.true c.index-indexes-place.is
    c.in_ok-id.field-0 (c.in_ok-id.ensures objects holds) (c.loop-place.invariant objects holds) c.in_default.is

pub returns : goal.returns
returns g c objects holds =
    clash_nowhere c.as_slice-indexes.result.now c.args.row.now (others c.args.left_out (rows_of (g.M.Marks.marked c.args.view.now.marks.now) c.args.view.now.reader objects)) c.loop-place.place c.loop-place-test.false (c.loop-place.invariant objects holds)
    ∙ ap (λ (l : List IndexDecl). option_map (λ (at : ℕ × ℕ). reply.Duplicate at.0 at.1) (clash l 0 c.args.row.now (others c.args.left_out (rows_of (g.M.Marks.marked c.args.view.now.marks.now) c.args.view.now.reader objects)))) c.as_slice-indexes.ensures
