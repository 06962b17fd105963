use Rattle.std.proofs.Common.{◌≡◌, ◌++◌, ◌∷◌, [], Bool, get_or, cond, None, sym, ap, ◌∙◌}
use Rattle.std.proofs.lemmas.List.{append-nil}
use Rattle.std.specs.Ordering.{is_eq}
use Rattle.rdb_pages.specs.declared.cell.CellRef.{CellRef}
use Rattle.rdb_cells.specs.Keys.{says}
use Rattle.rdb_tree.specs.Lookups.{has_key}
use Rattle.rdb_tree.proofs.EqualLemmas.{row_step}
use Rattle.rdb_tree.proofs.SearchLemmas.{test_key, within, not_equal}
use Rattle.rdb_tree.proofs.lookup.push_equal.Goals as goal
use Rattle.rdb_tree.proofs.lookup.push_equal.Goals.{in-Equal+in_ok-push-in-Equal, in_default}

pub loop-place-preserved : goal.loop-place-preserved
loop-place-preserved g c =
    let none : CellRef = record { number = 0 } in
    let at = get_or c.args.own.now c.loop-place.place none in
    let version_of = (g.K.Keys.meaning c.args.keys.now).version_of (g.C.Cells.image c.args.cells.now) in
    let keyed = c.requires.keyed at (within c.args.own.now c.loop-place.place none c.loop-place-test.true) in
    let tested : has_key (says (g.K.Keys.meaning c.args.keys.now) (g.C.Cells.image c.args.cells.now)) c.args.key.now (get_or c.args.own.now c.loop-place.place none) ≡ is_eq c.against.result = test_key is_eq (version_of at.number) c.args.key.now None c.against.result keyed c.against.ensures.order in
    row_step (says (g.K.Keys.meaning c.args.keys.now) (g.C.Cells.image c.args.cells.now)) c.args.key.now c.args.own.now c.loop-place.place none c.loop-place.refs _ c.match-against.refs c.loop-place-test.true c.loop-place.invariant
    (elim c.match-against.branch [
      | in-Equal+in_ok-push-in-Equal w ↦ w.refs-is ∙ w.in_ok-push-in-Equal.ensures.ok ∙ ap (λ (b : Bool). c.loop-place.refs ++ cond b (get_or c.args.own.now c.loop-place.place none ∷ []) []) (sym (tested ∙ ap is_eq w.in-Equal.is))
      | in_default w ↦ w.refs-is ∙ sym (append-nil c.loop-place.refs) ∙ ap (λ (b : Bool). c.loop-place.refs ++ cond b (get_or c.args.own.now c.loop-place.place none ∷ []) []) (sym (tested ∙ not_equal c.against.result w.in_default.not-Equal))
    ])
