use Rattle.std.proofs.Common.{◌≡◌, ◌∙◌, ◌++◌, ◌∷◌, [], ℕ, List, Option, get_or, take, sym, ap, subst}
use Rattle.std.proofs.lemmas.List.{append-nil}
use Rattle.std.proofs.lemmas.List.Sorted.{IsNonDecreasingBy-from_sort}
use Rattle.std.proofs.lemmas.Result.{IfOk-weaker}
use Rattle.std.specs.List.{filter_map, cons_option}
use Rattle.std.specs.List.Sorted.{IsPermutation}
use Rattle.rdb_cells.specs.Keys.{says}
use Rattle.rdb_model.specs.Answer.{ids_where}
use Rattle.rdb_model.specs.Index.{has_key}
use Rattle.rdb_store.specs.Shapes.{nature_of_class, index_at}
use Rattle.rdb_cursor.specs.Views.{OfRows}
use Rattle.rdb_cursor.proofs.Finding.{shown_id, ids_found, given_is}
use Rattle.rdb_cursor.proofs.IdLists.{given_item, given_whole, item_in}
use Rattle.rdb_cursor.proofs.KeyIndexes.{stands_by, key_fits, header_of_row, listed_row, found_listed, found_these, listing, rises, agrees}
use Rattle.rdb_cursor.proofs.ids.ids_with_key.Goals.{in-Some+in_ok-push, in_default}
use Rattle.rdb_cursor.proofs.ids.ids_with_key.Goals as goal

pub equal-requires-clause-stands : goal.equal-requires-clause-stands
equal-requires-clause-stands g c = stands_by c.args.view.now.class.now (g.C.Cells.image c.args.view.now.cells.now) (g.C.Cells.class_of c.args.view.now.cells.now) c.requires.look c.args.index c.index-keyed.result.now c.index-keyed.ensures

pub equal-requires-clause-key : goal.equal-requires-clause-key
equal-requires-clause-key g c = key_fits c.args.view.now.class.now (g.C.Cells.image c.args.view.now.cells.now) (g.C.Cells.class_of c.args.view.now.cells.now) c.requires.look c.args.index c.index-keyed.result.now c.index-keyed.ensures c.args.key.now c.requires.key

pub id_if_seen-requires-clause-version : goal.id_if_seen-requires-clause-version
id_if_seen-requires-clause-version g c objects holds =
    header_of_row objects _
    (listed_row c.args.view.now.class.now (g.C.Cells.image c.args.view.now.cells.now) (g.C.Cells.class_of c.args.view.now.cells.now) c.requires.look c.args.index c.index-keyed.result.now c.index-keyed.ensures objects holds (get_or c.as_slice-version-items.result.now c.loop-version.version-index (record { number = 0 }))
    (found_listed c.args.view.now.class.now (g.C.Cells.image c.args.view.now.cells.now) (g.C.Cells.class_of c.args.view.now.cells.now) c.requires.look c.args.index c.index-keyed.result.now c.index-keyed.ensures objects holds c.args.key.now c.in_ok-found.found c.in_ok-found.ensures (get_or c.as_slice-version-items.result.now c.loop-version.version-index (record { number = 0 }))
    (item_in c.as_slice-version-items.result.now c.in_ok-found.found c.loop-version.version-index c.as_slice-version-items.ensures c.loop-version-test.true)))

pub loop-version-preserved : goal.loop-version-preserved
loop-version-preserved g c objects holds =
    let within = found_listed c.args.view.now.class.now (g.C.Cells.image c.args.view.now.cells.now) (g.C.Cells.class_of c.args.view.now.cells.now) c.requires.look c.args.index c.index-keyed.result.now c.index-keyed.ensures objects holds c.args.key.now c.in_ok-found.found c.in_ok-found.ensures (get_or c.as_slice-version-items.result.now c.loop-version.version-index (record { number = 0 }))
    (item_in c.as_slice-version-items.result.now c.in_ok-found.found c.loop-version.version-index c.as_slice-version-items.ensures c.loop-version-test.true) in
    let given = given_is (says ((nature_of_class c.args.view.now.class.now).at c.args.index).keys (g.C.Cells.image c.args.view.now.cells.now)) (index_at c.args.view.now.class.now c.args.index).fields objects (agrees c.args.view.now.class.now (g.C.Cells.image c.args.view.now.cells.now) (g.C.Cells.class_of c.args.view.now.cells.now) c.requires.look c.args.index c.index-keyed.result.now c.index-keyed.ensures objects holds).listed (listing c.args.view.now.class.now (g.C.Cells.image c.args.view.now.cells.now) (g.C.Cells.class_of c.args.view.now.cells.now) c.requires.look c.args.index c.index-keyed.result.now c.index-keyed.ensures objects holds) (g.M.Marks.marked c.args.view.now.marks.now) c.args.view.now.reader (get_or c.as_slice-version-items.result.now c.loop-version.version-index (record { number = 0 })) c.id_if_seen.result within (c.id_if_seen.ensures objects holds) in
    let more = given_item (shown_id (g.M.Marks.marked c.args.view.now.marks.now) c.args.view.now.reader (says ((nature_of_class c.args.view.now.class.now).at c.args.index).keys (g.C.Cells.image c.args.view.now.cells.now)) objects) c.as_slice-version-items.result.now c.loop-version.version-index c.loop-version-test.true in
    elim c.match-id_if_seen.branch [
      | in-Some+in_ok-push w ↦
          ap (λ (l : _). l.items) w.ids-is ∙ w.in_ok-push.ensures.items ∙ ap (λ (ids : List ℕ). ids ++ w.in-Some.id ∷ []) (c.loop-version.invariant objects holds)
          ∙ ap (λ (o : Option ℕ). filter_map (shown_id (g.M.Marks.marked c.args.view.now.marks.now) c.args.view.now.reader (says ((nature_of_class c.args.view.now.class.now).at c.args.index).keys (g.C.Cells.image c.args.view.now.cells.now)) objects) (take c.loop-version.version-index c.as_slice-version-items.result.now) ++ cons_option o []) (sym w.in-Some.is ∙ given)
          ∙ sym more
      | in_default w ↦
          ap (λ (l : _). l.items) w.ids-is ∙ c.loop-version.invariant objects holds
          ∙ sym (append-nil (filter_map (shown_id (g.M.Marks.marked c.args.view.now.marks.now) c.args.view.now.reader (says ((nature_of_class c.args.view.now.class.now).at c.args.index).keys (g.C.Cells.image c.args.view.now.cells.now)) objects) (take c.loop-version.version-index c.as_slice-version-items.result.now)))
          ∙ ap (λ (o : Option ℕ). filter_map (shown_id (g.M.Marks.marked c.args.view.now.marks.now) c.args.view.now.reader (says ((nature_of_class c.args.view.now.class.now).at c.args.index).keys (g.C.Cells.image c.args.view.now.cells.now)) objects) (take c.loop-version.version-index c.as_slice-version-items.result.now) ++ cons_option o []) (sym w.in_default.is ∙ given)
          ∙ sym more
    ]

pub returns : goal.returns
returns g c =
    let ids = c.sort_unstable.new.self.items in
    let whole : OfRows c.args.view.now.class.now (g.C.Cells.image c.args.view.now.cells.now) (g.C.Cells.class_of c.args.view.now.cells.now) (g.M.Marks.marked c.args.view.now.marks.now) c.args.view.now.reader (λ rows. ids ≡ ids_where (has_key (index_at c.args.view.now.class.now c.args.index).fields c.args.key.now) rows) = λ objects holds.
    ids_found (says ((nature_of_class c.args.view.now.class.now).at c.args.index).keys (g.C.Cells.image c.args.view.now.cells.now)) (index_at c.args.view.now.class.now c.args.index).fields objects (agrees c.args.view.now.class.now (g.C.Cells.image c.args.view.now.cells.now) (g.C.Cells.class_of c.args.view.now.cells.now) c.requires.look c.args.index c.index-keyed.result.now c.index-keyed.ensures objects holds).listed (listing c.args.view.now.class.now (g.C.Cells.image c.args.view.now.cells.now) (g.C.Cells.class_of c.args.view.now.cells.now) c.requires.look c.args.index c.index-keyed.result.now c.index-keyed.ensures objects holds) (g.M.Marks.marked c.args.view.now.marks.now) c.args.view.now.reader c.args.key.now c.in_ok-found.found ids (rises c.args.view.now.class.now (g.C.Cells.image c.args.view.now.cells.now) (g.C.Cells.class_of c.args.view.now.cells.now) c.requires.look c.args.index c.index-keyed.result.now c.index-keyed.ensures objects holds)
    (found_these c.args.view.now.class.now (g.C.Cells.image c.args.view.now.cells.now) (g.C.Cells.class_of c.args.view.now.cells.now) c.requires.look c.args.index c.index-keyed.result.now c.index-keyed.ensures objects holds c.args.key.now c.in_ok-found.found c.in_ok-found.ensures)
    (subst (λ (l : List ℕ). IsPermutation l ids)
    (c.loop-version.invariant objects holds ∙ given_whole (shown_id (g.M.Marks.marked c.args.view.now.marks.now) c.args.view.now.reader (says ((nature_of_class c.args.view.now.class.now).at c.args.index).keys (g.C.Cells.image c.args.view.now.cells.now)) objects) c.as_slice-version-items.result.now c.loop-version.version-index c.in_ok-found.found c.loop-version-test.false c.as_slice-version-items.ensures)
    c.sort_unstable.ensures.permutation)
    (IsNonDecreasingBy-from_sort (λ (n : ℕ). n) ids c.sort_unstable.ensures.sorted) in
    let Are : List ℕ → Type 0 = λ l. OfRows c.args.view.now.class.now (g.C.Cells.image c.args.view.now.cells.now) (g.C.Cells.class_of c.args.view.now.cells.now) (g.M.Marks.marked c.args.view.now.marks.now) c.args.view.now.reader (λ rows. l ≡ ids_where (has_key (index_at c.args.view.now.class.now c.args.index).fields c.args.key.now) rows) in
    IfOk-weaker c.from_slice.result (λ (l : List ℕ). l ≡ c.as_slice.result.now) Are (λ l same. subst Are (sym (same ∙ c.as_slice.ensures.value)) whole) c.from_slice.ensures
