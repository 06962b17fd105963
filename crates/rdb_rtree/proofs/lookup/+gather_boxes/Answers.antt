use Rattle.std.proofs.Common.{◌≡◌, ◌+◌, ◌++◌, [], ℕ, suc, List, length, drop, refl, sym, ap, ◌∙◌, arith}
use Rattle.std.proofs.lemmas.List.{append-nil, length-map}
use Rattle.std.specs.List.{flat_map}
use Rattle.std.specs.Prelude.{pos}
use Rattle.rdb_base.specs.declared.value.Rect.{Rect}
use Rattle.rdb_pages.specs.declared.cell.CellRef.{CellRef}
use Rattle.rdb_cells.specs.Keys.{Sayings}
use Rattle.rdb_rtree.specs.Boxes.{overlaps}
use Rattle.rdb_rtree.specs.Lookups.{found_in, matching}
use Rattle.rdb_rtree.specs.Standing.{IsKeyedAt}
use Rattle.rdb_rtree.specs.Trees.{Node, RTree, entry_of, versions, least_entries}
use Rattle.rdb_rtree.specs.declared.entry.Entry.{Entry}
use Rattle.rdb_rtree.proofs.LookupLemmas.{on_ok, keyed_child, gather_step, gather_end, leaf_found, none_found, versions_lie, found_both}
use Rattle.rdb_rtree.proofs.lookup.+gather_boxes.Goals as goal
use Rattle.rdb_rtree.proofs.lookup.+gather_boxes.Goals.{then-overlaps+in_ok-gather_boxes, else-overlaps}

pub returns-then-level-eq0 : goal.returns-then-level-eq0
returns-then-level-eq0 g m c = on_ok c.push_meeting.result (c.push_meeting.new.refs ≡ c.args.refs.now ++ matching c.args.rect.now c.args.inside c.as_slice-entries.result.now) ((said : Sayings) (h : ℕ) (t : Node (RTree h)) → IsKeyedAt (g.K.Keys.meaning c.args.keys.now) said (g.C.Cells.image c.args.cells.now) c.args.at c.args.level h t → c.push_meeting.new.refs ≡ c.args.refs.now ++ found_in said c.args.rect.now c.args.inside (versions (suc h) t)) (λ grown said h t is.
    grown
    ∙ ap (λ (rs : List CellRef). c.args.refs.now ++ rs)
    (ap (matching c.args.rect.now c.args.inside) (c.as_slice-entries.ensures.value ∙ c.entries_at-below.ensures said h t is) ∙ leaf_found said c.args.rect.now c.args.inside h t.below (sym is.tree.level_is ∙ c.if-level-eq0.true) is.shaped)) c.push_meeting.ensures

pub gather_boxes-requires : goal.gather_boxes-requires
gather_boxes-requires g m c κs within =
    let none : Entry = record { at = record { number = 0 }; cover = record { x1 = pos 0; y1 = pos 0; x2 = pos 0; y2 = pos 0 } } in
    let inner = c.if-level-eq0.false in
    let falls = c.decreases in
    let child = keyed_child (g.K.Keys.meaning c.args.keys.now) c.requires.0 (g.C.Cells.image c.args.cells.now) c.args.at c.args.level c.requires.1 c.requires.2 c.requires.3 c.if-level-eq0.false c.as_slice-entries.result.now (c.as_slice-entries.ensures.value ∙ c.entries_at-below.ensures c.requires.0 c.requires.1 c.requires.2 c.requires.3) c.loop-place.place none c.loop-place-test.true in
    (omega arith, (within.0, (within.1, (c.requires.0, child.height, child.child, child.is))))

pub loop-place-preserved : goal.loop-place-preserved
loop-place-preserved g m c = λ said h t is.
    let none : Entry = record { at = record { number = 0 }; cover = record { x1 = pos 0; y1 = pos 0; x2 = pos 0; y2 = pos 0 } } in
    let child = keyed_child (g.K.Keys.meaning c.args.keys.now) said (g.C.Cells.image c.args.cells.now) c.args.at c.args.level h t is c.if-level-eq0.false c.as_slice-entries.result.now (c.as_slice-entries.ensures.value ∙ c.entries_at-below.ensures said h t is) c.loop-place.place none c.loop-place-test.true in
    let rest = found_in said c.args.rect.now c.args.inside (flat_map (versions h) (drop (c.loop-place.place + 1) t.below)) in
    let parts = ap (found_in said c.args.rect.now c.args.inside) child.part ∙ found_both said c.args.rect.now c.args.inside (versions (suc child.height) child.child) (flat_map (versions h) (drop (c.loop-place.place + 1) t.below)) in
    elim c.if-overlaps.branch [
      | then-overlaps+in_ok-gather_boxes w ↦
          gather_step c.loop-place.refs c.if-overlaps.refs (found_in said c.args.rect.now c.args.inside (versions (suc child.height) child.child)) (found_in said c.args.rect.now c.args.inside (flat_map (versions h) (drop (c.loop-place.place + 1) t.below))) (c.args.refs.now ++ found_in said c.args.rect.now c.args.inside (versions (suc h) t))
          (w.refs-is ∙ w.in_ok-gather_boxes.ensures said child.height child.child child.is)
          (ap (λ (rs : List CellRef). c.loop-place.refs ++ rs) (sym parts) ∙ c.loop-place.invariant said h t is)
      | else-overlaps w ↦
          let nothing = none_found said c.args.rect.now c.args.inside child.child.cover (versions (suc child.height) child.child) (versions_lie said (suc child.height) least_entries child.child child.shape)
          (ap (λ (b : Rect). overlaps b c.args.rect.now) (sym child.cover_is) ∙ sym c.overlaps.ensures ∙ w.if-overlaps.false) in
          gather_step c.loop-place.refs c.if-overlaps.refs [] (found_in said c.args.rect.now c.args.inside (flat_map (versions h) (drop (c.loop-place.place + 1) t.below))) (c.args.refs.now ++ found_in said c.args.rect.now c.args.inside (versions (suc h) t))
          (w.refs-is ∙ sym (append-nil c.loop-place.refs))
          (ap (λ (rs : List CellRef). c.loop-place.refs ++ rs) (sym (parts ∙ ap (λ (rs : List CellRef). rs ++ found_in said c.args.rect.now c.args.inside (flat_map (versions h) (drop (c.loop-place.place + 1) t.below))) nothing)) ∙ c.loop-place.invariant said h t is)
    ]

pub returns : goal.returns
returns g m c = λ said h t is.
    let many = ap (length {A = Entry}) (c.as_slice-entries.ensures.value ∙ c.entries_at-below.ensures said h t is) ∙ length-map t.below (entry_of said h) in
    let past = c.loop-place-test.false in
    gather_end (λ (ts : List (RTree h)). found_in said c.args.rect.now c.args.inside (flat_map (versions h) ts)) t.below c.loop-place.place c.loop-place.refs (c.args.refs.now ++ found_in said c.args.rect.now c.args.inside (versions (suc h) t)) refl (omega arith) (c.loop-place.invariant said h t is)
