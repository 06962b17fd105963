use Rattle.std.proofs.Common.{◌≡◌, ◌<◌, ◌+◌, ◌-◌, ◌*◌, ℕ, suc, List, length, drop, refl, sym, ap, subst, ◌∙◌, arith}
use Rattle.std.specs.List.{remove}
use Rattle.std.specs.Prelude.{pos}
use Rattle.rdb_cells.specs.Keys.{Sayings}
use Rattle.rdb_cells.specs.Work.{Work, work, reading}
use Rattle.rdb_rtree.specs.Changes.{HasPlaces, versions_below, AreOthers, AreElsewhere, IsWithout, IsShrinking, HasShrunk}
use Rattle.rdb_rtree.specs.Trees.{Node, RTree, versions}
use Rattle.rdb_rtree.specs.declared.entry.Entry.{Entry}
use Rattle.rdb_rtree.proofs.ChosenLemmas.{as_many}
use Rattle.rdb_rtree.proofs.SearchLemmas.{some_also, none_also, leaf_others, outside_node, step_others, end_others, losing_child, losing_mends, losing_room, losing_shrunk}
use Rattle.rdb_rtree.proofs.ShrinkLemmas.{shrunk_leaf}
use Rattle.rdb_rtree.proofs.remove.+without_entry.Goals as goal

pub returns-then-not-lies_in-clause-none : goal.returns-then-not-lies_in-clause-none
returns-then-not-lies_in-clause-none g m c = λ said h t is.
    (outside_node (g.K.Keys.meaning c.args.keys.now) said (reading (work g.C.Cells c.args.cells.now)) c.args.node c.args.level c.args.lost h t is (sym c.lies_in.ensures ∙ c.if-not-lies_in.true), refl)

pub entries_at-entries-requires : goal.entries_at-entries-requires
entries_at-entries-requires g m c = (c.requires.tree.0, c.requires.tree.1, c.requires.tree.2, c.requires.tree.3.keyed)

pub returns-then-level-eq0-clause-found : goal.returns-then-level-eq0-clause-found
returns-then-level-eq0-clause-found g m c =
    some_also c.without.result (λ left. IsWithout c.entries_at-entries.result.items c.args.lost.at left.items)
    (λ left. (said : Sayings) (h : ℕ) (t : Node (RTree h)) → IsShrinking (g.K.Keys.meaning c.args.keys.now) said (reading (work g.C.Cells c.args.cells.now)) c.args.node c.args.level c.args.lost h t → HasShrunk said (work g.C.Cells c.args.cells.now) (work g.C.Cells c.args.cells.now) c.args.lost.at h t.below left.items)
    (λ left gone said h t is. shrunk_leaf (g.K.Keys.meaning c.args.keys.now) said (work g.C.Cells c.args.cells.now) c.args.node c.args.level c.args.lost h t is c.if-level-eq0.true c.entries_at-entries.result.items left.items (c.entries_at-entries.ensures said h t is.keyed) gone)
    c.without.ensures.found

pub returns-then-level-eq0-clause-none : goal.returns-then-level-eq0-clause-none
returns-then-level-eq0-clause-none g m c =
    none_also c.without.result (AreElsewhere c.args.lost.at c.entries_at-entries.result.items)
    ((said : Sayings) (h : ℕ) (t : Node (RTree h)) → IsShrinking (g.K.Keys.meaning c.args.keys.now) said (reading (work g.C.Cells c.args.cells.now)) c.args.node c.args.level c.args.lost h t → AreOthers c.args.lost.at (versions_below h t.below) × (work g.C.Cells c.args.cells.now ≡ work g.C.Cells c.args.cells.now))
    (λ out said h t is. (leaf_others said c.args.lost.at h t.below (sym is.keyed.tree.level_is ∙ c.if-level-eq0.true) (subst (AreElsewhere c.args.lost.at) (c.entries_at-entries.ensures said h t is.keyed) out), refl))
    c.without.ensures.none

pub without_entry-requires : goal.without_entry-requires
without_entry-requires g m c κs within =
    let none : Entry = record { at = record { number = 0 }; cover = record { x1 = pos 0; y1 = pos 0; x2 = pos 0; y2 = pos 0 } } in
    let low : c.loop-place.place < length c.as_slice.result.now = (let end = c.len-place-end.ensures.value in let many = ap (length {A = Entry}) c.as_slice.ensures.value in let test = c.loop-place-test.true in omega arith) in
    let inner = c.if-level-eq0.false in
    let falls = c.decreases in
    let room = c.requires.places in
    let is = subst (λ (v : Work). IsShrinking (g.K.Keys.meaning c.args.keys.now) c.requires.tree.0 (reading v) c.args.node c.args.level c.args.lost c.requires.tree.1 c.requires.tree.2) (sym c.loop-place.invariant.0) c.requires.tree.3 in
    let child = losing_child (g.K.Keys.meaning c.args.keys.now) c.requires.tree.0 (work g.C.Cells c.loop-place.cells) c.args.node c.args.level c.args.lost c.if-level-eq0.false c.as_slice.result.now c.loop-place.place none low c.requires.tree.1 c.requires.tree.2 is (c.as_slice.ensures.value ∙ c.entries_at-entries.ensures c.requires.tree.0 c.requires.tree.1 c.requires.tree.2 c.requires.tree.3.keyed) in
    (omega arith, (within.0, (within.1, ((c.requires.tree.0, child.height, child.child, child.is), subst (λ (v : Work). HasPlaces v (2 * (c.args.level - 1))) (sym c.loop-place.invariant.0) (omega arith)))))

pub loop-place-preserved : goal.loop-place-preserved
loop-place-preserved g m c =
    let none : Entry = record { at = record { number = 0 }; cover = record { x1 = pos 0; y1 = pos 0; x2 = pos 0; y2 = pos 0 } } in
    let low : c.loop-place.place < length c.as_slice.result.now = (let end = c.len-place-end.ensures.value in let many = ap (length {A = Entry}) c.as_slice.ensures.value in let test = c.loop-place-test.true in omega arith) in
    let one = losing_child (g.K.Keys.meaning c.args.keys.now) c.requires.tree.0 (work g.C.Cells c.loop-place.cells) c.args.node c.args.level c.args.lost c.if-level-eq0.false c.as_slice.result.now c.loop-place.place none low c.requires.tree.1 c.requires.tree.2 (subst (λ (v : Work). IsShrinking (g.K.Keys.meaning c.args.keys.now) c.requires.tree.0 (reading v) c.args.node c.args.level c.args.lost c.requires.tree.1 c.requires.tree.2) (sym c.loop-place.invariant.0) c.requires.tree.3) (c.as_slice.ensures.value ∙ c.entries_at-entries.ensures c.requires.tree.0 c.requires.tree.1 c.requires.tree.2 c.requires.tree.3.keyed) in (
      (c.in_default.ensures.none c.requires.tree.0 one.height one.child one.is).1 ∙ c.loop-place.invariant.0,
      λ said h t is rest.
          let child = losing_child (g.K.Keys.meaning c.args.keys.now) said (work g.C.Cells c.loop-place.cells) c.args.node c.args.level c.args.lost c.if-level-eq0.false c.as_slice.result.now c.loop-place.place none low h t (subst (λ (v : Work). IsShrinking (g.K.Keys.meaning c.args.keys.now) said (reading v) c.args.node c.args.level c.args.lost h t) (sym c.loop-place.invariant.0) is) (c.as_slice.ensures.value ∙ c.entries_at-entries.ensures said h t is.keyed) in
          c.loop-place.invariant.1 said h t is
          (step_others c.args.lost.at (versions_below h (drop c.loop-place.place t.below)) (versions (suc child.height) child.child) (versions_below h (drop (c.loop-place.place + 1) t.below)) child.part
          (c.in_default.ensures.none said child.height child.child child.is).0 rest),
      c.without_entry.ensures.below.0 ∙ c.loop-place.invariant.2,
      c.without_entry.ensures.below.1 ∙ c.loop-place.invariant.3,
    )

pub mend-requires-clause-mends : goal.mend-requires-clause-mends
mend-requires-clause-mends g m c =
    let none : Entry = record { at = record { number = 0 }; cover = record { x1 = pos 0; y1 = pos 0; x2 = pos 0; y2 = pos 0 } } in
    let low : c.loop-place.place < length c.as_slice.result.now = (let end = c.len-place-end.ensures.value in let many = ap (length {A = Entry}) c.as_slice.ensures.value in let test = c.loop-place-test.true in omega arith) in
    let mends = losing_mends (g.K.Keys.meaning c.args.keys.now) c.requires.tree.0 (work g.C.Cells c.loop-place.cells) c.args.node c.args.level c.args.lost c.if-level-eq0.false c.as_slice.result.now c.loop-place.place none low (work g.C.Cells c.without_entry.new.cells) c.in-Some.left.items c.remove-child.new.self.items (c.remove-child.ensures.items ∙ ap (λ (es : List Entry). remove es c.loop-place.place) (sym c.as_slice.ensures.value)) (c.in-Some.ensures.found c.requires.tree.0) (g.met.K.Keys.rests_on_versions c.args.keys.now) c.requires.tree.1 c.requires.tree.2 (subst (λ (v : Work). IsShrinking (g.K.Keys.meaning c.args.keys.now) c.requires.tree.0 (reading v) c.args.node c.args.level c.args.lost c.requires.tree.1 c.requires.tree.2) (sym c.loop-place.invariant.0) c.requires.tree.3) (c.as_slice.ensures.value ∙ c.entries_at-entries.ensures c.requires.tree.0 c.requires.tree.1 c.requires.tree.2 c.requires.tree.3.keyed) in
    (c.requires.tree.0, mends.0, mends.1, mends.2, mends.3)

pub mend-requires-clause-places : goal.mend-requires-clause-places
mend-requires-clause-places g m c =
    let none : Entry = record { at = record { number = 0 }; cover = record { x1 = pos 0; y1 = pos 0; x2 = pos 0; y2 = pos 0 } } in
    let low : c.loop-place.place < length c.as_slice.result.now = (let end = c.len-place-end.ensures.value in let many = ap (length {A = Entry}) c.as_slice.ensures.value in let test = c.loop-place-test.true in omega arith) in
    losing_room (g.K.Keys.meaning c.args.keys.now) c.requires.tree.0 (work g.C.Cells c.loop-place.cells) c.args.node c.args.level c.args.lost c.if-level-eq0.false c.as_slice.result.now c.loop-place.place none low (work g.C.Cells c.without_entry.new.cells) c.in-Some.left.items c.remove-child.new.self.items (c.remove-child.ensures.items ∙ ap (λ (es : List Entry). remove es c.loop-place.place) (sym c.as_slice.ensures.value)) (c.in-Some.ensures.found c.requires.tree.0) c.requires.tree.1 c.requires.tree.2 (subst (λ (v : Work). IsShrinking (g.K.Keys.meaning c.args.keys.now) c.requires.tree.0 (reading v) c.args.node c.args.level c.args.lost c.requires.tree.1 c.requires.tree.2) (sym c.loop-place.invariant.0) c.requires.tree.3) (c.as_slice.ensures.value ∙ c.entries_at-entries.ensures c.requires.tree.0 c.requires.tree.1 c.requires.tree.2 c.requires.tree.3.keyed)
    (subst (λ (v : Work). HasPlaces v (2 * c.args.level)) (sym c.loop-place.invariant.0) c.requires.places)

pub returns-in-Some-clause-found : goal.returns-in-Some-clause-found
returns-in-Some-clause-found g m c = λ said h t is.
    let none : Entry = record { at = record { number = 0 }; cover = record { x1 = pos 0; y1 = pos 0; x2 = pos 0; y2 = pos 0 } } in
    let low : c.loop-place.place < length c.as_slice.result.now = (let end = c.len-place-end.ensures.value in let many = ap (length {A = Entry}) c.as_slice.ensures.value in let test = c.loop-place-test.true in omega arith) in
    subst (λ (v : Work). HasShrunk said v (work g.C.Cells c.mend.new.cells) c.args.lost.at h t.below c.mend.new.above.items) c.loop-place.invariant.0
    (losing_shrunk (g.K.Keys.meaning c.args.keys.now) said (work g.C.Cells c.loop-place.cells) c.args.node c.args.level c.args.lost c.if-level-eq0.false c.as_slice.result.now c.loop-place.place none low (work g.C.Cells c.without_entry.new.cells) c.in-Some.left.items c.remove-child.new.self.items (c.remove-child.ensures.items ∙ ap (λ (es : List Entry). remove es c.loop-place.place) (sym c.as_slice.ensures.value)) (c.in-Some.ensures.found said) (g.met.K.Keys.rests_on_versions c.args.keys.now) (work g.C.Cells c.mend.new.cells) c.mend.new.above.items (c.mend.ensures.mended said) h t (subst (λ (v : Work). IsShrinking (g.K.Keys.meaning c.args.keys.now) said (reading v) c.args.node c.args.level c.args.lost h t) (sym c.loop-place.invariant.0) is) (c.as_slice.ensures.value ∙ c.entries_at-entries.ensures said h t is.keyed))

pub returns-clause-none : goal.returns-clause-none
returns-clause-none g m c = λ said h t is.
    let many = as_many (g.K.Keys.meaning c.args.keys.now) said (reading (work g.C.Cells c.args.cells.now)) c.args.node.at c.args.level h t is.keyed c.entries_at-entries.result.items (c.entries_at-entries.ensures said h t is.keyed) in
    let past = c.loop-place-test.false in
    let end = c.len-place-end.ensures.value in
    (c.loop-place.invariant.1 said h t is (end_others c.args.lost.at h t.below c.loop-place.place (omega arith)), c.loop-place.invariant.0)
