use Rattle.std.proofs.Common.{◌≡◌, List, length, true, ap, sym, subst, ◌∙◌, arith}
use Rattle.rdb_cells.specs.declared.pairs.Pair.{Pair}
use Rattle.rdb_cells.specs.Overlays.{AreCells}
use Rattle.rdb_cells.specs.Places.{AreDifferent, Numbers}
use Rattle.rdb_cells.specs.Records.{Record, names, numbers_of}
use Rattle.rdb_cells.proofs.ChangeLemmas.{named_reverse, once_reverse, changes_once, changes_shorter}
use Rattle.rdb_cells.proofs.pairs.Pairs.reverse_changes.Goals as goal

pub keep_changes-requires : goal.keep_changes-requires
keep_changes-requires g c =
    let s = c.self.inside in
    let are = subst (λ (r : Record). AreCells (g.C.Cells.image c.args.cells.now) r.pairs) (sym c.self.view_is) c.requires in
    λ n named. are n (named_reverse s.pairs.items n (subst (λ (qs : List Pair). names qs n ≡ true) c.reverse.ensures.items named))

pub place_all-requires-clause-room : goal.place_all-requires-clause-room
place_all-requires-clause-room g c =
    let image = g.C.Cells.image c.args.cells.now in
    let shorter = changes_shorter image c.reverse.new.self.items c.keep_changes.new.pairs.items c.keep_changes.ensures.changes in
    let lent = ap (λ (qs : List Pair). length qs) c.deref.ensures.value in
    let len = c.reverse.ensures.len in
    let within = c.self.invariant.1 in
    let room = ap (λ (p : Numbers). p.room) c.clear.ensures in
    omega arith

pub place_all-requires-clause-differ : goal.place_all-requires-clause-differ
place_all-requires-clause-differ g c =
    let s = c.self.inside in
    let image = g.C.Cells.image c.args.cells.now in
    let once = subst (λ (qs : List Pair). AreDifferent (numbers_of qs)) (sym c.reverse.ensures.items) (once_reverse s.pairs.items (subst AreDifferent c.self.invariant.0 c.differ.ensures)) in
    subst (λ (qs : List Pair). AreDifferent (numbers_of qs)) (sym c.deref.ensures.value) (changes_once image c.reverse.new.self.items c.keep_changes.new.pairs.items once c.keep_changes.ensures.changes)

pub invariant_of-self : goal.invariant_of-self
invariant_of-self g c =
    let image = g.C.Cells.image c.args.cells.now in
    let shorter = changes_shorter image c.reverse.new.self.items c.keep_changes.new.pairs.items c.keep_changes.ensures.changes in
    let len = c.reverse.ensures.len in
    let within = c.self.invariant.1 in
    let wide = c.self.invariant.2 in
    let room = ap (λ (p : Numbers). p.room) c.clear.ensures in
    let placed = ap (λ (p : Numbers). p.room) c.place_all.ensures in
    let kept = c.keep_changes.ensures.capacity in
    let turned = c.reverse.ensures.capacity in
    (ap (λ (p : Numbers). p.numbers) c.place_all.ensures ∙ ap numbers_of c.deref.ensures.value, omega arith, omega arith)
