use Rattle.std.proofs.Common.{◌≡◌, ◌≢◌, ◌∷◌, sym, ap, ◌∙◌, refl, arith, rules}
use Rattle.rdb_patricia.proofs.FindLemmas.{sought_first, sought_there, sought_found, sought_more, sought_never}
use Rattle.rdb_patricia.proofs.walk.find.Goals as goal

pub loop-init : goal.loop-init
loop-init g c = sought_first (g.C.Cells.image c.args.cells.now) c.args.first.number c.args.version

pub read-requires : goal.read-requires
read-requires g c =
    let r = c.requires in
    sought_there (g.C.Cells.image c.args.cells.now) (r.0 ∷ r.1) c.args.version c.loop.counter c.loop.before.number c.loop.at.number (c.loop.invariant r.0 r.1 r.2 r.3)

pub returns-then-eq : goal.returns-then-eq
returns-then-eq g c = λ p ps part within.
    let same : c.of_cell-entry.result.version ≡ c.args.version = search rules in
    sought_found (g.C.Cells.image c.args.cells.now) (p ∷ ps) c.args.version c.loop.counter c.loop.before.number c.loop.at.number (c.loop.invariant p ps part within) c.read.result.now c.read.ensures
    (ap (λ e. e.version) (sym c.of_cell-entry.ensures.value) ∙ same) (record { before = c.loop.before; at = c.loop.at; next = c.of_cell-entry.result.next }) refl refl (ap (λ e. e.next) c.of_cell-entry.ensures.value)

pub loop-preserved : goal.loop-preserved
loop-preserved g c = λ p ps part within.
    let other : c.of_cell-entry.result.version ≢ c.args.version = search rules in
    rw c.of_cell-entry.ensures.value
    (sought_more (g.C.Cells.image c.args.cells.now) (p ∷ ps) c.args.version c.loop.counter c.loop.before.number c.loop.at.number (c.loop.invariant p ps part within) c.read.result.now c.read.ensures
    (λ same. other (ap (λ e. e.version) c.of_cell-entry.ensures.value ∙ same)))

pub unreachable-requires : goal.unreachable-requires
unreachable-requires g c =
    let least = c.loop-test.false in
    let r = c.requires in
    sought_never (g.C.Cells.image c.args.cells.now) c.args.first.number c.args.version r.0 r.1 r.2 c.loop.counter c.loop.before.number c.loop.at.number (c.loop.invariant r.0 r.1 r.2 r.3) (omega arith)
