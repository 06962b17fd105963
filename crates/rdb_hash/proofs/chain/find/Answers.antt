use Rattle.std.proofs.Common.{◌≡◌, ◌≢◌, sym, ap, ◌∙◌, refl, arith, rules}
use Rattle.rdb_hash.proofs.WalkLemmas.{sought_first, sought_there, sought_found, sought_more, sought_never}
use Rattle.rdb_hash.proofs.chain.find.Goals as goal

pub loop-init : goal.loop-init
loop-init g c = sought_first (g.C.Cells.image c.args.cells.now) c.args.first.number c.args.version c.requires

pub read-requires : goal.read-requires
read-requires g c = sought_there (g.C.Cells.image c.args.cells.now) c.args.first.number c.args.version c.loop.before.number c.loop.counter c.loop.at.number c.loop.invariant

pub returns-then-eq : goal.returns-then-eq
returns-then-eq g c =
    let same : c.of_cell-entry.result.version ≡ c.args.version = search rules in
    sought_found (g.C.Cells.image c.args.cells.now) c.args.first.number c.args.version c.loop.before.number c.loop.counter c.loop.at.number c.loop.invariant c.read.result.now c.read.ensures
    (ap (λ e. e.version) (sym c.of_cell-entry.ensures.value) ∙ same) (record { before = c.loop.before; at = c.loop.at; next = c.of_cell-entry.result.next }) refl refl (ap (λ e. e.next) c.of_cell-entry.ensures.value)

pub loop-preserved : goal.loop-preserved
loop-preserved g c =
    let other : c.of_cell-entry.result.version ≢ c.args.version = search rules in
    rw c.of_cell-entry.ensures.value
    (sought_more (g.C.Cells.image c.args.cells.now) c.args.first.number c.args.version c.loop.before.number c.loop.counter c.loop.at.number c.loop.invariant c.read.result.now c.read.ensures
    (λ same. other (ap (λ e. e.version) c.of_cell-entry.ensures.value ∙ same)))

pub unreachable-requires : goal.unreachable-requires
unreachable-requires g c =
    let most = c.loop.auto.counter-end in
    let least = c.loop-test.false in
    sought_never (g.C.Cells.image c.args.cells.now) c.args.first.number c.args.version c.loop.before.number c.loop.counter c.loop.at.number c.loop.invariant (omega arith)
