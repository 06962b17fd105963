use Rattle.std.proofs.Common.{◌≡◌, ◌≢◌, ap, rules}
use Rattle.rdb_pages.specs.declared.cell.CellRef.{CellRef}
use Rattle.rdb_cells.specs.Words.{no_ref}
use Rattle.rdb_store.proofs.UnseenChains.{some_number, walk_begins, walk_there, walk_on, ends_at_none, ends_at_most}
use Rattle.rdb_store.proofs.garbage.first_in_chain.Goals as goal

pub loop-init : goal.loop-init
loop-init g c chain begins = walk_begins (g.C.Cells.image c.args.cells.now) c.args.object.newest c.args.floor chain c.args.object.id begins

pub returns-then-eq : goal.returns-then-eq
returns-then-eq g c chain begins =
    let none : c.loop.at ≡ no_ref = search rules in
    ends_at_none (g.C.Cells.image c.args.cells.now) c.args.object.newest c.args.floor chain c.args.object.id begins c.loop.counter c.loop.at c.loop.newer c.loop.first
    (c.loop.invariant chain begins) (ap (λ (r : CellRef). r.number) none)

pub unseen_commit-commit-requires : goal.unseen_commit-commit-requires
unseen_commit-commit-requires g c =
    let some : c.loop.at ≢ no_ref = search rules in
    walk_there (g.C.Cells.image c.args.cells.now) c.args.object.newest c.args.floor c.requires.0 c.args.object.id c.requires.1 c.loop.counter c.loop.at c.loop.newer c.loop.first
    (c.loop.invariant c.requires.0 c.requires.1) (some_number c.loop.at some)

pub stamp_in-requires : goal.stamp_in-requires
stamp_in-requires g c =
    let some : c.loop.at ≢ no_ref = search rules in
    walk_there (g.C.Cells.image c.args.cells.now) c.args.object.newest c.args.floor c.requires.0 c.args.object.id c.requires.1 c.loop.counter c.loop.at c.loop.newer c.loop.first
    (c.loop.invariant c.requires.0 c.requires.1) (some_number c.loop.at some)

pub older_in-at-requires : goal.older_in-at-requires
older_in-at-requires g c =
    let some : c.loop.at ≢ no_ref = search rules in
    walk_there (g.C.Cells.image c.args.cells.now) c.args.object.newest c.args.floor c.requires.0 c.args.object.id c.requires.1 c.loop.counter c.loop.at c.loop.newer c.loop.first
    (c.loop.invariant c.requires.0 c.requires.1) (some_number c.loop.at some)

pub loop-preserved : goal.loop-preserved
loop-preserved g c chain begins =
    let some : c.loop.at ≢ no_ref = search rules in
    rw c.earlier-first.ensures
    (walk_on (g.C.Cells.image c.args.cells.now) c.args.object.newest c.args.floor chain c.args.object.id begins c.loop.counter c.loop.at c.loop.newer c.loop.first
    (c.loop.invariant chain begins) (some_number c.loop.at some) c.unseen_commit-commit.result c.stamp_in.result c.least-newer.result c.older_in-at.result
    c.unseen_commit-commit.ensures c.stamp_in.ensures c.least-newer.ensures c.older_in-at.ensures)

pub returns : goal.returns
returns g c chain begins =
    ends_at_most (g.C.Cells.image c.args.cells.now) c.args.object.newest c.args.floor chain c.args.object.id begins c.loop.counter c.loop.at c.loop.newer c.loop.first
    (c.loop.invariant chain begins) (g.C.Cells.class_of c.args.cells.now) c.bounded.ensures c.loop-test.false
