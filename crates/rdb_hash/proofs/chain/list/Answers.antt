use Rattle.std.proofs.Common.{◌≡◌, ◌≢◌, arith, rules}
use Rattle.rdb_hash.proofs.WalkLemmas.{listed_first, listed_there, listed_more, listed_at_none, listed_at_end}
use Rattle.rdb_hash.proofs.chain.list.Goals as goal

pub loop-init : goal.loop-init
loop-init g c = listed_first (g.C.Cells.image c.args.cells.now) c.args.first.number c.args.refs.now c.requires

pub returns-then-eq : goal.returns-then-eq
returns-then-eq g c =
    let none : c.loop.at.number ≡ 0 = search rules in
    listed_at_none (g.C.Cells.image c.args.cells.now) c.args.first.number c.args.refs.now c.loop.refs c.loop.counter c.loop.at.number c.loop.invariant none

pub read-requires : goal.read-requires
read-requires g c =
    let some : c.loop.at.number ≢ 0 = search rules in
    listed_there (g.C.Cells.image c.args.cells.now) c.args.first.number c.args.refs.now c.loop.refs c.loop.counter c.loop.at.number c.loop.invariant some

pub loop-preserved : goal.loop-preserved
loop-preserved g c =
    let some : c.loop.at.number ≢ 0 = search rules in
    rw (c.in_ok-push.ensures.ok, c.of_cell-entry.ensures.value)
    (listed_more (g.C.Cells.image c.args.cells.now) c.args.first.number c.args.refs.now c.loop.refs c.loop.counter c.loop.at.number c.loop.invariant some c.read.result.now c.read.ensures)

pub returns : goal.returns
returns g c =
    let most = c.loop.auto.counter-end in
    let least = c.loop-test.false in
    listed_at_end (g.C.Cells.image c.args.cells.now) c.args.first.number c.args.refs.now c.loop.refs c.loop.counter c.loop.at.number c.loop.invariant (omega arith)
