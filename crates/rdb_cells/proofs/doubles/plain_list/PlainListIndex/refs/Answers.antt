use Rattle.std.proofs.Common.{◌≡◌, ◌≢◌, refl, subst, arith, rules}
use Rattle.rdb_cells.specs.PlainList.{LeadsTo}
use Rattle.rdb_cells.proofs.PlainLemmas.{leads_there, listed_there, listed_more, listed_at_none, listed_at_end}
use Rattle.rdb_cells.proofs.doubles.plain_list.PlainListIndex.refs.Goals as goal

pub returns-then-eq : goal.returns-then-eq
returns-then-eq g c =
    let list = c.requires.3 in
    let first = leads_there (g.C.Cells.image c.args.cells.now) c.args.self.now.head.number list.first c.root_in-at.result c.read.result.now list.leads c.read.ensures c.root_in-at.ensures in
    let leads = subst (LeadsTo (g.C.Cells.image c.args.cells.now) c.args.self.now.head.number) first list.leads in
    let none : c.loop.at.number ≡ 0 = search rules in
    listed_at_none (g.C.Cells.image c.args.cells.now) c.root_in-at.result.number c.loop.refs c.loop.counter c.loop.at.number c.loop.invariant c.args.self.now.class c.args.self.now.head.number c.root_in-at.result refl leads none

pub read-requires-in-loop : goal.read-requires-in-loop
read-requires-in-loop g c =
    let some : c.loop.at.number ≢ 0 = search rules in
    listed_there (g.C.Cells.image c.args.cells.now) c.root_in-at.result.number c.loop.refs c.loop.counter c.loop.at.number c.loop.invariant some

pub loop-preserved : goal.loop-preserved
loop-preserved g c =
    let some : c.loop.at.number ≢ 0 = search rules in
    rw (c.in_ok-push.ensures.ok, c.of_cell-entry.ensures.value)
    (listed_more (g.C.Cells.image c.args.cells.now) c.root_in-at.result.number c.loop.refs c.loop.counter c.loop.at.number c.loop.invariant some c.read-in-loop.result.now c.read-in-loop.ensures)

pub returns : goal.returns
returns g c =
    let list = c.requires.3 in
    let first = leads_there (g.C.Cells.image c.args.cells.now) c.args.self.now.head.number list.first c.root_in-at.result c.read.result.now list.leads c.read.ensures c.root_in-at.ensures in
    let leads = subst (LeadsTo (g.C.Cells.image c.args.cells.now) c.args.self.now.head.number) first list.leads in
    let most = c.loop.auto.counter-end in
    let least = c.loop-test.false in
    listed_at_end (g.C.Cells.image c.args.cells.now) c.root_in-at.result.number c.loop.refs c.loop.counter c.loop.at.number c.loop.invariant c.args.self.now.class c.args.self.now.head.number c.root_in-at.result refl leads (omega arith)
