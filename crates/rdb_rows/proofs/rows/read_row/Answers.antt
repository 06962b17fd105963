use Rattle.std.proofs.Common.{◌≡◌, ℕ, [], subst, arith, rules}
use Rattle.rdb_rows.proofs.Chains.{IsRead, chain_once, nothing_read, all_read, read_next, read_more}
use Rattle.rdb_rows.proofs.Puttings.{a_cell}
use Rattle.rdb_rows.proofs.rows.read_row.Goals as goal

pub loop-left-init : goal.loop-left-init
loop-left-init g c bytes cells long holds =
    let none : c.new-bytes.result ≡ [] = search rules in
    rw none (subst (λ (left : ℕ). IsRead holds.chain bytes [] c.args.first.number left) long (nothing_read (g.C.Cells.image c.args.cells.now) c.args.first.number bytes cells holds))

pub read-requires : goal.read-requires
read-requires g c =
    let image = g.C.Cells.image c.args.cells.now in
    let row = c.requires in
    let there = read_next image row.holds.chain row.bytes c.loop-left.bytes c.loop-left.at.number c.loop-left.left row.holds.chained.nodes.stand
    (chain_once image c.args.first.number row.bytes row.cells row.holds) (c.loop-left.invariant row.bytes row.cells row.long row.holds) c.loop-left-test.true in
    a_cell _ _ there.held

pub loop-left-preserved : goal.loop-left-preserved
loop-left-preserved g c bytes cells long holds =
    let image = g.C.Cells.image c.args.cells.now in
    let more = read_more image holds.chain bytes c.loop-left.bytes c.loop-left.at.number c.loop-left.left holds.chained.nodes.stand
    (chain_once image c.args.first.number bytes cells holds) (c.loop-left.invariant bytes cells long holds) c.loop-left-test.true
    c.read.result.now c.of_cell-part.result c.read.ensures c.of_cell-part.ensures.value in
    rw (c.in_ok-extend_from_slice.ensures.ok, c.min-taken.ensures) more

pub returns : goal.returns
returns g c bytes cells long holds =
    all_read holds.chain bytes c.loop-left.bytes c.loop-left.at.number c.loop-left.left (c.loop-left.invariant bytes cells long holds) (let none = c.loop-left-test.false in omega arith)
