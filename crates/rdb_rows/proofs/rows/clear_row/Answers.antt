use Rattle.std.proofs.Common.{◌≡◌, ◌<◌, ◌+◌, ℕ, length, refl, sym, ap, subst, ◌∙◌, arith}
use Rattle.rdb_pages.specs.Pages.{zero_cell}
use Rattle.rdb_cells.specs.Work.{Work, work, reading, TakesNone}
use Rattle.rdb_cells.proofs.WorkLemmas.{put_work, put_is, put_takes_none, none_then, put_longer}
use Rattle.rdb_rows.specs.Rows.{cells_for}
use Rattle.rdb_rows.proofs.Chains.{IsCleared, chain_length, chain_once, nothing_cleared, row_cleared, clear_reads, clear_spent, clear_more}
use Rattle.rdb_rows.proofs.Puttings.{a_cell}
use Rattle.rdb_rows.proofs.rows.clear_row.Goals as goal

pub loop-init : goal.loop-init
loop-init g c = record {
  cleared = λ bytes cells long holds. nothing_cleared (work g.C.Cells c.args.cells.now) c.args.first.number bytes cells holds;
  none = λ n. (λ left. left, λ left. left);
  places = omega arith;
  room = refl;
  below = refl;
  class = refl;
}

pub planned-requires : goal.planned-requires
planned-requires g c =
    let w0 = work g.C.Cells c.args.cells.now in
    let w = work g.C.Cells c.loop.cells in
    let row = c.requires.row in
    let chain = row.holds.chain in
    let long = chain_length (reading w0) c.args.first.number row.bytes row.cells row.holds in
    let many : cells_for (length row.bytes) ≡ cells_for c.args.many = ap cells_for row.long in
    let before : c.loop.counter < c.cells_for-end.result = c.loop-test.true in
    let count = c.cells_for-end.ensures in
    let more : c.loop.counter < length chain = omega arith in
    a_cell _ _ (clear_reads w0 w chain c.loop.counter c.loop.at.number (ap g.C.Cells.image c.loop.invariant.below) row.holds.chained.nodes.stand
    (chain_once (reading w0) c.args.first.number row.bytes row.cells row.holds) (c.loop.invariant.cleared row.bytes row.cells row.long row.holds) more)

pub loop-preserved : goal.loop-preserved
loop-preserved g c =
    let w0 = work g.C.Cells c.args.cells.now in
    let w = work g.C.Cells c.loop.cells in
    let row = c.requires.row in
    let before : c.loop.counter < c.cells_for-end.result = c.loop-test.true in
    let count = c.cells_for-end.ensures in
    let below = ap g.C.Cells.image c.loop.invariant.below in
    let put : work g.C.Cells c.put.new.self ≡ put_work w c.loop.at zero_cell = put_is g.C.Cells c.loop.cells c.put.new.self w c.loop.at zero_cell refl c.put.ensures.plan in
    let long_row = chain_length (reading w0) c.args.first.number row.bytes row.cells row.holds in
    let many_row : cells_for (length row.bytes) ≡ cells_for c.args.many = ap cells_for row.long in
    let more_row : c.loop.counter < length row.holds.chain = omega arith in
    let spent = clear_spent w0 w row.holds.chain c.loop.counter c.loop.at.number below row.holds.chained.nodes.stand
    (chain_once (reading w0) c.args.first.number row.bytes row.cells row.holds) (c.loop.invariant.cleared row.bytes row.cells row.long row.holds) more_row in
    let longer = put_longer w.pairs (record { at = c.loop.at; cell = zero_cell }) in
    let places = c.loop.invariant.places in
    let now : length c.put.new.self.plan.pairs ≡ length (put_work w c.loop.at zero_cell).pairs = ap (λ (v : Work). length v.pairs) put in
    record {
      cleared = λ bytes cells long holds.
          let chain_long = chain_length (reading w0) c.args.first.number bytes cells holds in
          let many : cells_for (length bytes) ≡ cells_for c.args.many = ap cells_for long in
          let more : c.loop.counter < length holds.chain = omega arith in
          subst (λ (v : Work). IsCleared w0 v holds.chain (c.loop.counter + 1) c.next_in-next.result.number) (sym put)
          (clear_more w0 w holds.chain c.loop.counter c.loop.at.number below holds.chained.nodes.stand
          (chain_once (reading w0) c.args.first.number bytes cells holds) (c.loop.invariant.cleared bytes cells long holds) more
          c.loop.at c.planned.result.now c.next_in-next.result.number refl c.planned.ensures.planned (ap (λ r. r.number) c.next_in-next.ensures));
      none = none_then w0 w (work g.C.Cells c.put.new.self) c.loop.invariant.none
          (subst (TakesNone w) (sym put) (put_takes_none w c.loop.at zero_cell spent));
      places = omega arith;
      room = ap (λ o. o.plan.room) c.put.ensures.plan ∙ c.loop.invariant.room;
      below = ap (λ o. o.cells) c.put.ensures.plan ∙ c.loop.invariant.below;
      class = ap (λ o. o.class) c.put.ensures.plan ∙ c.loop.invariant.class;
    }

pub returns-clause-clears : goal.returns-clause-clears
returns-clause-clears g c bytes cells long holds =
    let w0 = work g.C.Cells c.args.cells.now in
    let w = work g.C.Cells c.loop.cells in
    let most = c.loop.auto.counter-end in
    let least = c.loop-test.false in
    let count = c.cells_for-end.ensures in
    let all : c.loop.counter ≡ cells_for c.args.many = omega arith in
    row_cleared w0 w c.args.first.number c.args.many c.loop.at.number bytes cells long holds
    (subst (λ (many : ℕ). IsCleared w0 w holds.chain many c.loop.at.number) all (c.loop.invariant.cleared bytes cells long holds))
