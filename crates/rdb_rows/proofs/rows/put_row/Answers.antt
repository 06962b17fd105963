use Rattle.std.proofs.Common.{◌≡◌, ◌<◌, ◌-◌, ℕ, List, length, take, refl, sym, ap, subst, ◌∙◌, arith}
use Rattle.rdb_cells.specs.RowFormat.{filled_up, row_cell}
use Rattle.rdb_cells.specs.Work.{Work, work}
use Rattle.rdb_cells.proofs.WorkLemmas.{take_work, put_work, put_is, take_is}
use Rattle.rdb_rows.specs.Rows.{cells_for}
use Rattle.rdb_rows.proofs.Puttings.{IsPutting, putting_begins, putting_left, at_reads, place_left, putting_more, putting_ends, some_left, row_takes, some_bytes, a_cell}
use Rattle.rdb_rows.proofs.rows.put_row.Goals as goal

pub take-first-requires : goal.take-first-requires
take-first-requires g c =
    let some = some_bytes c.args.bytes.now c.is_empty.result c.is_empty.ensures c.if-is_empty.false in
    some_left (work g.C.Cells c.args.cells.now) (cells_for (length c.args.bytes.now)) (omega arith) c.requires.free

pub loop-rest-init : goal.loop-rest-init
loop-rest-init g c =
    let w = work g.C.Cells c.args.cells.now in
    let taken = take_is g.C.Cells c.args.cells.now c.take-first.new.self w c.take-first.result refl c.take-first.ensures.taken in
    let some = some_bytes c.args.bytes.now c.is_empty.result c.is_empty.ensures c.if-is_empty.false in
    record {
      putting = subst (λ (v : Work). IsPutting w v c.args.bytes.now c.take-first.result.number c.take-first.result.number c.args.bytes.now) (sym taken) (putting_begins w c.args.bytes.now c.take-first.result.number some c.take-first.ensures.lowest);
      below = ap (λ o. o.cells) c.take-first.ensures.taken;
      class = ap (λ o. o.class) c.take-first.ensures.taken;
    }

pub take-next-requires : goal.take-next-requires
take-next-requires g c =
    let w0 = work g.C.Cells c.args.cells.now in
    let w = work g.C.Cells c.loop-rest.cells in
    let is = c.loop-rest.invariant.putting in
    let long : 60 < length c.loop-rest.rest.now = c.loop-rest-test.true in
    some_left w (cells_for (length c.loop-rest.rest.now) - 1) (omega arith)
    (putting_left w0 w c.args.bytes.now c.take-first.result.number c.loop-rest.at.number c.loop-rest.rest.now is c.requires.free)

pub put-requires-clause-named : goal.put-requires-clause-named
put-requires-clause-named g c =
    let w0 = work g.C.Cells c.args.cells.now in
    let w = work g.C.Cells c.loop-rest.cells in
    rw c.take-next.ensures.taken
    (a_cell _ _ (at_reads w0 w c.args.bytes.now c.take-first.result.number c.loop-rest.at.number c.loop-rest.rest.now c.loop-rest.invariant.putting))

pub put-requires-clause-room : goal.put-requires-clause-room
put-requires-clause-room g c =
    let w0 = work g.C.Cells c.args.cells.now in
    let w = work g.C.Cells c.loop-rest.cells in
    let is = c.loop-rest.invariant.putting in
    let room : w.room ≡ w0.room = ap (λ (v : Work). v.room) is.now in
    rw c.take-next.ensures.taken
    (λ unnamed. subst (λ (room : ℕ). length w.pairs < room) (sym room) (place_left w0 w c.args.bytes.now c.take-first.result.number c.loop-rest.at.number c.loop-rest.rest.now is w0.room c.requires.places))

pub put-requires-2-clause-named : goal.put-requires-2-clause-named
put-requires-2-clause-named g c =
    let w0 = work g.C.Cells c.args.cells.now in
    let w = work g.C.Cells c.loop-rest.cells in
    a_cell _ _ (at_reads w0 w c.args.bytes.now c.take-first.result.number c.loop-rest.at.number c.loop-rest.rest.now c.loop-rest.invariant.putting)

pub put-requires-2-clause-room : goal.put-requires-2-clause-room
put-requires-2-clause-room g c unnamed =
    let w0 = work g.C.Cells c.args.cells.now in
    let w = work g.C.Cells c.loop-rest.cells in
    let is = c.loop-rest.invariant.putting in
    let room : w.room ≡ w0.room = ap (λ (v : Work). v.room) is.now in
    subst (λ (room : ℕ). length w.pairs < room) (sym room) (place_left w0 w c.args.bytes.now c.take-first.result.number c.loop-rest.at.number c.loop-rest.rest.now is w0.room c.requires.places)

pub loop-rest-preserved : goal.loop-rest-preserved
loop-rest-preserved g c =
    let w0 = work g.C.Cells c.args.cells.now in
    let w = work g.C.Cells c.loop-rest.cells in
    let first = c.take-first.result.number in
    let is = c.loop-rest.invariant.putting in
    let next = c.take-next.result in
    let cell : c.to_cell.result ≡ row_cell (record { next = next; bytes = filled_up (take 60 c.loop-rest.rest.now) }) =
    c.to_cell.ensures.value ∙ ap row_cell c.holding.ensures.value ∙ ap (λ (part : List ℕ). row_cell (record { next = next; bytes = filled_up part })) c.split_at.ensures.front in
    let taken = take_is g.C.Cells c.loop-rest.cells c.take-next.new.self w next refl c.take-next.ensures.taken in
    let put : work g.C.Cells c.put.new.self ≡ put_work (take_work w next) c.loop-rest.at (row_cell (record { next = next; bytes = filled_up (take 60 c.loop-rest.rest.now) })) =
    put_is g.C.Cells c.take-next.new.self c.put.new.self (take_work w next) c.loop-rest.at c.to_cell.result taken c.put.ensures.plan
    ∙ ap (put_work (take_work w next) c.loop-rest.at) cell in
    record {
      putting = subst (λ (rest : List ℕ). IsPutting w0 (work g.C.Cells c.put.new.self) c.args.bytes.now first next.number rest) (sym c.split_at.ensures.back)
          (putting_more w0 w c.args.bytes.now first c.loop-rest.at.number c.loop-rest.rest.now is next.number (work g.C.Cells c.put.new.self) c.loop-rest-test.true c.take-next.ensures.lowest put);
      below = ap (λ o. o.cells) c.put.ensures.plan ∙ ap (λ o. o.cells) c.take-next.ensures.taken ∙ c.loop-rest.invariant.below;
      class = ap (λ o. o.class) c.put.ensures.plan ∙ ap (λ o. o.class) c.take-next.ensures.taken ∙ c.loop-rest.invariant.class;
    }

pub returns-clause-puts : goal.returns-clause-puts
returns-clause-puts g c =
    let w0 = work g.C.Cells c.args.cells.now in
    let w = work g.C.Cells c.loop-rest.cells in
    let cell : c.to_cell-2.result ≡ row_cell (record { next = record { number = 0 }; bytes = filled_up c.loop-rest.rest.now }) =
    c.to_cell-2.ensures.value ∙ ap row_cell c.holding-2.ensures.value in
    let put = put_is g.C.Cells c.loop-rest.cells c.put-2.new.self w c.loop-rest.at c.to_cell-2.result refl c.put-2.ensures.plan ∙ ap (put_work w c.loop-rest.at) cell in
    putting_ends w0 w c.args.bytes.now c.take-first.result.number c.loop-rest.at.number c.loop-rest.rest.now c.loop-rest.invariant.putting (work g.C.Cells c.put-2.new.self) c.loop-rest-test.false put

pub returns-clause-takes : goal.returns-clause-takes
returns-clause-takes g c =
    row_takes (work g.C.Cells c.args.cells.now) (work g.C.Cells c.put-2.new.self) c.take-first.result.number c.args.bytes.now (returns-clause-puts g c)
