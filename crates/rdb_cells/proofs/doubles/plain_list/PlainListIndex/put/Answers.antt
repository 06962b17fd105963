use Rattle.std.proofs.Common.{◌≡◌, ◌+◌, ◌≤◌, length, refl, sym, subst, ◌∙◌, arith}
use Rattle.rdb_cells.specs.Index.{Puts, PlansOnlyOwn}
use Rattle.rdb_cells.specs.Keys.{SameVersionCells}
use Rattle.rdb_cells.specs.PlainList.{plain_nature}
use Rattle.rdb_cells.specs.Work.{Work, work, reading, TakesAtMost}
use Rattle.rdb_cells.proofs.PlainLemmas.{small_first}
use Rattle.rdb_cells.proofs.PlainChanges.{plain_puts, put_own, put_versions, put_takes}
use Rattle.rdb_cells.proofs.WorkLemmas.{put_work, take_work, put_is, take_is, put_longer, one_left}
use Rattle.rdb_cells.proofs.doubles.plain_list.PlainListIndex.put.Goals as goal

pub take-place-requires : goal.take-place-requires
take-place-requires g c = one_left (work g.C.Cells c.args.cells.now) c.requires.free

pub to_cell-requires : goal.to_cell-requires
to_cell-requires g c =
    let list = c.requires.lacks.lists in
    small_first (reading (work g.C.Cells c.args.cells.now)) c.args.self.now.head.number list.first c.root_in-first.result c.planned.result.now list.chain list.leads list.entries c.planned.ensures.planned c.root_in-first.ensures

pub returns-clause-puts : goal.returns-clause-puts
returns-clause-puts g c =
    let w = work g.C.Cells c.args.cells.now in
    let after = put_work (put_work (take_work w c.take-place.result) c.take-place.result c.to_cell.result) c.args.self.now.head c.to_cell-2.result in
    let taken = take_is g.C.Cells c.args.cells.now c.take-place.new.self w c.take-place.result refl c.take-place.ensures.taken in
    let entered = put_is g.C.Cells c.take-place.new.self c.put.new.self (take_work w c.take-place.result) c.take-place.result c.to_cell.result taken c.put.ensures.plan in
    let headed : work g.C.Cells c.put-2.new.self ≡ after = put_is g.C.Cells c.put.new.self c.put-2.new.self (put_work (take_work w c.take-place.result) c.take-place.result c.to_cell.result) c.args.self.now.head c.to_cell-2.result entered c.put-2.ensures.plan in
    subst (λ (v : Work). Puts (plain_nature c.args.self.now.class c.args.self.now.head.number) (g.K.Keys.meaning c.args._keys.now) w v c.args.version) (sym headed)
    (plain_puts c.args.self.now.class c.args.self.now.head c.take-place.result c.root_in-first.result c.args.version (g.K.Keys.meaning c.args._keys.now) w c.planned.result.now c.to_cell.result c.to_cell-2.result (g.met.K.Keys.rests_on_versions c.args._keys.now) c.planned.ensures.planned c.root_in-first.ensures c.take-place.ensures.lowest c.to_cell.ensures.kind c.to_cell.ensures.inverse c.to_cell-2.ensures.kind (c.to_cell-2.ensures.inverse ∙ c.rooted.ensures))

pub returns-clause-own : goal.returns-clause-own
returns-clause-own g c =
    let w = work g.C.Cells c.args.cells.now in
    let after = put_work (put_work (take_work w c.take-place.result) c.take-place.result c.to_cell.result) c.args.self.now.head c.to_cell-2.result in
    let taken = take_is g.C.Cells c.args.cells.now c.take-place.new.self w c.take-place.result refl c.take-place.ensures.taken in
    let entered = put_is g.C.Cells c.take-place.new.self c.put.new.self (take_work w c.take-place.result) c.take-place.result c.to_cell.result taken c.put.ensures.plan in
    let headed : work g.C.Cells c.put-2.new.self ≡ after = put_is g.C.Cells c.put.new.self c.put-2.new.self (put_work (take_work w c.take-place.result) c.take-place.result c.to_cell.result) c.args.self.now.head c.to_cell-2.result entered c.put-2.ensures.plan in
    subst (λ (v : Work). PlansOnlyOwn (plain_nature c.args.self.now.class c.args.self.now.head.number) (g.K.Keys.meaning c.args._keys.now) w v) (sym headed)
    (put_own c.args.self.now.class c.args.self.now.head c.take-place.result c.root_in-first.result c.args.version (g.K.Keys.meaning c.args._keys.now) w c.planned.result.now c.to_cell.result c.to_cell-2.result (g.met.K.Keys.rests_on_versions c.args._keys.now) c.planned.ensures.planned c.root_in-first.ensures c.take-place.ensures.lowest c.to_cell.ensures.kind c.to_cell.ensures.inverse c.to_cell-2.ensures.kind (c.to_cell-2.ensures.inverse ∙ c.rooted.ensures))

pub returns-clause-versions : goal.returns-clause-versions
returns-clause-versions g c =
    let w = work g.C.Cells c.args.cells.now in
    let after = put_work (put_work (take_work w c.take-place.result) c.take-place.result c.to_cell.result) c.args.self.now.head c.to_cell-2.result in
    let taken = take_is g.C.Cells c.args.cells.now c.take-place.new.self w c.take-place.result refl c.take-place.ensures.taken in
    let entered = put_is g.C.Cells c.take-place.new.self c.put.new.self (take_work w c.take-place.result) c.take-place.result c.to_cell.result taken c.put.ensures.plan in
    let headed : work g.C.Cells c.put-2.new.self ≡ after = put_is g.C.Cells c.put.new.self c.put-2.new.self (put_work (take_work w c.take-place.result) c.take-place.result c.to_cell.result) c.args.self.now.head c.to_cell-2.result entered c.put-2.ensures.plan in
    subst (λ (v : Work). SameVersionCells (reading w) (reading v)) (sym headed)
    (put_versions c.args.self.now.class c.args.self.now.head c.take-place.result c.root_in-first.result c.args.version (g.K.Keys.meaning c.args._keys.now) w c.planned.result.now c.to_cell.result c.to_cell-2.result (g.met.K.Keys.rests_on_versions c.args._keys.now) c.planned.ensures.planned c.root_in-first.ensures c.take-place.ensures.lowest c.to_cell.ensures.kind c.to_cell.ensures.inverse c.to_cell-2.ensures.kind (c.to_cell-2.ensures.inverse ∙ c.rooted.ensures) c.requires.lacks.listed c.requires.lacks.nodes c.requires.lacks.lists)

pub returns-clause-takes : goal.returns-clause-takes
returns-clause-takes g c =
    let w = work g.C.Cells c.args.cells.now in
    let after = put_work (put_work (take_work w c.take-place.result) c.take-place.result c.to_cell.result) c.args.self.now.head c.to_cell-2.result in
    let taken = take_is g.C.Cells c.args.cells.now c.take-place.new.self w c.take-place.result refl c.take-place.ensures.taken in
    let entered = put_is g.C.Cells c.take-place.new.self c.put.new.self (take_work w c.take-place.result) c.take-place.result c.to_cell.result taken c.put.ensures.plan in
    let headed : work g.C.Cells c.put-2.new.self ≡ after = put_is g.C.Cells c.put.new.self c.put-2.new.self (put_work (take_work w c.take-place.result) c.take-place.result c.to_cell.result) c.args.self.now.head c.to_cell-2.result entered c.put-2.ensures.plan in
    subst (λ (v : Work). TakesAtMost 1 w v) (sym headed)
    (put_takes c.args.self.now.class c.args.self.now.head c.take-place.result c.root_in-first.result c.args.version (g.K.Keys.meaning c.args._keys.now) w c.planned.result.now c.to_cell.result c.to_cell-2.result (g.met.K.Keys.rests_on_versions c.args._keys.now) c.planned.ensures.planned c.root_in-first.ensures c.take-place.ensures.lowest c.to_cell.ensures.kind c.to_cell.ensures.inverse c.to_cell-2.ensures.kind (c.to_cell-2.ensures.inverse ∙ c.rooted.ensures) c.requires.lacks.listed c.requires.lacks.nodes c.requires.lacks.lists)

pub returns-clause-places : goal.returns-clause-places
returns-clause-places g c =
    let w = work g.C.Cells c.args.cells.now in
    let after = put_work (put_work (take_work w c.take-place.result) c.take-place.result c.to_cell.result) c.args.self.now.head c.to_cell-2.result in
    let taken = take_is g.C.Cells c.args.cells.now c.take-place.new.self w c.take-place.result refl c.take-place.ensures.taken in
    let entered = put_is g.C.Cells c.take-place.new.self c.put.new.self (take_work w c.take-place.result) c.take-place.result c.to_cell.result taken c.put.ensures.plan in
    let headed : work g.C.Cells c.put-2.new.self ≡ after = put_is g.C.Cells c.put.new.self c.put-2.new.self (put_work (take_work w c.take-place.result) c.take-place.result c.to_cell.result) c.args.self.now.head c.to_cell-2.result entered c.put-2.ensures.plan in
    let first = put_longer w.pairs (record { at = c.take-place.result; cell = c.to_cell.result }) in
    let second = put_longer (put_work (take_work w c.take-place.result) c.take-place.result c.to_cell.result).pairs (record { at = c.args.self.now.head; cell = c.to_cell-2.result }) in
    subst (λ (v : Work). length v.pairs ≤ length w.pairs + 50) (sym headed) (omega arith)
