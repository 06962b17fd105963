use Rattle.std.proofs.Common.{◌≡◌, ◌<◌, length, get_or, slice_get, slice_set, Some, refl, sym, ap, subst, ◌∙◌, arith}
use Rattle.rdb_pages.specs.Pages.{zero_cell}
use Rattle.rdb_cells.specs.declared.formats.hash.HashTable.{HashTable as Buckets}
use Rattle.rdb_cells.specs.declared.formats.heads.IndexHead.{IndexHead as Head}
use Rattle.rdb_cells.specs.HashFormat.{table_in}
use Rattle.rdb_cells.specs.HeadFormat.{index_head_in}
use Rattle.rdb_cells.specs.Words.{no_ref}
use Rattle.rdb_cells.specs.Work.{Work, work, reading}
use Rattle.rdb_cells.proofs.WorkLemmas.{put_work, put_is, put_longer}
use Rattle.rdb_hash.specs.Changes.{IsRemovedByAny}
use Rattle.rdb_hash.specs.Shape.{hash_nature}
use Rattle.rdb_hash.proofs.ListPlaces.{got_or}
use Rattle.rdb_hash.proofs.RemoveLemmas.{entry_there_cell, table_there_cell, take_first, take_last}
use Rattle.rdb_hash.proofs.TableLemmas.{head_there}
use Rattle.rdb_hash.proofs.hash.Hash.take_first.Goals as goal

pub planned-requires : goal.planned-requires
planned-requires g c = head_there (reading (work g.C.Cells c.args.cells.now)) c.args.self.now.head.number c.requires.tables

pub planned-requires-2 : goal.planned-requires-2
planned-requires-2 g c =
    let root = get_or c.of_cell-head.result.roots c.args.bucket.table no_ref in
    let read : slice_get (index_head_in c.planned.result.now).roots c.args.bucket.table ≡ Some root =
    got_or (index_head_in c.planned.result.now).roots c.args.bucket.table no_ref c.requires.table
    ∙ ap (λ (h : Head). Some (get_or h.roots c.args.bucket.table no_ref)) (sym c.of_cell-head.ensures.value) in
    table_there_cell c.args.self.now.class c.args.self.now.head c.args.version c.args.bucket.table c.args.bucket.place (work g.C.Cells c.args.cells.now) c.args.found c.requires.tables c.requires.found c.requires.table c.requires.place c.requires.first c.planned.result.now root c.planned.ensures.planned read

pub put-requires-clause-named : goal.put-requires-clause-named
put-requires-clause-named g c =
    entry_there_cell c.args.self.now.class c.args.self.now.head c.args.version c.args.bucket.table c.args.bucket.place (work g.C.Cells c.args.cells.now) c.args.found c.requires.tables c.requires.found c.requires.table c.requires.place

pub put-requires-then-are_none-2-clause-room : goal.put-requires-then-are_none-2-clause-room
put-requires-then-are_none-2-clause-room g c unnamed =
    let w = work g.C.Cells c.args.cells.now in
    let root = get_or c.of_cell-head.result.roots c.args.bucket.table no_ref in
    let gone = put_is g.C.Cells c.args.cells.now c.put.new.self w c.args.found.at zero_cell refl c.put.ensures.plan in
    let dropped : work g.C.Cells c.put-then-are_none.new.self ≡ put_work (put_work w c.args.found.at zero_cell) root zero_cell = put_is g.C.Cells c.put.new.self c.put-then-are_none.new.self (put_work w c.args.found.at zero_cell) root zero_cell gone c.put-then-are_none.ensures.plan in
    let first = put_longer w.pairs (record { at = c.args.found.at; cell = zero_cell }) in
    let second = put_longer (put_work w c.args.found.at zero_cell).pairs (record { at = root; cell = zero_cell }) in
    let places = c.requires.places in
    subst (λ (v : Work). length v.pairs < v.room) (sym dropped) (omega arith)

pub put-requires-else-are_none-clause-room : goal.put-requires-else-are_none-clause-room
put-requires-else-are_none-clause-room g c unnamed =
    let w = work g.C.Cells c.args.cells.now in
    let gone : work g.C.Cells c.put.new.self ≡ put_work w c.args.found.at zero_cell = put_is g.C.Cells c.args.cells.now c.put.new.self w c.args.found.at zero_cell refl c.put.ensures.plan in
    let first = put_longer w.pairs (record { at = c.args.found.at; cell = zero_cell }) in
    let places = c.requires.places in
    subst (λ (v : Work). length v.pairs < v.room) (sym gone) (omega arith)

pub returns-then-are_none-clause-removed : goal.returns-then-are_none-clause-removed
returns-then-are_none-clause-removed g c =
    let w = work g.C.Cells c.args.cells.now in
    let root = get_or c.of_cell-head.result.roots c.args.bucket.table no_ref in
    let read : slice_get (index_head_in c.planned.result.now).roots c.args.bucket.table ≡ Some root =
    got_or (index_head_in c.planned.result.now).roots c.args.bucket.table no_ref c.requires.table
    ∙ ap (λ (h : Head). Some (get_or h.roots c.args.bucket.table no_ref)) (sym c.of_cell-head.ensures.value) in
    let gone = put_is g.C.Cells c.args.cells.now c.put.new.self w c.args.found.at zero_cell refl c.put.ensures.plan in
    let dropped = put_is g.C.Cells c.put.new.self c.put-then-are_none.new.self (put_work w c.args.found.at zero_cell) root zero_cell gone c.put-then-are_none.ensures.plan in
    let headed = put_is g.C.Cells c.put-then-are_none.new.self c.put-then-are_none-2.new.self (put_work (put_work w c.args.found.at zero_cell) root zero_cell) c.args.self.now.head c.to_cell.result dropped c.put-then-are_none-2.ensures.plan in
    let head_says : (index_head_in c.to_cell.result).roots ≡ slice_set (index_head_in c.planned.result.now).roots c.args.bucket.table no_ref =
    ap (λ (h : Head). h.roots) c.to_cell.ensures.inverse ∙ ap (λ (h : Head). slice_set h.roots c.args.bucket.table no_ref) c.of_cell-head.ensures.value in
    let rest = slice_set c.of_cell.result.buckets c.args.bucket.place c.args.found.next in
    let rest_is : rest ≡ slice_set (table_in c.planned-2.result.now).buckets c.args.bucket.place c.args.found.next = ap (λ (t : Buckets). slice_set t.buckets c.args.bucket.place c.args.found.next) c.of_cell.ensures.value in
    subst (λ (v : Work). IsRemovedByAny (hash_nature c.args.self.now.class c.args.self.now.head.number) w v c.args.version) (sym headed)
    (take_last c.args.self.now.class c.args.self.now.head c.args.version c.args.bucket.table c.args.bucket.place w c.args.found c.requires.tables c.requires.found c.requires.table c.requires.place c.requires.first c.planned.result.now root c.planned.ensures.planned read
    c.planned-2.result.now c.planned-2.ensures.planned c.to_cell.result c.to_cell.ensures.kind head_says rest rest_is (sym c.are_none.ensures ∙ c.if-are_none.true))

pub returns-else-are_none-clause-removed : goal.returns-else-are_none-clause-removed
returns-else-are_none-clause-removed g c =
    let w = work g.C.Cells c.args.cells.now in
    let root = get_or c.of_cell-head.result.roots c.args.bucket.table no_ref in
    let read : slice_get (index_head_in c.planned.result.now).roots c.args.bucket.table ≡ Some root =
    got_or (index_head_in c.planned.result.now).roots c.args.bucket.table no_ref c.requires.table
    ∙ ap (λ (h : Head). Some (get_or h.roots c.args.bucket.table no_ref)) (sym c.of_cell-head.ensures.value) in
    let gone = put_is g.C.Cells c.args.cells.now c.put.new.self w c.args.found.at zero_cell refl c.put.ensures.plan in
    let led = put_is g.C.Cells c.put.new.self c.put-else-are_none.new.self (put_work w c.args.found.at zero_cell) root c.to_cell-else-are_none.result gone c.put-else-are_none.ensures.plan in
    let rest = slice_set c.of_cell.result.buckets c.args.bucket.place c.args.found.next in
    let rest_is : rest ≡ slice_set (table_in c.planned-2.result.now).buckets c.args.bucket.place c.args.found.next = ap (λ (t : Buckets). slice_set t.buckets c.args.bucket.place c.args.found.next) c.of_cell.ensures.value in
    subst (λ (v : Work). IsRemovedByAny (hash_nature c.args.self.now.class c.args.self.now.head.number) w v c.args.version) (sym led)
    (take_first c.args.self.now.class c.args.self.now.head c.args.version c.args.bucket.table c.args.bucket.place w c.args.found c.requires.tables c.requires.found c.requires.table c.requires.place c.requires.first c.planned.result.now root c.planned.ensures.planned read
    c.planned-2.result.now c.planned-2.ensures.planned c.to_cell-else-are_none.result c.to_cell-else-are_none.ensures.kind rest rest_is (ap (λ (t : Buckets). t.buckets) c.to_cell-else-are_none.ensures.inverse) (sym c.are_none.ensures ∙ c.if-are_none.false))
