use Rattle.std.proofs.Common.{◌≡◌, ℕ, replicate, slice_set, refl, sym, ap, subst, ◌∙◌, arith}
use Rattle.rdb_cells.specs.declared.formats.hash.HashTable.{HashTable as Buckets}
use Rattle.rdb_cells.specs.declared.formats.heads.IndexHead.{IndexHead as Head}
use Rattle.rdb_cells.specs.HashFormat.{table_in, table_buckets}
use Rattle.rdb_cells.specs.HeadFormat.{index_head_in}
use Rattle.rdb_cells.specs.Words.{no_ref}
use Rattle.rdb_cells.specs.Untaken.{IsNextUntaken}
use Rattle.rdb_cells.specs.Work.{Work, work, reading, IsLeft}
use Rattle.rdb_cells.proofs.IndexLemmas.{fewer_than}
use Rattle.rdb_cells.proofs.WorkLemmas.{put_work, take_work, put_is, take_is, one_left, take_one}
use Rattle.rdb_hash.specs.Changes.{IsPutHashed}
use Rattle.rdb_hash.specs.Shape.{hash_nature}
use Rattle.rdb_hash.proofs.NewTableLemmas.{put_in_new_table}
use Rattle.rdb_hash.proofs.TableLemmas.{head_there}
use Rattle.rdb_hash.proofs.hash.Hash.put_in_new_table.Goals as goal

pub planned-requires : goal.planned-requires
planned-requires g c = head_there (reading (work g.C.Cells c.args.cells.now)) c.args.self.now.head.number c.requires.tables

pub take-place-requires : goal.take-place-requires
take-place-requires g c = one_left (work g.C.Cells c.args.cells.now) (fewer_than (work g.C.Cells c.args.cells.now) 1 2 (omega arith) c.requires.free)

pub take-table-requires : goal.take-table-requires
take-table-requires g c =
    let w = work g.C.Cells c.args.cells.now in
    let taken = take_is g.C.Cells c.args.cells.now c.take-place.new.self w c.take-place.result refl c.take-place.ensures.taken in
    subst (λ (v : Work). (n : ℕ) × IsLeft v n) (sym taken)
    (one_left (take_work w c.take-place.result) ((take_one w c.take-place.result c.take-place.ensures.lowest).enough 1 c.requires.free))

pub returns-clause-put : goal.returns-clause-put
returns-clause-put g c =
    let w = work g.C.Cells c.args.cells.now in
    let place = c.take-place.result in
    let made = c.take-table.result in
    let taken = take_is g.C.Cells c.args.cells.now c.take-place.new.self w place refl c.take-place.ensures.taken in
    let both = take_is g.C.Cells c.take-place.new.self c.take-table.new.self (take_work w place) made taken c.take-table.ensures.taken in
    let with_table = put_is g.C.Cells c.take-table.new.self c.put.new.self (take_work (take_work w place) made) made c.to_cell.result both c.put.ensures.plan in
    let with_entry = put_is g.C.Cells c.put.new.self c.put-2.new.self (put_work (take_work (take_work w place) made) made c.to_cell.result) place c.to_cell-2.result with_table c.put-2.ensures.plan in
    let with_head = put_is g.C.Cells c.put-2.new.self c.put-3.new.self (put_work (put_work (take_work (take_work w place) made) made c.to_cell.result) place c.to_cell-2.result) c.args.self.now.head c.to_cell-3.result with_entry c.put-3.ensures.plan in
    let second = subst (λ (v : Work). IsNextUntaken v.pairs v.below v.class_of v.class v.taken made.number) taken c.take-table.ensures.lowest in
    let table_says : (table_in c.to_cell.result).buckets ≡ slice_set (replicate table_buckets no_ref) c.args.bucket.place place = ap (λ (t : Buckets). t.buckets) c.to_cell.ensures.inverse in
    let head_says : (index_head_in c.to_cell-3.result).roots ≡ slice_set (index_head_in c.planned.result.now).roots c.args.bucket.table made =
    ap (λ (h : Head). h.roots) c.to_cell-3.ensures.inverse ∙ ap (λ (h : Head). slice_set h.roots c.args.bucket.table made) c.of_cell-head.ensures.value in
    subst (λ (v : Work). IsPutHashed (hash_nature c.args.self.now.class c.args.self.now.head.number) w v c.args.version c.args.hash) (sym with_head)
    (put_in_new_table c.args.self.now.class c.args.self.now.head place made c.args.version c.args.hash c.args.bucket.table c.args.bucket.place w c.planned.result.now c.to_cell.result c.to_cell-2.result c.to_cell-3.result
    c.requires.tables c.requires.root c.planned.ensures.planned c.take-place.ensures.lowest second c.to_cell.ensures.kind table_says c.to_cell-2.ensures.kind c.to_cell-2.ensures.inverse c.to_cell-3.ensures.kind head_says c.requires.bucket.table c.requires.bucket.place c.requires.bucket.number)
