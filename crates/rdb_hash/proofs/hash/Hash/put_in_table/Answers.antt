use Rattle.std.proofs.Common.{◌≡◌, get_or, slice_get, slice_set, Some, refl, sym, ap, subst, ◌∙◌, arith}
use Rattle.rdb_cells.specs.declared.formats.hash.HashTable.{HashTable as Buckets}
use Rattle.rdb_cells.specs.HashFormat.{table_in}
use Rattle.rdb_cells.specs.Words.{no_ref}
use Rattle.rdb_cells.specs.Work.{Work, work, reading}
use Rattle.rdb_cells.proofs.IndexLemmas.{fewer_than}
use Rattle.rdb_cells.proofs.WorkLemmas.{put_work, take_work, put_is, take_is, one_left}
use Rattle.rdb_hash.specs.Changes.{IsPutHashed}
use Rattle.rdb_hash.specs.Shape.{hash_nature}
use Rattle.rdb_hash.proofs.ListPlaces.{got_or}
use Rattle.rdb_hash.proofs.PutLemmas.{put_in_table}
use Rattle.rdb_hash.proofs.TableLemmas.{is_there, first_of_table, first_small}
use Rattle.rdb_hash.proofs.hash.Hash.put_in_table.Goals as goal

pub planned-requires : goal.planned-requires
planned-requires g c =
    is_there (reading (work g.C.Cells c.args.cells.now)) c.args.self.now.head.number c.requires.root.cell c.requires.root.here c.args.bucket.table c.args.table c.requires.root.leads c.requires.bucket.table c.requires.tables c.requires.some

pub take-place-requires : goal.take-place-requires
take-place-requires g c = one_left (work g.C.Cells c.args.cells.now) (fewer_than (work g.C.Cells c.args.cells.now) 1 2 (omega arith) c.requires.free)

pub to_cell-requires : goal.to_cell-requires
to_cell-requires g c =
    let next = get_or c.of_cell.result.buckets c.args.bucket.place no_ref in
    let read : slice_get (table_in c.planned.result.now).buckets c.args.bucket.place ≡ Some next =
    got_or (table_in c.planned.result.now).buckets c.args.bucket.place no_ref c.requires.bucket.place
    ∙ ap (λ (t : Buckets). Some (get_or t.buckets c.args.bucket.place no_ref)) (sym c.of_cell.ensures.value) in
    first_small (reading (work g.C.Cells c.args.cells.now)) c.args.self.now.head.number c.args.bucket.table c.args.bucket.place next.number c.requires.tables c.requires.bucket.table c.requires.bucket.place
    (first_of_table (reading (work g.C.Cells c.args.cells.now)) c.args.self.now.head.number c.requires.root.cell c.requires.root.here c.args.bucket.table c.args.table c.requires.root.leads c.args.bucket.place c.planned.result.now next c.requires.some c.planned.ensures.planned read)

pub returns-clause-put : goal.returns-clause-put
returns-clause-put g c =
    let w = work g.C.Cells c.args.cells.now in
    let next = get_or c.of_cell.result.buckets c.args.bucket.place no_ref in
    let read : slice_get (table_in c.planned.result.now).buckets c.args.bucket.place ≡ Some next =
    got_or (table_in c.planned.result.now).buckets c.args.bucket.place no_ref c.requires.bucket.place
    ∙ ap (λ (t : Buckets). Some (get_or t.buckets c.args.bucket.place no_ref)) (sym c.of_cell.ensures.value) in
    let taken = take_is g.C.Cells c.args.cells.now c.take-place.new.self w c.take-place.result refl c.take-place.ensures.taken in
    let entered = put_is g.C.Cells c.take-place.new.self c.put.new.self (take_work w c.take-place.result) c.take-place.result c.to_cell.result taken c.put.ensures.plan in
    let led = put_is g.C.Cells c.put.new.self c.put-2.new.self (put_work (take_work w c.take-place.result) c.take-place.result c.to_cell.result) c.args.table c.to_cell-2.result entered c.put-2.ensures.plan in
    let new_says : (table_in c.to_cell-2.result).buckets ≡ slice_set (table_in c.planned.result.now).buckets c.args.bucket.place c.take-place.result =
    ap (λ (t : Buckets). t.buckets) c.to_cell-2.ensures.inverse ∙ ap (λ (t : Buckets). slice_set t.buckets c.args.bucket.place c.take-place.result) c.of_cell.ensures.value in
    subst (λ (v : Work). IsPutHashed (hash_nature c.args.self.now.class c.args.self.now.head.number) w v c.args.version c.args.hash) (sym led)
    (put_in_table c.args.self.now.class c.args.self.now.head c.args.table c.take-place.result c.args.version next c.args.hash c.args.bucket.table c.args.bucket.place w c.planned.result.now c.to_cell.result c.to_cell-2.result
    c.requires.tables c.requires.root c.requires.some c.planned.ensures.planned read c.take-place.ensures.lowest c.to_cell.ensures.kind c.to_cell.ensures.inverse c.to_cell-2.ensures.kind new_says c.requires.bucket.table c.requires.bucket.place c.requires.bucket.number)
