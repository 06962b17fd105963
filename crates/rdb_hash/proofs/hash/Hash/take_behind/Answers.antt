use Rattle.std.proofs.Common.{◌≡◌, refl, sym, ap, subst, ◌∙◌}
use Rattle.rdb_pages.specs.Pages.{zero_cell}
use Rattle.rdb_cells.specs.declared.formats.hash.HashEntry.{HashEntry as EntryValue}
use Rattle.rdb_cells.specs.HashFormat.{hash_entry_in}
use Rattle.rdb_cells.specs.Work.{Work, work}
use Rattle.rdb_cells.proofs.WorkLemmas.{put_work, put_is}
use Rattle.rdb_hash.specs.Changes.{IsRemovedByAny}
use Rattle.rdb_hash.specs.Shape.{hash_nature}
use Rattle.rdb_hash.proofs.RemoveLemmas.{before_there, entry_there_cell, next_small, take_behind}
use Rattle.rdb_hash.proofs.hash.Hash.take_behind.Goals as goal

pub planned-requires : goal.planned-requires
planned-requires g c =
    before_there c.args.self.now.class c.args.self.now.head c.args.version c.args.bucket.table c.args.bucket.place (work g.C.Cells c.args.cells.now) c.args.found c.requires.tables c.requires.found c.requires.table c.requires.place c.requires.behind

pub put-requires-clause-named : goal.put-requires-clause-named
put-requires-clause-named g c =
    entry_there_cell c.args.self.now.class c.args.self.now.head c.args.version c.args.bucket.table c.args.bucket.place (work g.C.Cells c.args.cells.now) c.args.found c.requires.tables c.requires.found c.requires.table c.requires.place

pub to_cell-requires : goal.to_cell-requires
to_cell-requires g c =
    next_small c.args.self.now.class c.args.self.now.head c.args.version c.args.bucket.table c.args.bucket.place (work g.C.Cells c.args.cells.now) c.args.found c.requires.tables c.requires.found c.requires.table c.requires.place

pub returns-clause-removed : goal.returns-clause-removed
returns-clause-removed g c =
    let w = work g.C.Cells c.args.cells.now in
    let gone = put_is g.C.Cells c.args.cells.now c.put.new.self w c.args.found.at zero_cell refl c.put.ensures.plan in
    let led = put_is g.C.Cells c.put.new.self c.put-2.new.self (put_work w c.args.found.at zero_cell) c.args.found.before c.to_cell.result gone c.put-2.ensures.plan in
    let says : hash_entry_in c.to_cell.result ≡ record { next = c.args.found.next; version = (hash_entry_in c.planned.result.now).version; hash = (hash_entry_in c.planned.result.now).hash } =
    c.to_cell.ensures.inverse ∙ ap (λ (e : EntryValue). (let f : EntryValue = record { next = c.args.found.next; version = e.version; hash = e.hash } in f)) c.of_cell-entry.ensures.value in
    subst (λ (v : Work). IsRemovedByAny (hash_nature c.args.self.now.class c.args.self.now.head.number) w v c.args.version) (sym led)
    (take_behind c.args.self.now.class c.args.self.now.head c.args.version c.args.bucket.table c.args.bucket.place w c.args.found c.requires.tables c.requires.found c.requires.table c.requires.place c.requires.behind c.planned.result.now c.to_cell.result c.planned.ensures.planned c.to_cell.ensures.kind says)
