use Rattle.std.proofs.Common.{◌≡◌, ◌∙◌, refl, sym, subst, ap, rules, arith}
use Rattle.std.specs.Bool.{IsTrue}
use Rattle.rdb_cells.specs.declared.formats.version.VersionHeader.{VersionHeader}
use Rattle.rdb_cells.specs.Overlays.{Laid}
use Rattle.rdb_cells.specs.Work.{Work, work, reading}
use Rattle.rdb_cells.proofs.WorkLemmas.{put_work, take_work, put_is, take_is, put_reads, left_blank}
use Rattle.rdb_objects.specs.Changes.{CanAdd}
use Rattle.rdb_objects.specs.Objects.{newest_version}
use Rattle.rdb_objects.specs.Slots.{HoldsSome, Whatever}
use Rattle.rdb_objects.proofs.TestLemmas.{can_add, left_one, some_added, some_written}
use Rattle.rdb_objects.proofs.tests.add.Goals as goal

pub newest_version-requires-clause-holds : goal.newest_version-requires-clause-holds
newest_version-requires-clause-holds g c =
    subst (λ (o : Laid g.row.C.Denot). HoldsSome (reading (work g.C.Cells o)) 0) (sym c.take-version.ensures.taken) c.requires.holds

pub add_version-requires-clause-version : goal.add_version-requires-clause-version
add_version-requires-clause-version g c =
    let w = work g.C.Cells c.args.cells.now in
    let at = c.take-version.result in
    let blank = left_blank w at.number c.take-version.ensures.lowest.untaken in
    let taken = take_is g.C.Cells c.args.cells.now c.take-version.new.self w at refl c.take-version.ensures.taken in
    let after : work g.C.Cells c.put.new.self ≡ put_work (take_work w at) at c.to_cell.result = put_is g.C.Cells c.take-version.new.self c.put.new.self (take_work w at) at c.to_cell.result taken c.put.ensures.plan in
    let newest = subst (λ (o : Laid g.row.C.Denot). Whatever (reading (work g.C.Cells o)) 0 (λ objects cells. c.newest_version.result ≡ newest_version objects c.args.id)) c.take-version.ensures.taken c.newest_version.ensures in
    subst (λ (v : Work). CanAdd (reading v) 0 c.args.id at) (sym after)
    (can_add (reading w) (reading (put_work (take_work w at) at c.to_cell.result)) c.args.id at c.to_cell.result c.newest_version.result c.requires.holds newest blank.zero
    (let page = blank.page.0 in omega arith) (put_reads (take_work w at) at c.to_cell.result) c.to_cell.ensures.kind
    (ap (λ (h : VersionHeader). h.id) c.to_cell.ensures.inverse) (ap (λ (h : VersionHeader). h.older) c.to_cell.ensures.inverse ∙ c.unwrap_or-older.ensures))

pub add_version-requires-clause-free : goal.add_version-requires-clause-free
add_version-requires-clause-free g c objects cells holds none =
    let yes : IsTrue c.can_take-2.result = search rules in
    left_one (work g.C.Cells c.put.new.self) (c.can_take-2.ensures.yes yes)

pub returns-clause-holds : goal.returns-clause-holds
returns-clause-holds g c =
    let w = work g.C.Cells c.args.cells.now in
    let at = c.take-version.result in
    let blank = left_blank w at.number c.take-version.ensures.lowest.untaken in
    let taken = take_is g.C.Cells c.args.cells.now c.take-version.new.self w at refl c.take-version.ensures.taken in
    let after : work g.C.Cells c.put.new.self ≡ put_work (take_work w at) at c.to_cell.result = put_is g.C.Cells c.take-version.new.self c.put.new.self (take_work w at) at c.to_cell.result taken c.put.ensures.plan in
    let written = subst (λ (v : Work). HoldsSome (reading v) 0) (sym after)
    (some_written (reading w) (reading (put_work (take_work w at) at c.to_cell.result)) at.number c.to_cell.result c.requires.holds blank.zero (put_reads (take_work w at) at c.to_cell.result)) in
    some_added 0 (work g.C.Cells c.put.new.self) (work g.C.Cells c.add_version.new.cells) c.args.id at c.add_version.ensures.adds written
