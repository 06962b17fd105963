use Rattle.std.proofs.Common.{refl, sym, subst, inl, inr}
use Rattle.rdb_pages.specs.declared.cell.Cell.{Cell}
use Rattle.rdb_cells.specs.Images.{Writes}
use Rattle.rdb_cells.specs.Links.{IsAmong}
use Rattle.rdb_cells.specs.VersionFormat.{header_cell}
use Rattle.rdb_cells.specs.Work.{Work, work, reading, TakesNone}
use Rattle.rdb_cells.proofs.WorkLemmas.{put_work, put_is, put_says, put_reads, put_takes_none, left_blank}
use Rattle.rdb_rows.specs.Plans.{ChangesOlder}
use Rattle.rdb_rows.specs.Versions.{header_of, over_older}
use Rattle.rdb_rows.proofs.Headers.{the_cell}
use Rattle.rdb_rows.proofs.VersionLemmas.{version_some}
use Rattle.rdb_rows.proofs.VersionPlans.{relabelled}
use Rattle.rdb_rows.proofs.versions.change_older.Goals as goal

pub returns-clause-changes : goal.returns-clause-changes
returns-clause-changes g c =
    let w = work g.C.Cells c.args.cells.now in
    let at = c.args.version in
    let cell = c.with_older-header.result in
    let put = put_is g.C.Cells c.args.cells.now c.put.new.self w at cell refl c.put.ensures.plan in
    subst (λ (v : Work). ChangesOlder w v at.number c.args.older) (sym put)
    (record {
      version = λ v cells holds.
          let header = header_of v holds.first in
          let was = the_cell (reading w at.number) c.planned.result.now (header_cell header) c.planned.ensures.planned holds.header in
          let now = c.with_older-header.ensures.whole header holds.labelled was in
          relabelled (reading w) (reading (put_work w at cell)) at.number v (over_older v c.args.older) cells holds refl (holds.labelled.0, c.requires.older)
          (subst (λ (d : Cell). Writes (reading w) (reading (put_work w at cell)) at.number d) now (put_reads w at cell));
      elsewhere = λ n apart. elim (put_says w at cell n) [ inl said ↦ said | inr same ↦ absurd (apart same) ];
    })

pub returns-clause-takes_none : goal.returns-clause-takes_none
returns-clause-takes_none g c =
    let w = work g.C.Cells c.args.cells.now in
    let at = c.args.version in
    let cell = c.with_older-header.result in
    let put = put_is g.C.Cells c.args.cells.now c.put.new.self w at cell refl c.put.ensures.plan in
    let has = c.requires.version in
    subst (TakesNone w) (sym put)
    (put_takes_none w at cell (λ left.
    version_some (reading w) at.number has.version has.cells has.holds at.number
    (subst (λ ns. IsAmong ns at.number) (sym has.holds.cells_are) (inl refl)) (left_blank w at.number left).zero))
