use Rattle.std.proofs.Common.{refl}
use Rattle.rdb_writes.specs.Grounds.{ground}
use Rattle.rdb_writes.proofs.ChangeLemmas.{idle_settled, idle_aimed, same_works}
use Rattle.rdb_writes.proofs.unlogged.write_unlogged.Goals as goal

pub returns-clause-settled : goal.returns-clause-settled
returns-clause-settled g c =
    idle_settled (ground g.C.Cells c.args.cells.now c.args.registry.now) (ground g.C.Cells c.write.new.self c.args.registry.now) c.args.at.number c.args.cell refl
    c.requires.idle c.write.ensures.written

pub returns-clause-aimed : goal.returns-clause-aimed
returns-clause-aimed g c =
    idle_aimed (ground g.C.Cells c.args.cells.now c.args.registry.now) (ground g.C.Cells c.write.new.self c.args.registry.now) c.args.at.number c.args.cell refl
    c.requires.idle c.write.ensures.written

pub returns-clause-works : goal.returns-clause-works
returns-clause-works g c =
    same_works (ground g.C.Cells c.args.cells.now c.args.registry.now) (ground g.C.Cells c.write.new.self c.args.registry.now) refl c.write.ensures.classes
    c.requires.works
