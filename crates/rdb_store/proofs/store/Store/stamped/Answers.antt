use Rattle.std.proofs.Common.{subst}
use Rattle.rdb_store.specs.Classes.{AreLawful}
use Rattle.rdb_store.specs.Shapes.{ClassShape, shape_in, class_in, nature_of_class}
use Rattle.rdb_store.proofs.Stamping.{rests_on_stamps}
use Rattle.rdb_store.proofs.StorePlans.{stands_there, stamps_there}
use Rattle.rdb_store.proofs.store.Store.stamped.Goals as goal

pub with_stamp-requires : goal.with_stamp-requires
with_stamp-requires g c =
    stands_there (shape_in c.args.self.now c.args.class) (g.C.Cells.image c.args.cells.now) (g.C.Cells.class_of c.args.cells.now) c.args.version.number c.requires.holds c.requires.version

pub returns : goal.returns
returns g c after writes objects holds id newer older v split there =
    rests_on_stamps (class_in c.args.self.now c.args.class)
    (subst (λ (s : ClassShape). AreLawful (nature_of_class s)) c.class.ensures.shape c.each_lawful.ensures)
    (g.C.Cells.image c.args.cells.now) after (g.C.Cells.class_of c.args.cells.now) objects id newer older v c.args.stamp holds split
    (stamps_there (g.C.Cells.image c.args.cells.now) after c.args.version.number c.with_stamp.result v.header there c.args.stamp (c.with_stamp.ensures.stamps after writes) writes)
