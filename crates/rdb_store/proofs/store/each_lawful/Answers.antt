use Rattle.std.proofs.Common.{◌<◌, ℕ, subst}
use Rattle.rdb_cells.specs.References.{max_classes}
use Rattle.rdb_store.proofs.StorePlans.{lawful_shape}
use Rattle.rdb_store.proofs.store.each_lawful.Goals as goal

pub returns : goal.returns
returns c =
    lawful_shape c.args.class.now c.indexes-indexes.result.now (record {
      few = subst (λ (n : ℕ). n < max_classes) c.objects-objects.ensures.class c.objects-objects.ensures.few;
      are = c.indexes-indexes.ensures.indexes;
      shapes = c.indexes-indexes.ensures.shapes;
    })
