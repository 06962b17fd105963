use Rattle.std.proofs.Common.{ℕ, List, Option, sym, subst}
use Rattle.rdb_base.specs.declared.operation.Op.{Op}
use Rattle.rdb_base.specs.declared.value.Value.{Value}
use Rattle.rdb_schema.specs.Encodes.{Encodes}
use Rattle.rdb_space.specs.Memory.{image_of, class_of}
use Rattle.rdb_store.specs.Shapes.{class_in}
use Rattle.rdb_steps.specs.Laid.{LeadsToPut}
use Rattle.rdb_steps.specs.Making.{row_written}
use Rattle.rdb_steps.proofs.LaidLemmas.{spelled}
use Rattle.rdb_steps.proofs.laying.putting_of.Goals as goal

pub returns-in-Del-clause-leads : goal.returns-in-Del-clause-leads
returns-in-Del-clause-leads g c =
    subst (λ (o : Op). LeadsToPut (class_in c.args.store.now c.args.new.now.class) (image_of c.args.memory.now) (class_of c.args.memory.now) c.putting_tombstone.result.1.pairs c.args.new.now c.putting_tombstone.result.0.number (row_written o))
    (sym c.in-Del.is) c.putting_tombstone.ensures.leads

pub returns-in_default : goal.returns-in_default
returns-in_default g c =
    let row = spelled (class_in c.args.store.now c.args.new.now.class).types c.args.work.now.op c.args.work.now.bytes c.requires.write c.in_default.not-Del c.requires.row in
    record {
      leads =
          subst (λ (r : Option (List Value)). LeadsToPut (class_in c.args.store.now c.args.new.now.class) (image_of c.args.memory.now) (class_of c.args.memory.now) c.putting_row.result.1.pairs c.args.new.now c.putting_row.result.0.number r)
          (sym row.1) (c.putting_row.ensures.leads row.0 (subst (λ (bytes : List ℕ). Encodes (class_in c.args.store.now c.args.new.now.class).types row.0 bytes) (sym c.as_slice.ensures) row.2));
      plan = c.putting_row.ensures.plan;
    }
