-- A writer waits for each open transaction, a reader for each writer's.
use Rattle.rdb_base.specs.declared.identity.Kind.TheVariants as kind
use Rattle.rdb_mursiw.proofs.BarLemmas.{below_found, none_found}
use Rattle.rdb_mursiw.proofs.admission.lowest_in_the_way.Goals as goal

pub returns-in-ReadWrite : goal.returns-in-ReadWrite
returns-in-ReadWrite c =
    rw c.in-ReadWrite.is
    (record {
      found = below_found kind.ReadWrite c.args.registry.now.seats c.lowest_open.result c.lowest_open.ensures;
      none = none_found kind.ReadWrite c.args.registry.now.seats c.lowest_open.result c.lowest_open.ensures;
    })

pub returns-in-ReadOnly : goal.returns-in-ReadOnly
returns-in-ReadOnly c =
    rw c.in-ReadOnly.is
    (record {
      found = below_found kind.ReadOnly c.args.registry.now.seats c.lowest_writer.result c.lowest_writer.ensures;
      none = none_found kind.ReadOnly c.args.registry.now.seats c.lowest_writer.result c.lowest_writer.ensures;
    })
