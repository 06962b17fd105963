use Rattle.rdb_store.specs.Shapes.{class_in}
use Rattle.rdb_store.specs.Stored.{HasHeader}
use Rattle.rdb_sight.specs.Versions.{with_chain}
use Rattle.rdb_steps.proofs.LaidLemmas.{whatever_below, holds_below, led, plan_on}
use Rattle.rdb_steps.proofs.laying.dropping.Goals as goal

pub plan_drop-requires-clause-version : goal.plan_drop-requires-clause-version
plan_drop-requires-clause-version g c =
    whatever_below c.args.memory c.args.plan c.args.class c.over-overlay.result (class_in c.args.store.now c.args.class) (λ objects. HasHeader objects c.args.version.number) c.over-overlay.ensures c.requires.version

pub returns-clause-leads : goal.returns-clause-leads
returns-clause-leads g c = λ objects holds id rest without.
    led c.args.memory c.args.plan c.args.class c.over-overlay.result c.plan_drop.new.cells c.plan.result (class_in c.args.store.now c.args.class) (with_chain objects id rest) c.over-overlay.ensures c.plan_drop.ensures.below.0 c.plan.ensures.reading
    (c.plan_drop.ensures.drops objects (holds_below c.args.memory c.args.plan c.args.class c.over-overlay.result (class_in c.args.store.now c.args.class) objects c.over-overlay.ensures holds) id rest without)

pub returns-clause-plan : goal.returns-clause-plan
returns-clause-plan g c =
    plan_on c.args.memory c.args.plan c.args.class c.over-overlay.result c.plan_drop.new.cells c.plan.result c.over-overlay.ensures c.plan_drop.ensures.below.0 c.requires.room c.plan_drop.ensures.room c.plan.ensures.room c.plan.ensures.once
    c.plan_drop.ensures.own c.plan.ensures.changed c.plan.ensures.cells
