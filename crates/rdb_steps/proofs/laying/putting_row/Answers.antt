use Rattle.std.proofs.Common.{◌∷◌, Some}
use Rattle.rdb_sight.specs.Versions.{chain_of, with_chain}
use Rattle.rdb_store.specs.Chains.{CanReplace, IsNewSerial}
use Rattle.rdb_store.specs.Plans.{made_at}
use Rattle.rdb_store.specs.Shapes.{class_in}
use Rattle.rdb_steps.proofs.LaidLemmas.{whatever_below, holds_below, led, plan_on}
use Rattle.rdb_steps.proofs.laying.putting_row.Goals as goal

pub plan_put-version-requires-clause-serial :
    goal.plan_put-version-requires-clause-serial
plan_put-version-requires-clause-serial g c =
    whatever_below c.args.memory c.args.plan c.args.new.now.class c.over-overlay.result (class_in c.args.store.now c.args.new.now.class) (IsNewSerial c.args.new.now.serial) c.over-overlay.ensures c.requires.serial

pub plan_put-version-requires-clause-replaces :
    goal.plan_put-version-requires-clause-replaces
plan_put-version-requires-clause-replaces g c =
    whatever_below c.args.memory c.args.plan c.args.new.now.class c.over-overlay.result (class_in c.args.store.now c.args.new.now.class) (λ objects. CanReplace c.args.new.now.replaces (chain_of objects c.args.new.now.id)) c.over-overlay.ensures c.requires.replaces

pub returns-clause-leads : goal.returns-clause-leads
returns-clause-leads g c = λ row encodes objects holds rest left.
    led c.args.memory c.args.plan c.args.new.now.class c.over-overlay.result c.plan_put-version.new.cells c.plan.result (class_in c.args.store.now c.args.new.now.class)
    (with_chain objects c.args.new.now.id (made_at c.plan_put-version.result.number c.args.new.now (Some row) ∷ rest)) c.over-overlay.ensures c.plan_put-version.ensures.below.0 c.plan.ensures.reading
    (c.plan_put-version.ensures.puts row encodes objects (holds_below c.args.memory c.args.plan c.args.new.now.class c.over-overlay.result (class_in c.args.store.now c.args.new.now.class) objects c.over-overlay.ensures holds) rest left)

pub returns-clause-plan : goal.returns-clause-plan
returns-clause-plan g c =
    plan_on c.args.memory c.args.plan c.args.new.now.class c.over-overlay.result c.plan_put-version.new.cells c.plan.result c.over-overlay.ensures c.plan_put-version.ensures.below.0 c.requires.room c.plan_put-version.ensures.room c.plan.ensures.room c.plan.ensures.once
    c.plan_put-version.ensures.own c.plan.ensures.changed c.plan.ensures.cells
