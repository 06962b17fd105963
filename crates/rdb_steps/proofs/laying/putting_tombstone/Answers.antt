use Rattle.std.proofs.Common.{◌≡◌, ◌≢◌, [], ◌∷◌, None}
use Rattle.rdb_sight.specs.Versions.{chain_of, with_chain}
use Rattle.rdb_store.specs.Chains.{CanReplace, IsNewSerial}
use Rattle.rdb_store.specs.Plans.{made_at}
use Rattle.rdb_store.specs.Shapes.{class_in}
use Rattle.rdb_steps.proofs.LaidLemmas.{whatever_below, holds_below, led, plan_on}
use Rattle.rdb_steps.proofs.laying.putting_tombstone.Goals as goal

pub plan_tombstone-version-requires-clause-object :
    goal.plan_tombstone-version-requires-clause-object
plan_tombstone-version-requires-clause-object g c =
    whatever_below c.args.memory c.args.plan c.args.new.now.class c.over-overlay.result (class_in c.args.store.now c.args.new.now.class) (λ objects. chain_of objects c.args.new.now.id ≢ []) c.over-overlay.ensures c.requires.object

pub plan_tombstone-version-requires-clause-serial :
    goal.plan_tombstone-version-requires-clause-serial
plan_tombstone-version-requires-clause-serial g c =
    whatever_below c.args.memory c.args.plan c.args.new.now.class c.over-overlay.result (class_in c.args.store.now c.args.new.now.class) (IsNewSerial c.args.new.now.serial) c.over-overlay.ensures c.requires.serial

pub plan_tombstone-version-requires-clause-replaces :
    goal.plan_tombstone-version-requires-clause-replaces
plan_tombstone-version-requires-clause-replaces g c =
    whatever_below c.args.memory c.args.plan c.args.new.now.class c.over-overlay.result (class_in c.args.store.now c.args.new.now.class) (λ objects. CanReplace c.args.new.now.replaces (chain_of objects c.args.new.now.id)) c.over-overlay.ensures c.requires.replaces

pub returns-clause-leads : goal.returns-clause-leads
returns-clause-leads g c = λ objects holds rest left.
    led c.args.memory c.args.plan c.args.new.now.class c.over-overlay.result c.plan_tombstone-version.new.cells c.plan.result (class_in c.args.store.now c.args.new.now.class)
    (with_chain objects c.args.new.now.id (made_at c.plan_tombstone-version.result.number c.args.new.now None ∷ rest)) c.over-overlay.ensures c.plan_tombstone-version.ensures.below.0 c.plan.ensures.reading
    (c.plan_tombstone-version.ensures.puts objects (holds_below c.args.memory c.args.plan c.args.new.now.class c.over-overlay.result (class_in c.args.store.now c.args.new.now.class) objects c.over-overlay.ensures holds) rest left)

pub returns-clause-plan : goal.returns-clause-plan
returns-clause-plan g c =
    plan_on c.args.memory c.args.plan c.args.new.now.class c.over-overlay.result c.plan_tombstone-version.new.cells c.plan.result c.over-overlay.ensures c.plan_tombstone-version.ensures.below.0 c.requires.room c.plan_tombstone-version.ensures.room c.plan.ensures.room c.plan.ensures.once
    c.plan_tombstone-version.ensures.own c.plan.ensures.changed c.plan.ensures.cells
