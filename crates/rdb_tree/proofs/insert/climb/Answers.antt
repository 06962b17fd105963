use Rattle.std.proofs.Common.{List, Some, None, refl, subst, ◌∙◌}
use Rattle.rdb_cells.specs.Work.{work}
use Rattle.rdb_tree.specs.Growth.{IsUnderway}
use Rattle.rdb_tree.specs.declared.path.Step.{Step}
use Rattle.rdb_tree.proofs.ClimbLemmas.{underway_first, climb_node, climb_free, climb_places, climb_step}
use Rattle.rdb_tree.proofs.insert.climb.Goals as goal

pub loop-step-init : goal.loop-step-init
loop-step-init g c = ((λ near whole way. underway_first (work g.C.Cells c.args.cells.now) near c.args.version whole c.args.path.now.items way (record { key = c.args.version; right = record { number = 0 } }) refl), refl, refl)

pub put_into-requires-clause-node : goal.put_into-requires-clause-node
put_into-requires-clause-node g c =
    climb_node (work g.C.Cells c.args.cells.now) c.requires.way.0 c.args.version c.args.path.now.items (work g.C.Cells c.loop-step.cells) c.pop.new.self.items c.in-Some.step c.loop-step.raised c.requires.way.1 c.requires.way.2
    (subst (λ (steps : List Step). IsUnderway (work g.C.Cells c.args.cells.now) (work g.C.Cells c.loop-step.cells) c.requires.way.0 c.args.version c.requires.way.1 steps c.loop-step.raised) c.in-Some.ensures.items (c.loop-step.invariant.0 c.requires.way.0 c.requires.way.1 c.requires.way.2))

pub put_into-requires-clause-free : goal.put_into-requires-clause-free
put_into-requires-clause-free g c =
    climb_free (work g.C.Cells c.args.cells.now) c.requires.way.0 c.args.version c.args.path.now.items (work g.C.Cells c.loop-step.cells) c.pop.new.self.items c.in-Some.step c.loop-step.raised c.requires.way.1 c.requires.way.2
    (subst (λ (steps : List Step). IsUnderway (work g.C.Cells c.args.cells.now) (work g.C.Cells c.loop-step.cells) c.requires.way.0 c.args.version c.requires.way.1 steps c.loop-step.raised) c.in-Some.ensures.items (c.loop-step.invariant.0 c.requires.way.0 c.requires.way.1 c.requires.way.2))
    c.requires.free

pub put_into-requires-clause-places : goal.put_into-requires-clause-places
put_into-requires-clause-places g c =
    climb_places (work g.C.Cells c.args.cells.now) c.requires.way.0 c.args.version c.args.path.now.items (work g.C.Cells c.loop-step.cells) c.pop.new.self.items c.in-Some.step c.loop-step.raised c.requires.way.1 c.requires.way.2
    (subst (λ (steps : List Step). IsUnderway (work g.C.Cells c.args.cells.now) (work g.C.Cells c.loop-step.cells) c.requires.way.0 c.args.version c.requires.way.1 steps c.loop-step.raised) c.in-Some.ensures.items (c.loop-step.invariant.0 c.requires.way.0 c.requires.way.1 c.requires.way.2))
    c.requires.places

pub loop-step-preserved : goal.loop-step-preserved
loop-step-preserved g c = (
  (λ near whole way. climb_step (work g.C.Cells c.args.cells.now) near c.args.version c.args.path.now.items (work g.C.Cells c.loop-step.cells) c.pop.new.self.items c.in-Some.step c.loop-step.raised whole way
      (subst (λ (steps : List Step). IsUnderway (work g.C.Cells c.args.cells.now) (work g.C.Cells c.loop-step.cells) near c.args.version whole steps c.loop-step.raised) c.in-Some.ensures.items (c.loop-step.invariant.0 near whole way))
      (work g.C.Cells c.put_into.new.cells) (Some c.in-Some-put_into.higher) c.in-Some-put_into.ensures.work),
  c.put_into.ensures.below.0 ∙ c.loop-step.invariant.1,
  c.put_into.ensures.below.1 ∙ c.loop-step.invariant.2,
)

pub returns-in-None-clause-climbs : goal.returns-in-None-clause-climbs
returns-in-None-clause-climbs g c = λ near whole way.
    climb_step (work g.C.Cells c.args.cells.now) near c.args.version c.args.path.now.items (work g.C.Cells c.loop-step.cells) c.pop.new.self.items c.in-Some.step c.loop-step.raised whole way
    (subst (λ (steps : List Step). IsUnderway (work g.C.Cells c.args.cells.now) (work g.C.Cells c.loop-step.cells) near c.args.version whole steps c.loop-step.raised) c.in-Some.ensures.items (c.loop-step.invariant.0 near whole way))
    (work g.C.Cells c.put_into.new.cells) None c.in-None.ensures.work
