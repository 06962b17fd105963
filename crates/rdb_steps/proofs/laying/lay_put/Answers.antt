use Rattle.std.proofs.Common.{List, ap, sym, subst, ◌∙◌}
use Rattle.rdb_cells.specs.declared.pairs.Pair.{Pair}
use Rattle.rdb_registry.specs.declared.hand.Hand.{Hand}
use Rattle.rdb_space.specs.Memory.{image_of, class_of}
use Rattle.rdb_store.specs.Shapes.{class_in}
use Rattle.rdb_steps.specs.Laid.{LeadsToPut}
use Rattle.rdb_steps.specs.Making.{row_written}
use Rattle.rdb_steps.proofs.LaidLemmas.{some_of_work}
use Rattle.rdb_steps.proofs.laying.lay_put.Goals as goal

pub returns-clause-leads : goal.returns-clause-leads
returns-clause-leads g c =
    some_of_work c.args.hand.now.work c.work_in.result.now
    (λ work. LeadsToPut (class_in c.args.store.now c.args.new.now.class) (image_of c.args.memory.now) (class_of c.args.memory.now) c.lay_own.new.hand.plan.pairs c.args.new.now c.putting_of-plan.result.0.number (row_written work.op))
    (sym (ap (λ (h : Hand). h.work) c.take_plan-plan.ensures.hand) ∙ c.work_in.ensures)
    (subst (λ (ps : List Pair). LeadsToPut (class_in c.args.store.now c.args.new.now.class) (image_of c.args.memory.now) (class_of c.args.memory.now) ps c.args.new.now c.putting_of-plan.result.0.number (row_written c.work_in.result.now.op))
    (sym (ap (λ (h : Hand). h.plan.pairs) c.lay_own.ensures)) c.putting_of-plan.ensures.leads)
