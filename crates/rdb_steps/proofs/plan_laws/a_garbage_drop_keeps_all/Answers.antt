use Rattle.rdb_steps.proofs.PlanningLemmas.{garbage_kept}
use Rattle.rdb_steps.proofs.plan_laws.a_garbage_drop_keeps_all.Goals as goal

pub returns : goal.returns
returns call = λ schema manager serials ids before after c seat settled aimed t was plan newer older v commit class id lawful kept at within of_class unput split done laid.
    garbage_kept schema manager serials ids before after c seat settled aimed lawful kept at.held at.phase_is at.live at.no_plan was at.in_work t at.opened class id plan newer older v commit within of_class unput split done laid
