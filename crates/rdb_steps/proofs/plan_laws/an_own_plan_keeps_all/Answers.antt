use Rattle.rdb_steps.proofs.PlanningLemmas.{put_kept}
use Rattle.rdb_steps.proofs.plan_laws.an_own_plan_keeps_all.Goals as goal

pub returns : goal.returns
returns call = λ schema manager serials serials_now ids ids_now before after c seat settled aimed t was plan op header v class id lawful kept at within same_class of_class of_id laid there by fresh drawn more_ids id_drawn.
    put_kept schema manager serials ids before after c seat settled aimed lawful kept at.held at.phase_is at.live at.no_plan was at.in_work t at.opened serials_now ids_now class id plan op header v within same_class of_class of_id laid there by fresh drawn more_ids id_drawn
