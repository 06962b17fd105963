use Rattle.std.proofs.Common.{refl}
use Rattle.rdb_steps.proofs.DroppingLemmas.{own_drop_kept}
use Rattle.rdb_steps.proofs.plan_laws.an_own_drop_keeps_all.Goals as goal

pub returns : goal.returns
returns call = λ schema manager serials ids before middle after c seat settled aimed t first rest plan lawful kept spans at within free takes one_middle held_middle laid.
    own_drop_kept schema manager serials ids before middle after c seat settled aimed lawful kept at.held spans at.unmarked t at.opened at.writes at.no_plan at.no_pair at.no_latch at.rolls first.class first.id first rest at.own_is at.ordered refl refl within free takes one_middle held_middle plan laid
