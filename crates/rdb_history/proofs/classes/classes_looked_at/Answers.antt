use Rattle.std.proofs.Common.{◌^◌, ◌%◌, ap, ◌∙◌}
use Rattle.rdb_history.proofs.ClassLemmas.{looks_more}
use Rattle.rdb_history.proofs.classes.classes_looked_at.Goals as goal

pub loop-place-preserved : goal.loop-place-preserved
loop-place-preserved c =
    looks_more c.loop-place.classes c.class_set-classes.result c.loop-place.place c.args.done.now c.at.result.now c.at.ensures
    (c.class_set-classes.ensures ∙ ap (λ n. 2 ^ (n % 64)) c.class.ensures) c.loop-place.invariant
