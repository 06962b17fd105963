use Rattle.std.proofs.Common.{ap, ◌∙◌}
use Rattle.rdb_objects.specs.Objects.{versions_of}
use Rattle.rdb_store.specs.Putting.{label_over}
use Rattle.rdb_store.proofs.PutSteps.{newest_or}
use Rattle.rdb_store.proofs.plans.label_of.Goals as goal

pub returns : goal.returns
returns g c held slots holds =
    ap (label_over c.args.objects.class c.args.new.now)
    (c.unwrap_or.ensures ∙ newest_or (versions_of held c.args.new.now.id) c.newest_version.result (c.newest_version.ensures held slots holds))
