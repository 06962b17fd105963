use Rattle.std.proofs.Common.{sym, ◌∙◌}
use Rattle.rdb_rtree.proofs.tests.box_key.Goals as goal

pub returns : goal.returns
returns g c = record { own = c.in-Some.rect; is = sym c.box_in.ensures ∙ c.in-Some.is; proper = c.proper.ensures }
