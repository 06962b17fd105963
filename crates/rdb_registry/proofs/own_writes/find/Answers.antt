-- The write at the place is of the object, or none is.
use Rattle.std.proofs.Common.{sym, ◌∙◌}
use Rattle.rdb_registry.proofs.OwnLemmas.{gap_at, place_at}
use Rattle.rdb_registry.proofs.own_writes.find.Goals as goal

pub returns-then-is_at-clause-ok : goal.returns-then-is_at-clause-ok
returns-then-is_at-clause-ok c = place_at (c.args.class, c.args.id) c.place_of-place.result c.args.writes.now c.requires c.place_of-place.ensures (sym c.is_at.ensures ∙ c.if-is_at.true)

pub returns-else-is_at-clause-err : goal.returns-else-is_at-clause-err
returns-else-is_at-clause-err c = gap_at (c.args.class, c.args.id) c.place_of-place.result c.args.writes.now c.requires c.place_of-place.ensures (sym c.is_at.ensures ∙ c.if-is_at.false)
