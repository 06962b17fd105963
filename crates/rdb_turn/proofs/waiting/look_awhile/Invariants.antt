use Rattle.std.proofs.Common.{◌≡◌}
use Rattle.rdb_turn.proofs.waiting.look_awhile.Given as goal

-- nothing that the pass knows has changed
abbrev pub invariant-loop : goal.invariant-loop
invariant-loop g l = (l.place.me ≡ l.initial.place.me) × (l.place.table_id ≡ l.initial.place.table_id) × (l.place.id ≡ l.initial.place.id)
