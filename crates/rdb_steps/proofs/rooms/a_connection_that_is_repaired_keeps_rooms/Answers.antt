use Rattle.rdb_steps.proofs.ExchangeLemmas.{leaves_rooms}
use Rattle.rdb_steps.proofs.rooms.a_connection_that_is_repaired_keeps_rooms.Goals as goal

pub returns : goal.returns
returns call = leaves_rooms
