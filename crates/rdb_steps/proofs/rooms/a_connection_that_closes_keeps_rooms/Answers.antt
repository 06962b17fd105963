use Rattle.rdb_steps.proofs.RoomLemmas.{closes_rooms}
use Rattle.rdb_steps.proofs.rooms.a_connection_that_closes_keeps_rooms.Goals as goal

pub returns : goal.returns
returns call = closes_rooms
