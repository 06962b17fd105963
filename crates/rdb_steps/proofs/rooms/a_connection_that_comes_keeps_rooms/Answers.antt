use Rattle.rdb_steps.proofs.RoomLemmas.{comes_rooms}
use Rattle.rdb_steps.proofs.rooms.a_connection_that_comes_keeps_rooms.Goals as goal

pub returns : goal.returns
returns call = comes_rooms
