use Rattle.rdb_steps.proofs.RoomLemmas.{back_rooms}
use Rattle.rdb_steps.proofs.rooms.a_roll_back_that_begins_keeps_rooms.Goals as goal

pub returns : goal.returns
returns call = back_rooms
