use Rattle.rdb_steps.proofs.RoomLemmas.{condemned_rooms}
use Rattle.rdb_steps.proofs.rooms.a_condemnation_keeps_rooms.Goals as goal

pub returns : goal.returns
returns call = condemned_rooms
