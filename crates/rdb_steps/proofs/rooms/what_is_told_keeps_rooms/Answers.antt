use Rattle.rdb_steps.proofs.RoomLemmas.{told_rooms}
use Rattle.rdb_steps.proofs.rooms.what_is_told_keeps_rooms.Goals as goal

pub returns : goal.returns
returns call = told_rooms
