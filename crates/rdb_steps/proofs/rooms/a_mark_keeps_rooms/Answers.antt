use Rattle.rdb_steps.proofs.RoomLemmas.{marks_rooms}
use Rattle.rdb_steps.proofs.rooms.a_mark_keeps_rooms.Goals as goal

pub returns : goal.returns
returns call = marks_rooms
