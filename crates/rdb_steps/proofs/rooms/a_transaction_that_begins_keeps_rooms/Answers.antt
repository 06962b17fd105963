use Rattle.rdb_steps.proofs.ExchangeLemmas.{begins_rooms}
use Rattle.rdb_steps.proofs.rooms.a_transaction_that_begins_keeps_rooms.Goals as goal

pub returns : goal.returns
returns call = begins_rooms
