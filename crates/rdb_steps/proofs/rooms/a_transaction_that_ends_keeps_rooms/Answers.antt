use Rattle.rdb_steps.proofs.ExchangeLemmas.{ends_rooms}
use Rattle.rdb_steps.proofs.rooms.a_transaction_that_ends_keeps_rooms.Goals as goal

pub returns : goal.returns
returns call = ends_rooms
