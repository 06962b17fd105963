use Rattle.rdb_rows.proofs.SayingLemmas.{said_is, said_row, said_none}
use Rattle.rdb_rows.proofs.laws.keys_say_what_versions_hold.Goals as goal

pub returns-clause-said : goal.returns-clause-said
returns-clause-said c shape image at v cells holds = said_is shape image at v cells holds

pub returns-clause-rows : goal.returns-clause-rows
returns-clause-rows c shape v row bytes is encodes = said_row shape v row bytes is encodes

pub returns-clause-tombstones : goal.returns-clause-tombstones
returns-clause-tombstones c shape v is = said_none shape v is
