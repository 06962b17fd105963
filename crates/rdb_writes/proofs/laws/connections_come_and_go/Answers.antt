use Rattle.rdb_writes.proofs.SeatLemmas.{nobody_works, nobody_settled, come_works, come_settled, go_works, go_settled}
use Rattle.rdb_writes.proofs.laws.connections_come_and_go.Goals as goal

pub returns-clause-none : goal.returns-clause-none
returns-clause-none call = nobody_works

pub returns-clause-none_settled : goal.returns-clause-none_settled
returns-clause-none_settled call = nobody_settled

pub returns-clause-come : goal.returns-clause-come
returns-clause-come call = come_works

pub returns-clause-come_settled : goal.returns-clause-come_settled
returns-clause-come_settled call = come_settled

pub returns-clause-go : goal.returns-clause-go
returns-clause-go call = go_works

pub returns-clause-go_settled : goal.returns-clause-go_settled
returns-clause-go_settled call = go_settled
