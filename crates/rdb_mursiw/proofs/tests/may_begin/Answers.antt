-- What is so of the record is so of the connection.
use Rattle.std.proofs.Common.{◌≡◌, ◌+◌, ◌^◌, ◌<◌, None, Option, IsSomeAnd, subst}
use Rattle.std.specs.Bool.{OnTrue}
use Rattle.rdb_registry.specs.declared.seat.Seat.{Seat}
use Rattle.rdb_mursiw.proofs.tests.may_begin.Goals as goal

pub returns-in-Some-clause-closed : goal.returns-in-Some-clause-closed
returns-in-Some-clause-closed c = subst (λ (o : Option Seat). OnTrue c.is_idle.result (IsSomeAnd o (λ (s : Seat). s.transaction ≡ None))) c.in-Some.ensures c.is_idle.ensures.closed

pub returns-in-Some-clause-count : goal.returns-in-Some-clause-count
returns-in-Some-clause-count c = subst (λ (o : Option Seat). OnTrue c.is_idle.result (IsSomeAnd o (λ (s : Seat). s.begun + 1 < 2 ^ 64))) c.in-Some.ensures c.is_idle.ensures.count
