use Rattle.std.proofs.Common.{ℕ, Option, Some, None, IfNone, IfSome, MatchOption}
use Rattle.rdb_registry.specs.Seats.{seat_of}
use Rattle.rdb_registry.proofs.SlotLemmas.{some_and_of}
use Rattle.rdb_sight.specs.Versions.{objects_in}
use Rattle.rdb_steps.specs.Planning.{IsDue}
use Rattle.rdb_steps.proofs.ClassHolds.{class_there}
use Rattle.rdb_steps.proofs.DuePlans.{due_aimed, due_holds, floor_is, within}
use Rattle.rdb_steps.proofs.state.State.garbage.Goals as goal

pub first_garbage-requires-clause-class : goal.first_garbage-requires-clause-class
first_garbage-requires-clause-class g c =
    let s = c.args.self.now in
    let k = c.requires.due.0 in
    let d = some_and_of (IsDue c.args.class) (seat_of s.transactions.registry.seats k) c.requires.due.1 in
    class_there s.schema s.store c.args.class c.requires.whole.store (within s k c.args.class c.requires.whole d.0 d.1.0 d.1.1 c.requires.kept.0 c.requires.kept.1 c.requires.kept.2)

pub first_garbage-requires-clause-holds : goal.first_garbage-requires-clause-holds
first_garbage-requires-clause-holds g c =
    let s = c.args.self.now in
    let k = c.requires.due.0 in
    let d = some_and_of (IsDue c.args.class) (seat_of s.transactions.registry.seats k) c.requires.due.1 in
    due_holds s k c.args.class c.requires.whole d.0 d.1.0 d.1.1 c.requires.kept.0 c.requires.kept.1 c.requires.kept.2

pub returns : goal.returns
returns g c =
    let s = c.args.self.now in
    let k = c.requires.due.0 in
    let d = some_and_of (IsDue c.args.class) (seat_of s.transactions.registry.seats k) c.requires.due.1 in
    λ settled aimed kept. (
      c.least_snapshot-floor.result,
      floor_is s.transactions.registry.seats c.least_snapshot-floor.result c.least_snapshot-floor.ensures.none c.least_snapshot-floor.ensures.least,
      c.first_garbage.ensures (objects_in aimed c.args.class) (due_aimed s k c.args.class c.requires.whole d.0 d.1.0 d.1.1 settled aimed kept),
    )
