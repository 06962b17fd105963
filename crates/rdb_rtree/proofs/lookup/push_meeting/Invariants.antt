use Rattle.std.proofs.Common.{◌≡◌, ◌++◌, drop}
use Rattle.rdb_rtree.specs.Lookups.{matching}
use Rattle.rdb_rtree.proofs.lookup.push_meeting.Given as goal

abbrev pub invariant-loop-place : goal.invariant-loop-place
invariant-loop-place l = l.refs ++ matching l.rect l.inside (drop l.place l.entries) ≡ l.initial.refs ++ matching l.rect l.inside l.entries
