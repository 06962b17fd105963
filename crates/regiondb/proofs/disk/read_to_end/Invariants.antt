use Rattle.std.proofs.Common.{◌≤◌, length}
use Rattle.regiondb.proofs.disk.read_to_end.Given as goal

-- what was read is within the budget
abbrev pub invariant-loop : goal.invariant-loop
invariant-loop g l = length l.bytes ≤ l.fn.budget
