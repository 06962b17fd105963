use Rattle.std.proofs.Common.{◌≡◌, drop, max}
use Rattle.rdb_model.specs.Answer.{longest_prefix}
use Rattle.rdb_model.proofs.lookups.longest_key.Given as goal

-- the longest so far and that of what is left are the longest of all
abbrev pub invariant-loop-row : goal.invariant-loop-row
invariant-loop-row l = max l.longest (longest_prefix l.fields l.text (drop l.row-index l.objects)) ≡ longest_prefix l.fields l.text l.objects
