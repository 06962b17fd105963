use Rattle.std.proofs.Common.{◌≡◌, ◌++◌, ◌-◌, string_bytes}
use Rattle.rdb_script.specs.Job.{rounds}
use Rattle.rdb_script.proofs.job.append_rounds.Given as goal

-- the text so far and the rounds that are left make the whole
abbrev pub invariant-loop-round : goal.invariant-loop-round
invariant-loop-round l = string_bytes l.text ++ rounds (1100 - l._round) ≡ string_bytes l.initial.text ++ rounds 1100
