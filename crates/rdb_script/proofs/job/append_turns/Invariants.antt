use Rattle.std.proofs.Common.{◌≡◌, ◌++◌, ◌-◌, string_bytes}
use Rattle.rdb_script.specs.Job.{turns}
use Rattle.rdb_script.proofs.job.append_turns.Given as goal

-- the text so far and the turns that are left make the whole
abbrev pub invariant-loop-turn : goal.invariant-loop-turn
invariant-loop-turn l = string_bytes l.text ++ turns (4000 - l._turn) l.stream.state ≡ string_bytes l.initial.text ++ turns 4000 l.initial.stream.state
