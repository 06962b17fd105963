use Rattle.std.proofs.Common.{◌≡◌, ◌++◌, ◌-◌, string_bytes}
use Rattle.rdb_script.specs.JobScripts.{transactions}
use Rattle.rdb_script.proofs.job_script.append_transactions.Given as goal

-- the text so far and the transactions that are left make the whole
abbrev pub invariant-loop-number : goal.invariant-loop-number
invariant-loop-number l =
    string_bytes l.text ++ transactions (201 - l.number) l.client l.number l.stream.state
    ≡ string_bytes l.initial.text ++ transactions 200 l.client 1 l.initial.stream.state
