use Rattle.std.proofs.Common.{string_bytes, ◌++◌}
use Rattle.rdb_script.specs.JobScripts.{transactions}
use Rattle.rdb_script.proofs.JobLemmas.{transaction_more, transactions_all}
use Rattle.rdb_script.proofs.job_script.append_transactions.Goals as goal

pub loop-number-preserved : goal.loop-number-preserved
loop-number-preserved c =
    let drawn = c.next_transaction-transaction.ensures in
    transaction_more (string_bytes c.in_ok-text.text) (string_bytes c.loop-number.text) c.args.client c.loop-number.number c.loop-number.stream.state c.next_transaction-transaction.new.stream.state c.next_transaction-transaction.result
    (string_bytes c.args.text ++ transactions 200 c.args.client 1 c.args.stream.state) c.loop-number-test.true drawn.value drawn.next c.in_ok-text.ensures c.loop-number.invariant

pub returns : goal.returns
returns c = transactions_all (string_bytes c.loop-number.text) c.args.client c.loop-number.number c.loop-number.stream.state (string_bytes c.args.text ++ transactions 200 c.args.client 1 c.args.stream.state) c.loop-number-test.false c.loop-number.invariant
