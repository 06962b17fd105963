use Rattle.std.proofs.Common.{◌≤◌, ◌+◌, length, arith}
use Rattle.rdb_ddl.proofs.Trivia.{is_none}
use Rattle.rdb_ddl.proofs.token.before_close.Goals as goal

pub returns-clause-value : goal.returns-clause-value
returns-clause-value c =
    let past : length c.args.text.now ≤ c.loop-at.at + 1 = omega arith in
    is_none c.args.text.now c.loop-at.at past c.loop-at.invariant
