use Rattle.std.proofs.Common.{◌<◌, ◌+◌, take, arith}
use Rattle.rdb_ddl.specs.Token.{decimal}
use Rattle.rdb_ddl.proofs.Trivia.{number_of-past, decimal-next}
use Rattle.rdb_ddl.proofs.token.number_of.Goals as goal

pub returns-then-value-from : goal.returns-then-value-from
returns-then-value-from c =
    let next = decimal-next c.args.digits.now c.loop-digit.digit-index c.loop-digit-test.true in
    let past : 4294967295 < decimal (take (c.loop-digit.digit-index + 1) c.args.digits.now) = omega arith in
    number_of-past c.args.digits.now (c.loop-digit.digit-index + 1) past
