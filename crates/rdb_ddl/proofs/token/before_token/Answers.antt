use Rattle.std.proofs.Common.{◌<◌, arith}
use Rattle.rdb_ddl.specs.Token.{after_trivia}
use Rattle.rdb_ddl.proofs.Trivia.{after_trivia-step}
use Rattle.rdb_ddl.proofs.token.before_token.Goals as goal

pub loop-len-preserved : goal.loop-len-preserved
loop-len-preserved c =
    let positive : 0 < c.in-Ok.len = omega arith in
    after_trivia-step c.args.text.now c.split_at.result.1.now c.loop-len.at c.in-Ok.len (after_trivia c.args.text.now) c.split_at.ensures.back c.in-Ok.ensures.value positive c.in-Ok.ensures.bound c.loop-len.invariant.1 c.loop-len.invariant.0
