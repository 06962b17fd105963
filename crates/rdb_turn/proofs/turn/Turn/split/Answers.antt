use Rattle.std.proofs.Common.{arith}
use Rattle.rdb_turn.proofs.turn.Turn.split.Goals as goal

pub returns-then-pass-lt2-clause-indivisible : goal.returns-then-pass-lt2-clause-indivisible
returns-then-pass-lt2-clause-indivisible g c = omega (arith, c.requires.pass.shares, c.if-pass-lt2.true)
