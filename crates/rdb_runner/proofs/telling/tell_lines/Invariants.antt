use Rattle.std.proofs.Common.{take}
use Rattle.std.specs.List.{concat}
use Rattle.rdb_runner.specs.Telling.{Writes, ink_of}
use Rattle.rdb_runner.proofs.telling.tell_lines.Given as goal

-- the lines so far are written
abbrev pub invariant-loop-line : goal.invariant-loop-line
invariant-loop-line g l = Writes (ink_of g.K.Sink.written g.K.Sink.faults l.fn.out l.out) (concat (take l.line-index l.lines))
