use Rattle.std.proofs.Common.{◌≡◌, map, take}
use Rattle.rdb_space.specs.Heads.{heads_of}
use Rattle.rdb_space.proofs.heads.Heads.new.Given as goal

abbrev pub invariant-loop-class : goal.invariant-loop-class
invariant-loop-class l = l.classes.items ≡ map heads_of (take l.class-index l.class-items)
