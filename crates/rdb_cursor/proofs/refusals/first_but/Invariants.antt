use Rattle.std.proofs.Common.{◌≡◌, drop}
use Rattle.rdb_cursor.specs.Clashes.{first_but}
use Rattle.rdb_cursor.proofs.refusals.first_but.Given as goal

-- none of the ids so far is it
abbrev pub invariant-loop-id : goal.invariant-loop-id
invariant-loop-id l = first_but l.left_out (drop l.id-index l.ids) ≡ first_but l.left_out l.ids
