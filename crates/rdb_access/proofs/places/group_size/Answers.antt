-- The size of one leaf more.
use Rattle.std.proofs.Common.{◌≡◌, ◌+◌, drop, ap, sym, ◌∙◌, arith}
use Rattle.rdb_access.specs.Walk.{after_leaves}
use Rattle.rdb_access.proofs.Placing.{next_leaf}
use Rattle.rdb_access.proofs.places.group_size.Goals as goal

pub loop-at-preserved : goal.loop-at-preserved
loop-at-preserved c xs =
    let sum : c.in-Some-checked_add.sum ≡ c.loop-at.total + c.in-Some.size = omega (arith, c.in-Some-checked_add.ensures) in
    next_leaf c.args.types.now c.loop-at.at c.at.result.now c.loop-at.total c.in-Some.size c.at.ensures c.loop-at.invariant c.in-Some.ensures xs
    ∙ ap (λ n. after_leaves (drop (c.loop-at.at + 1) c.args.types.now) (drop n xs)) (sym sum)
