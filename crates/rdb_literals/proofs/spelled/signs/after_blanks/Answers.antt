use Rattle.std.proofs.Common.{[], ◌∷◌, ◌++◌, refl, ap, length, arith}
use Rattle.rdb_literals.proofs.BlankLemmas.{one_more_blank}
use Rattle.rdb_literals.proofs.spelled.signs.after_blanks.Goals as goal

pub loop-behind-init : goal.loop-behind-init
loop-behind-init c = ([], tt, refl)

pub loop-behind-preserved : goal.loop-behind-preserved
loop-behind-preserved c =
    let so_far = c.loop-behind.invariant in
    let found = c.in-Some.ensures.found in
    let more = one_more_blank c.args.text.now so_far.0 c.loop-behind.rest.now c.in-Some.behind.now found.0 so_far.1 so_far.2 found.1 found.2 in
    (so_far.0 ++ found.0 ∷ [], more.0, more.1)

pub loop-behind-smaller : goal.loop-behind-smaller
loop-behind-smaller c = let shorter = ap length c.in-Some.ensures.found.2 in omega arith
