use Rattle.std.proofs.Common.{◌∷◌}
use Rattle.rdb_literals.proofs.spelled.hex_pair_at.Goals as goal

pub returns-in_err-low-clause-exact : goal.returns-in_err-low-clause-exact
returns-in_err-low-clause-exact c = λ x d rest hx hd small e.
    absurd (c.in_err-low.ensures.exact d rest hd (c.in_ok-high.ensures.exact x (d ∷ rest) hx e).1)
