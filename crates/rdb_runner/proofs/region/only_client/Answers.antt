use native.Mathlib.Omega.{arith}
use Rattle.std.proofs.Common.{◌≡◌, List, [], length, ◌∙◌, Bor, ℕ, rules}
use Rattle.rdb_runner.proofs.CommandLemmas.{one_lent}
use Rattle.rdb_runner.proofs.region.only_client.Goals as goal

abbrev nobody : Bor (List ℕ)
nobody = record { ref_ptr = (0, 0); now = [] }

pub returns-in-len1-clause-some : goal.returns-in-len1-clause-some
returns-in-len1-clause-some c =
    let one : length c.args.clients.now ≡ 1 = omega (arith, c.in-len1.len_at_least, c.in-len1.len_below) in
    one_lent c.args.clients.now nobody one ∙ search rules
