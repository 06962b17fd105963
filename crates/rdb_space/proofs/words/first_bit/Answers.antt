use Rattle.std.proofs.Common.{◌<◌, ◌*◌, ◌%◌, ◌^◌, ℕ, bit_and, refl, arith}
use Rattle.std.proofs.lemmas.Nat.{and_le_r}
use Rattle.rdb_space.proofs.BitLemmas.{none_set, first_set}
use Rattle.rdb_space.proofs.words.first_bit.Goals as goal

pub returns-then-left-eq0-clause-none : goal.returns-then-left-eq0-clause-none
returns-then-left-eq0-clause-none c = λ i low high.
    let mask : ℕ = 18446744073709551615 * 2 ^ c.args.from % 18446744073709551616 in
    none_set c.args.word (bit_and c.args.word mask) c.args.from i refl c.if-left-eq0.true c.requires low high

pub returns-else-left-eq0-clause-found : goal.returns-else-left-eq0-clause-found
returns-else-left-eq0-clause-found c =
    let mask : ℕ = 18446744073709551615 * 2 ^ c.args.from % 18446744073709551616 in
    let some : 0 < bit_and c.args.word mask = omega arith in
    let fits : bit_and c.args.word mask < 2 ^ 64 = omega (arith, and_le_r c.args.word mask) in
    first_set c.args.word (bit_and c.args.word mask) c.args.from refl c.requires some fits
