use Rattle.std.proofs.Common.{◌≡◌, ◌<◌, ℕ, Some}
use Rattle.rdb_patricia.specs.Bits.{bit_in}
use Rattle.rdb_patricia.proofs.bits.first_bit.Given as goal

abbrev pub invariant-loop-place : goal.invariant-loop-place
invariant-loop-place l = (n : ℕ) → n < l.place → bit_in (Some l.left) n ≡ bit_in (Some l.right) n
