-- The ones of a whole word, moved down until only so many are left.
use Rattle.std.proofs.Common.{◌≡◌, ◌-◌, ◌^◌, ap, ◌∙◌, arith}
use Rattle.std.proofs.lemmas.Nat.Bits.{ones_shr}
use Rattle.rdb_registry.proofs.latches.all_latches.Goals as goal

pub returns-else-classes-eq0 : goal.returns-else-classes-eq0
returns-else-classes-eq0 c =
    let left : 64 - (64 - c.args.classes) ≡ c.args.classes = omega arith in
    ones_shr 64 (64 - c.args.classes) (omega arith) ∙ ap (λ n. 2 ^ n - 1) left
