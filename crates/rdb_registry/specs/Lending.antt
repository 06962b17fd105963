-- What a registry lends.
use Rattle.std.specs.Prelude.{ℕ}
use Rattle.std.specs.Borrow.{Lends, MutBor, Fml}
use Rattle.rdb_registry.specs.declared.hand.Hand.{Hand}
use Rattle.rdb_registry.specs.Seats.{with_hand}
use Rattle.rdb_registry.specs.Registry.{Roll}
use Rattle.rdb_registry.specs.contracts.registry.Registry.{the_row}
use Rattle.rdb_registry.specs.contracts.hand.Hand as hand

-- the registry ends with the last hand in the record of the slot, and all else as it was
abbrev pub LendsHand : MutBor Roll → ℕ → MutBor Hand → Fml
LendsHand s slot r = Lends the_row hand.the_row s r (λ h. record s.now { seats = with_hand s.now.seats slot h })
