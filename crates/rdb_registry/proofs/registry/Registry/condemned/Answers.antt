-- The record says what the list says.
use Rattle.std.proofs.Common.{◌≡◌, Some, sym, ap, subst, ◌∙◌}
use Rattle.rdb_registry.specs.Registry.{Roll}
use Rattle.rdb_registry.specs.Seats.{seat_of, condemned_in}
use Rattle.rdb_registry.proofs.KeptLemmas.{condemned_told}
use Rattle.rdb_registry.proofs.registry.Registry.condemned.Goals as goal

pub returns-in-Some : goal.returns-in-Some
returns-in-Some c =
    let own = subst (λ (r : Roll). seat_of r.seats c.args.c ≡ Some c.in-Some.seat.now) (sym c.self.view_is) (sym c.in-Some.ensures) in
    condemned_told c.self.invariant c.args.c c.in-Some.seat.now own ∙ ap (λ (r : Roll). condemned_in r.condemned c.args.c) c.self.view_is
