-- Who took the latch last holds it, or nobody does.
use Rattle.std.proofs.Common.{◌≡◌, ◌<◌, length, Option, Some, None, IsSomeAnd, refl, sym, ap, subst, ◌∙◌}
use Rattle.std.specs.Int.{bit_at}
use Rattle.std.proofs.lemmas.Option.{slice_get_read}
use Rattle.std.proofs.lemmas.Nat.Bits.{shr_and_one}
use Rattle.rdb_registry.specs.declared.seat.Seat.{Seat}
use Rattle.rdb_registry.specs.Registry.{Roll}
use Rattle.rdb_registry.specs.Kept.{seats_of}
use Rattle.rdb_registry.specs.Seats.{seat_in, HoldsLatch, NoneHolds, IsHolder}
use Rattle.rdb_registry.proofs.SlotLemmas.{own_seat}
use Rattle.rdb_registry.proofs.KeptLemmas.{none_holds}
use Rattle.rdb_registry.proofs.registry.Registry.holder.Goals as goal

pub returns-in_err-seat-clause-none : goal.returns-in_err-seat-clause-none
returns-in_err-seat-clause-none c =
    let class : c.args.class < length c.self.inside.takers.items = subst (λ (r : Roll). c.args.class < r.classes) (sym c.self.view_is) c.requires in
    let taker = slice_get_read c.self.inside.takers.items _ c.args.class c.index.result.now refl class c.index.ensures in
    let empty = subst (λ (r : Roll). None ≡ seat_in r.seats c.index.result.now) (sym c.self.view_is) c.in_err-seat.ensures in
    let none = none_holds c.self.invariant c.args.class c.index.result.now taker (λ seat there holds. none_some seat (empty ∙ there)) in
    rw c.from_residual.ensures (subst (λ (r : Roll). NoneHolds r.seats c.args.class) c.self.view_is none)
  where
    none_some : (seat : Seat) → None ≡ Some seat → ⊥
    none_some seat e = cc

pub returns-then-seat-class-eq1-clause-found : goal.returns-then-seat-class-eq1-clause-found
returns-then-seat-class-eq1-clause-found c =
    let there = subst (λ (r : Roll). seat_in r.seats c.index.result.now ≡ Some c.in_ok-seat.seat.now) (sym c.self.view_is) (sym c.in_ok-seat.ensures) in
    let place = (c.self.invariant.seated c.index.result.now c.in_ok-seat.seat.now there).place in
    let own = own_seat (seats_of c.self.inside.slots.items) c.index.result.now c.in_ok-seat.seat.now there place in
    let holds = sym (shr_and_one c.in_ok-seat.seat.now.latches c.args.class) ∙ c.if-seat-class-eq1.true in
    subst (λ (r : Roll). IsHolder r.seats c.args.class c.in_ok-seat.seat.now.conn) c.self.view_is
    (subst (λ (o : Option Seat). IsSomeAnd o (λ (s : Seat). HoldsLatch s c.args.class)) (sym own) holds)

pub returns-else-seat-class-eq1-clause-none : goal.returns-else-seat-class-eq1-clause-none
returns-else-seat-class-eq1-clause-none c =
    let class : c.args.class < length c.self.inside.takers.items = subst (λ (r : Roll). c.args.class < r.classes) (sym c.self.view_is) c.requires in
    let taker = slice_get_read c.self.inside.takers.items _ c.args.class c.index.result.now refl class c.index.ensures in
    let found = subst (λ (r : Roll). Some c.in_ok-seat.seat.now ≡ seat_in r.seats c.index.result.now) (sym c.self.view_is) c.in_ok-seat.ensures in
    let none = none_holds c.self.invariant c.args.class c.index.result.now taker
    (λ seat there holds.
    let same = one_seat c.in_ok-seat.seat.now seat (found ∙ there) in
    c.if-seat-class-eq1.false (shr_and_one c.in_ok-seat.seat.now.latches c.args.class ∙ (ap (λ (s : Seat). bit_at s.latches c.args.class) same ∙ holds))) in
    subst (λ (r : Roll). NoneHolds r.seats c.args.class) c.self.view_is none
  where
    one_seat : (a b : Seat) → Some a ≡ Some b → a ≡ b
    one_seat a b e = cc
