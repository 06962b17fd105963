-- A connection comes: what is kept of a World.
use Rattle.std.proofs.Common.{◌≡◌, ◌<◌, ℕ, zero, suc, List, [], ◌∷◌, length, Bool, true, false, Result, Ok, Err, IfOk, OnErr, Option, Some, None, is_none, get_or, refl, sym, ap, subst, ◌∙◌, arith}
use Rattle.std.proofs.lemmas.Bool.{false≢true}
use Rattle.std.proofs.lemmas.List.Quantifiers.{position-Some}
use Rattle.rdb_base.specs.declared.identity.ConnId.{ConnId}
use Rattle.rdb_registry.specs.declared.fault.ConnectFault.{ConnectFault}
use Rattle.rdb_registry.specs.declared.seat.Seat.{Seat}
use Rattle.rdb_registry.specs.Registry.{Roll}
use Rattle.rdb_registry.specs.Seats.{Seats, seat_in}
use Rattle.rdb_sight.specs.Versions.{Versions}
use Rattle.rdb_transactions.specs.declared.transactions.Transactions.{Transactions}
use Rattle.rdb_transactions.specs.Moves.{Comes, IsSame}
use Rattle.rdb_transactions.specs.Sound.{IsSound}
use Rattle.rdb_steps.specs.declared.state.State.{State}
use Rattle.rdb_steps.specs.States.{IsWhole, Keeps, ground_in}
use Rattle.rdb_steps.proofs.IdleLemmas.{comes_kept}
use Rattle.rdb_steps.proofs.RoomLemmas.{comes_rooms}
use Rattle.rdb_core.proofs.MovedLemmas.{kept_same, kept_under, rooms_same, whole_moved}

get_is : (seats : Seats) (slot : ℕ) → slot < length seats → get_or seats slot None ≡ seat_in seats slot
get_is [] slot within = absurd (omega (arith, within))
get_is (o ∷ os) zero within = refl
get_is (o ∷ os) (suc slot) within = get_is os slot (omega (arith, within))

none_is : (o : Option Seat) → is_none o ≡ true → o ≡ None
none_is None e = refl
none_is (Some s) e = absurd (false≢true e)

-- the slot that it takes was free
free_before : (t u : Transactions) (c : ConnId) → Comes t u c → seat_in t.registry.seats c.slot ≡ None
free_before t u c comes =
    let facts = position-Some is_none t.registry.seats c.slot None comes.registry.slot in
    sym (get_is t.registry.seats c.slot facts.0) ∙ none_is (get_or t.registry.seats c.slot None) facts.1

module _ {P : Type 0} (s : State P) (u : Transactions) (whole : IsWhole s) where
  came_kept : (c : ConnId) → Comes s.transactions u c → (settled aimed : Versions) → Keeps s settled aimed → Keeps (record s { transactions = u }) settled aimed
  came_kept c comes settled aimed keeps =
      let t = s.transactions in
      let new = comes.registry.seat.1 in
      kept_under s u settled aimed comes.manager
      (comes_kept s.schema t.manager (ground_in s.memory t.registry) (ground_in s.memory u.registry) c comes.registry.seat.0 whole.lawful
      (record {
        cells = record { image = λ n. refl; classes = λ n. refl };
        free = free_before t u c comes;
        records = ap (λ (r : Roll). r.seats) comes.registry.seat.2;
        undo = new.hand.clear.undo;
        plan = new.hand.clear.plan;
      })
      new s.counters.serials s.counters.ids.items settled aimed keeps)

  pub connect_kept : (r : Result ConnId ConnectFault) → IfOk r (Comes s.transactions u) → OnErr r (IsSame s.transactions u) → (settled aimed : Versions) → Keeps s settled aimed →
      Keeps (record s { transactions = u }) settled aimed
  connect_kept (Ok c) came same settled aimed keeps = came_kept c came settled aimed keeps
  connect_kept (Err fault) came same settled aimed keeps = kept_same s u same settled aimed keeps

  pub connect_whole : (r : Result ConnId ConnectFault) → IfOk r (Comes s.transactions u) → OnErr r (IsSame s.transactions u) → IsSound u → IsWhole (record s { transactions = u })
  connect_whole (Ok c) came same sound = whole_moved s u whole (ap (λ (r : Roll). r.classes) came.registry.seat.2) sound (comes_rooms s.transactions u c came)
  connect_whole (Err fault) came same sound = whole_moved s u whole (ap (λ (r : Roll). r.classes) same.registry) sound (rooms_same s.transactions u same)
