-- The record of a connection once a cell of a plan is written, or a pair is taken back.
use Rattle.std.proofs.Common.{◌≡◌, ◌&&◌, ◌==◌, ◌++◌, ◌∷◌, ◌+◌, ℕ, List, [], length, Bool, true, false, cond, Option, Some, None, IsSomeAnd, IfSome, is_some, slice_get, drop, refl, sym, ap, subst, ◌∙◌, arith, inl, inr}
use Rattle.std.proofs.lemmas.Bool.{false≢true, ne_eqb}
use Rattle.rdb_base.specs.declared.identity.ConnId.{ConnId}
use Rattle.rdb_base.specs.declared.identity.Manager.{Manager}
use Rattle.rdb_base.specs.declared.operation.Reply.{Reply}
use Rattle.rdb_cells.specs.declared.pairs.Pair.{Pair}
use Rattle.rdb_cells.specs.Images.{Image}
use Rattle.rdb_cells.specs.Records.{Record, Logs, names}
use Rattle.rdb_cells.proofs.SettledLemmas.{true_or_false}
use Rattle.rdb_registry.specs.declared.hand.Hand.{Hand}
use Rattle.rdb_registry.specs.declared.own_writes.OwnWrite.{OwnWrite}
use Rattle.rdb_registry.specs.declared.seat.Seat.{Seat}
use Rattle.rdb_registry.specs.OwnWrites.{header_of}
use Rattle.rdb_registry.specs.Registry.{Roll}
use Rattle.rdb_registry.specs.Seats.{Seats, seat_of, changed, with_hand, with_latches}
use Rattle.rdb_space.specs.Memory.{RegionCells, image_of}
use Rattle.rdb_transactions.proofs.EditLemmas.{record_after, same_seat}
use Rattle.rdb_writes.specs.Steps.{WritesNext, TakesNewestBack, spans_one_plan, is_written, ends, ended}
use Rattle.rdb_writes.proofs.PlanLemmas.{longer_by_one}
use Rattle.rdb_steps.specs.States.{ground_in}
use Rattle.rdb_steps.specs.Steps.{EndsWork, ForgetsFirst, Finishes, forgetting_own, is_at_last, without_first}
use Rattle.rdb_steps.specs.Written.{TakesPairBack, WritesDrop, WritesPair, WritesWork, is_emptied}

one_more : (ps : List Pair) (p : Pair) → (length (ps ++ p ∷ []) == 1) ≡ (length ps == 0)
one_more [] p = refl
one_more (q ∷ qs) p =
    let longer = longer_by_one qs p in
    ne_eqb (length ((q ∷ qs) ++ p ∷ [])) 1 (λ e. omega (arith, e, longer)) ∙ sym (ne_eqb (length (q ∷ qs)) 0 (λ e. omega (arith, e)))

-- a plan is shorter by the pair that was its last
less_one : (was now : Record) (p : Pair) → was ≡ record now { pairs = now.pairs ++ p ∷ [] } → length now.pairs + 1 ≡ length was.pairs
less_one was now p e =
    let more : length was.pairs ≡ length (now.pairs ++ p ∷ []) = ap (λ (r : Record). length r.pairs) e in
    let longer = longer_by_one now.pairs p in
    omega (arith, more, longer)

-- logging leaves the room
same_room : (was now : Record) (image : Image) (n : ℕ) → Logs was now image n → ◌≡◌ {A = Record} (record now { pairs = [] }) (record was { pairs = [] })
same_room was now image n logs = elim (true_or_false (names was.pairs n)) [
  | inl named ↦ ap (λ (r : Record). record r { pairs = [] }) (logs.again named)
  | inr unnamed ↦ ap (λ (r : Record). record r { pairs = [] }) (logs.first unnamed).3
]

-- the rooms stay
pub rooms_of_pair : (manager : Manager) (before after : RegionCells) (was now : Hand) → WritesPair manager before after was now → (now.plan.room ≡ was.plan.room) × (now.undo.room ≡ was.undo.room)
rooms_of_pair manager before after was now pair = (
  sym (ap (λ (r : Record). r.room) pair.plan),
  elim (true_or_false (is_emptied manager was)) [
    | inl is ↦ ap (λ (r : Record). r.room) (pair.emptied is)
    | inr isnt ↦ ap (λ (r : Record). r.room) (same_room was.undo now.undo (image_of before) pair.next.at.number (pair.logged isnt))
  ],
)

emptied_plan : (b : Bool) (h : Hand) → (cond b (record h { undo = record h.undo { pairs = [] } }) h).plan ≡ h.plan
emptied_plan true h = refl
emptied_plan false h = refl

emptied_work : (b : Bool) (h : Hand) → (cond b (record h { undo = record h.undo { pairs = [] } }) h).work ≡ h.work
emptied_work true h = refl
emptied_work false h = refl

emptied_own : (b : Bool) (h : Hand) → (cond b (record h { undo = record h.undo { pairs = [] } }) h).own ≡ h.own
emptied_own true h = refl
emptied_own false h = refl

module _ (manager : Manager) (memory memory_now : RegionCells) (roll mid : Roll) (c : ConnId) (is_last : Bool) (w : WritesNext manager (ground_in memory roll) (ground_in memory_now mid) c is_last) where
  at_last : is_at_last w.seat.hand ≡ is_written w.written
  at_last = ap (λ (r : Record). length r.pairs == 1) w.planned.plan ∙ one_more w.written.plan.pairs w.next

  as_ends : is_emptied manager w.seat.hand ≡ ends manager w.written
  as_ends = ap (λ (b : Bool). b && spans_one_plan manager) at_last

  pub pair : WritesPair manager memory memory_now w.seat.hand (ended manager w.written)
  pair = record {
    next = w.next;
    plan = w.planned.plan ∙ sym (ap (λ (p : Record). record p { pairs = p.pairs ++ w.next ∷ [] }) (emptied_plan (ends manager w.written) w.written));
    cell = w.planned.written;
    logged = λ not.
        subst (λ (u : Record). Logs w.seat.hand.undo u (image_of memory) w.next.at.number)
        (sym (ap (λ (b : Bool). (cond b (record w.written { undo = record w.written.undo { pairs = [] } }) w.written).undo) (sym as_ends ∙ not)))
        w.planned.logged;
    emptied = λ is.
        ap (λ (b : Bool). (cond b (record w.written { undo = record w.written.undo { pairs = [] } }) w.written).undo) (sym as_ends ∙ is)
        ∙ same_room w.seat.hand.undo w.written.undo (image_of memory) w.next.at.number w.planned.logged;
    rest = w.works.rest;
  }

  pub shorter : length (ended manager w.written).plan.pairs + 1 ≡ length w.seat.hand.plan.pairs
  unfolding pair
  shorter = less_one w.seat.hand.plan (ended manager w.written).plan w.next pair.plan

  pub seat_after : seat_of mid.seats c ≡ Some (record w.seat { hand = ended manager w.written })
  seat_after = ap (λ (seats : Seats). seat_of seats c) w.works.records ∙ record_after roll.seats c (λ (s : Seat). record s { hand = ended manager w.written }) w.seat (λ s. refl) w.works.held

  seat_hand : (f : Hand) → seat_of (with_hand mid.seats c.slot f) c ≡ Some (record w.seat { hand = f })
  seat_hand f = record_after mid.seats c (λ (s : Seat). record s { hand = f }) (record w.seat { hand = ended manager w.written }) (λ s. refl) seat_after

  seat_free : (f : Hand) → seat_of (changed (with_hand mid.seats c.slot f) c.slot (with_latches 0)) c ≡ Some (record w.seat { hand = f; latches = 0 })
  seat_free f = record_after (with_hand mid.seats c.slot f) c (with_latches 0) (record w.seat { hand = f }) (λ s. refl) (seat_hand f)

  seat_released : (f : Hand) (b : Bool) →
      seat_of (cond b (changed (with_hand mid.seats c.slot f) c.slot (with_latches 0)) (with_hand mid.seats c.slot f)) c ≡ Some (record w.seat { hand = f; latches = cond b 0 w.seat.latches })
  seat_released f true = seat_free f
  seat_released f false = seat_hand f

  -- the operation goes on
  pub work_goes_on : WritesWork manager memory memory_now roll.seats mid.seats c None
  work_goes_on = record {
    seat = w.seat;
    now = record w.seat { hand = ended manager w.written };
    written = ended manager w.written;
    held = w.works.held;
    there = seat_after;
    pair = pair;
    becomes = λ none. refl;
    ends = λ some. absurd (false≢true some);
    closer = shorter;
  }

  -- or ends
  pub work_ends : (now : Roll) (reply : Reply) → EndsWork manager mid now c reply → WritesWork manager memory memory_now roll.seats now.seats c (Some reply)
  work_ends now reply e = record {
    seat = w.seat;
    now = record w.seat { hand = e.hand; latches = cond (spans_one_plan manager) 0 w.seat.latches };
    written = ended manager w.written;
    held = w.works.held;
    there = ap (λ (r : Roll). seat_of r.seats c) e.records ∙ seat_released e.hand (spans_one_plan manager);
    pair = pair;
    becomes = λ none. absurd (false≢true (sym (ap is_some none)));
    ends = λ some. record {
      work = e.work;
      version = e.version;
      had = had;
      puts = e.puts;
      finishes = done;
      rest = refl;
    };
    closer = ap (λ (p : Record). length p.pairs + 1) (ap (λ (x : Hand). x.plan) done.rest) ∙ shorter;
  }
    where
      is : e.seat ≡ record w.seat { hand = ended manager w.written }
      is = same_seat mid.seats c e.seat (record w.seat { hand = ended manager w.written }) e.held seat_after

      done : Finishes (ended manager w.written) e.hand e.work e.version
      done = subst (λ (s : Seat). Finishes s.hand e.hand e.work e.version) is e.finishes

      had : w.seat.hand.work ≡ Some e.work
      had = sym (ap (λ (x : Hand). x.work) w.works.rest) ∙ sym (ap (λ (s : Seat). s.hand.work) is) ∙ e.had

  pub work_becomes : (now : Roll) (result : Option Reply) → (result ≡ None → now ≡ mid) → IfSome result (EndsWork manager mid now c) →
      WritesWork manager memory memory_now roll.seats now.seats c result
  work_becomes now None same told = subst (λ (r : Roll). WritesWork manager memory memory_now roll.seats r.seats c None) (sym (same refl)) work_goes_on
  work_becomes now (Some reply) same told = work_ends now reply told

  -- the drop goes on
  pub drop_becomes : is_last ≡ false → WritesDrop manager memory memory_now roll.seats mid.seats c
  drop_becomes on = record {
    seat = w.seat;
    now = record w.seat { hand = ended manager w.written };
    written = ended manager w.written;
    held = w.works.held;
    there = seat_after;
    pair = pair;
    becomes = λ goes. refl;
    ends = λ last. absurd (false≢true (sym on ∙ w.last ∙ sym at_last ∙ last));
    closer = shorter;
  }

  -- or ends
  pub drop_forgets : is_last ≡ true → (now : Roll) → ForgetsFirst mid now c → WritesDrop manager memory memory_now roll.seats now.seats c
  drop_forgets last now e = record {
    seat = w.seat;
    now = record w.seat { hand = e.hand; latches = 0 };
    written = ended manager w.written;
    held = w.works.held;
    there = ap (λ (r : Roll). seat_of r.seats c) e.records ∙ seat_free e.hand;
    pair = pair;
    becomes = λ goes. absurd (false≢true (sym goes ∙ at_last ∙ sym w.last ∙ last));
    ends = λ is_end. record {
      first = e.first;
      was = ap (λ (ws : List OwnWrite). slice_get ws 0) (sym own_same) ∙ e.there;
      left = e.left ∙ ap without_first (ap (λ (s : Seat). s.hand.own) is ∙ ap (λ (x : Hand). x.own) w.works.rest);
      gone = λ object. e.gone object ∙ ap (λ (ws : List OwnWrite). header_of (drop 1 ws) object) own_same;
      rest = ap (λ (x : Hand). record w.seat { hand = x; latches = 0 }) rest_mid;
    };
    closer = ap (λ (p : Record). length p.pairs + 1) (ap (λ (x : Hand). x.plan) rest_mid) ∙ shorter;
  }
    where
      is : e.seat ≡ record w.seat { hand = ended manager w.written }
      is = same_seat mid.seats c e.seat (record w.seat { hand = ended manager w.written }) e.held seat_after

      own_same : e.seat.hand.own.items ≡ w.seat.hand.own.items
      own_same = ap (λ (s : Seat). s.hand.own.items) is ∙ ap (λ (x : Hand). x.own.items) w.works.rest

      rest_mid : e.hand ≡ record (ended manager w.written) { own = e.hand.own }
      rest_mid = e.rest ∙ ap (λ (s : Seat). record s.hand { own = e.hand.own }) is

module _ (memory memory_now : RegionCells) (roll mid : Roll) (c : ConnId) (b : TakesNewestBack (ground_in memory roll) (ground_in memory_now mid) c) where
  pub back_mid : seat_of mid.seats c ≡ Some (record b.seat { hand = b.hand })
  back_mid = ap (λ (seats : Seats). seat_of seats c) b.works.records ∙ record_after roll.seats c (λ (s : Seat). record s { hand = b.hand }) b.seat (λ s. refl) b.works.held

  pub back_becomes : (h f : Hand) → IsSomeAnd (seat_of mid.seats c) (λ seat. h ≡ seat.hand) → f ≡ forgetting_own h →
      TakesPairBack memory memory_now roll.seats (with_hand mid.seats c.slot f) c
  back_becomes h f lent forgets = record {
    seat = b.seat;
    hand = b.hand;
    newest = b.newest;
    held = b.works.held;
    there =
        record_after mid.seats c (λ (s : Seat). record s { hand = f }) (record b.seat { hand = b.hand }) (λ s. refl) back_mid
        ∙ ap (λ (x : Hand). Some (record b.seat { hand = x })) same;
    shorter = b.shorter;
    plan = b.plan;
    rest = b.works.rest;
    cell = b.written;
    closer = less_one b.seat.hand.undo b.hand.undo b.newest b.shorter;
  }
    where
      same : f ≡ forgetting_own b.hand
      same = forgets ∙ ap forgetting_own (subst (λ (o : Option Seat). IsSomeAnd o (λ seat. h ≡ seat.hand)) back_mid lent)
