-- What every step keeps of a World's state, as a condemned connection's newest pair is taken back.
use Rattle.std.proofs.Common.{◌≡◌, ◌⊎◌, ◌<◌, ◌+◌, ◌==◌, ◌++◌, ◌∷◌, ℕ, List, [], length, Bool, true, false, cond, Option, Some, None, IsSome, IsSomeAnd, is_some, refl, sym, ap, subst, ◌∙◌, arith, eqb-true, inl, inr}
use Rattle.std.proofs.lemmas.Bool.{false≢true}
use Rattle.rdb_base.specs.declared.identity.ConnId.{ConnId}
use Rattle.rdb_base.specs.declared.identity.Kind.TheVariants as kind
use Rattle.rdb_base.specs.declared.identity.Manager.{Manager}
use Rattle.rdb_base.specs.declared.identity.Phase.{Phase}
use Rattle.rdb_base.specs.declared.identity.Phase.TheVariants as phase
use Rattle.rdb_schema.specs.declared.schema.Schema.{Schema}
use Rattle.rdb_cells.specs.declared.pairs.Pair.{Pair}
use Rattle.rdb_cells.specs.Records.{Record}
use Rattle.rdb_cells.proofs.SettledLemmas.{true_or_false}
use Rattle.rdb_registry.specs.declared.hand.Hand.{Hand}
use Rattle.rdb_registry.specs.declared.hand.Work.{Work}
use Rattle.rdb_registry.specs.declared.seat.Condemned.{Condemned}
use Rattle.rdb_registry.specs.declared.seat.Seat.{Seat}
use Rattle.rdb_registry.specs.Registry.{Roll, IsRoll}
use Rattle.rdb_registry.specs.Seats.{Seats, HoldsLatch, seat_in, seat_of, changed, with_hand, with_latches}
use Rattle.rdb_sight.specs.Versions.{Versions}
use Rattle.rdb_space.specs.Memory.{RegionCells}
use Rattle.rdb_transactions.specs.Hands.{given_up, with_undo}
use Rattle.rdb_transactions.specs.Records.{edited, on_hand}
use Rattle.rdb_transactions.proofs.EditLemmas.{alike, of_held, record_after, then_edited, twice}
use Rattle.rdb_writes.specs.Grounds.{AreWorks}
use Rattle.rdb_writes.specs.Steps.{TakesNewestBack, spans_one_plan}
use Rattle.rdb_writes.proofs.PlanLemmas.{longer_by_one}
use Rattle.rdb_writes.proofs.WorkLemmas.{in_its_slot}
use Rattle.rdb_steps.specs.Invariant.{IsKept}
use Rattle.rdb_steps.specs.Kept.{Agrees, IsLawful, OwnAre, aims, is_marked, takes_back}
use Rattle.rdb_steps.specs.Lists.{taken_over}
use Rattle.rdb_steps.specs.Phases.{Rests, RestsIn}
use Rattle.rdb_steps.specs.Repairs.{left, left_hand, repaired}
use Rattle.rdb_steps.specs.States.{ground_in}
use Rattle.rdb_steps.specs.Steps.{aimed_by_taking_back}
use Rattle.rdb_steps.proofs.BackLemmas.{back_kept, own_back, silent}
use Rattle.rdb_steps.proofs.DebtFalls.{left_latches, left_many, left_only, left_own, repaired_is}
use Rattle.rdb_steps.proofs.FreeLemmas.{rests_repaired}
use Rattle.rdb_steps.proofs.HandKept.{or_first, turned_by}
use Rattle.rdb_steps.proofs.KeptLemmas.{Turns, ArePlaced, holders_turned}
use Rattle.rdb_steps.proofs.ListLemmas.{lists_given_up}
use Rattle.rdb_steps.proofs.MixLemmas.{taken_twice}
use Rattle.rdb_steps.proofs.ReleaseLemmas.{with_seats, hand_stays, latches_go, no_latches}
use Rattle.rdb_steps.proofs.RestLemmas.{HasWriter, writer_of}

-- the pairs are one more
pub one_longer : (was now : Record) (p : Pair) → was ≡ record now { pairs = now.pairs ++ p ∷ [] } → length now.pairs + 1 ≡ length was.pairs
one_longer was now p e =
    let more : length was.pairs ≡ length (now.pairs ++ p ∷ []) = ap (λ (r : Record). length r.pairs) e in
    let longer = longer_by_one now.pairs p in
    omega (arith, more, longer)

some_pairs : (ps : List Pair) → 0 < length ps → ps ≡ [] → ⊥
some_pairs ps some none = let no : length ps ≡ 0 = ap length none in omega (arith, some, no)

nothing : (ps : List Pair) → (length ps == 0) ≡ true → ps ≡ []
nothing [] e = refl
nothing (p ∷ ps) e = let none = eqb-true (length (p ∷ ps)) 0 e in absurd (omega (arith, none))

-- who has logged a cell is a writer without a mark
pub logged_writer : (manager : Manager) (classes : ℕ) (seat : Seat) → Rests manager classes seat → 0 < length seat.hand.undo.pairs → HasWriter seat × (is_marked seat ≡ false)
logged_writer manager classes seat rests some = go seat.hand.phase rests
  where
    go : (p : Phase) → RestsIn manager classes seat p → HasWriter seat × (is_marked seat ≡ false)
    go phase.Idle q = absurd (some_pairs seat.hand.undo.pairs some q.rest.undo)
    go (phase.Running kind.ReadOnly) q = absurd (some_pairs seat.hand.undo.pairs some q.rest.undo)
    go (phase.Running kind.ReadWrite) q = (writer_of seat false q.writer, q.writer.1)
    go phase.Writing q = (writer_of seat false q.writer, q.writer.1)
    go phase.RollingBack q = (writer_of seat false q.writer, q.writer.1)
    go phase.Stamping q = absurd (some_pairs seat.hand.undo.pairs some q.undo)
    go phase.Condemned q = absurd q
    go phase.Absent q = absurd q

-- the own writes go with the last pair, where a single writer's undo record spans them
left_none : (manager : Manager) (h : Hand) → spans_one_plan manager ≡ false → h.undo.pairs ≡ [] → (left_hand manager h).own.items ≡ []
left_none manager h single empty =
    ap (λ (b : Bool). (cond b h (cond (length h.undo.pairs == 0) (record h { own = record { items = []; room = h.own.room + length h.own.items } }) h)).own.items) single
    ∙ ap (λ (b : Bool). (cond b (record h { own = record { items = []; room = h.own.room + length h.own.items } }) h).own.items) (ap (λ (ps : List Pair). length ps == 0) empty)

-- latches that are given up or stay
kept_latch : (seat : Seat) (b : Bool) (class : ℕ) → HoldsLatch (record seat { latches = cond b 0 seat.latches }) class → HoldsLatch seat class
kept_latch seat true class has = absurd (no_latches seat class has)
kept_latch seat false class has = has

-- a hand that is left, and then its latches, are one change
pub leave_both : (roll : Roll) (c : ConnId) (manager : Manager) (h now : Hand) (last : Roll) → IsSomeAnd (seat_of roll.seats c) (λ seat. h ≡ seat.hand) → now ≡ left_hand manager h → (length h.undo.pairs == 0) ≡ true →
    last ≡ record roll { seats = changed (with_hand roll.seats c.slot now) c.slot (with_latches 0) } → last ≡ edited roll c.slot (left manager)
leave_both roll c manager h now last lent leaves empty is =
    let found = of_held roll.seats c (λ seat. h ≡ seat.hand) lent in
    let hands : now ≡ left_hand manager found.0.hand = leaves ∙ ap (left_hand manager) found.1.1 in
    let none : (length found.0.hand.undo.pairs == 0) ≡ true = sym (ap (λ (x : Hand). length x.undo.pairs == 0) found.1.1) ∙ empty in
    is ∙ ap (λ (seats : Seats). record roll { seats = seats })
    (twice roll.seats c.slot (λ (s : Seat). record s { hand = now }) (with_latches 0)
    ∙ alike roll.seats c.slot found.0 (λ (s : Seat). record s { hand = now; latches = 0 }) (left manager) (in_its_slot roll.seats c found.0 found.1.0)
    (λ i. record found.0 { hand = hands i; latches = cond (sym none i) 0 found.0.latches }))

module _ (schema : Schema) (manager : Manager) (memory memory_now : RegionCells) (roll mid : Roll) (c : ConnId) (lawful : IsLawful schema) (sound : IsRoll roll) (b : TakesNewestBack (ground_in memory roll) (ground_in memory_now mid) c) (works : AreWorks (ground_in memory_now mid))
    (condemned : IsSome b.seat.condemned) where
  at : seat_in roll.seats c.slot ≡ Some b.seat
  at = in_its_slot roll.seats c b.seat b.works.held

  placed : ArePlaced roll.seats
  placed i s there = (sound.seated i s there).place

  seat_mid : seat_of mid.seats c ≡ Some (record b.seat { hand = b.hand })
  seat_mid = ap (λ (seats : Seats). seat_of seats c) b.works.records ∙ record_after roll.seats c (λ (s : Seat). record s { hand = b.hand }) b.seat (λ s. refl) b.works.held

  turns_mid : Turns roll.seats mid.seats c.slot b.seat (record b.seat { hand = b.hand })
  turns_mid = turned_by roll.seats mid.seats c b.seat (λ (s : Seat). record s { hand = b.hand }) at b.works.records refl refl (λ class has. has)

  -- what is left in hand
  f : Hand
  f = left_hand manager (given_up (with_undo b.hand.undo b.seat.hand))

  rest : f ≡ record (given_up (with_undo b.hand.undo b.seat.hand)) { own = f.own }
  unfolding f
  rest = left_only manager (given_up (with_undo b.hand.undo b.seat.hand))

  undo_is : f.undo ≡ b.hand.undo
  undo_is = ap (λ (x : Hand). x.undo) rest

  plan_is : f.plan ≡ b.hand.plan
  plan_is = ap (λ (x : Hand). x.plan) rest ∙ sym b.plan

  no_plan : f.plan.pairs ≡ []
  no_plan = ap (λ (x : Hand). x.plan.pairs) rest

  no_plan_mid : b.hand.plan.pairs ≡ []
  no_plan_mid = ap (λ (p : Record). p.pairs) b.plan

  taking : (s : Seat) → s.condemned ≡ b.seat.condemned → takes_back manager s ≡ true
  taking s same = or_first (is_some s.condemned) _ (subst (λ (o : Option Condemned). is_some o ≡ true) (sym same) condemned)

  spoken : aims manager (record b.seat { hand = f }) ≡ aims manager (record b.seat { hand = b.hand })
  spoken = silent manager (record b.seat { hand = f }) no_plan (taking (record b.seat { hand = f }) refl) ∙ sym (silent manager (record b.seat { hand = b.hand }) no_plan_mid (taking (record b.seat { hand = b.hand }) refl))

  -- the records afterwards, by one change
  seats_by_hand : with_hand mid.seats c.slot f ≡ with_hand roll.seats c.slot f
  seats_by_hand = ap (λ (seats : Seats). with_hand seats c.slot f) b.works.records ∙ twice roll.seats c.slot (λ (s : Seat). record s { hand = b.hand }) (λ (s : Seat). record s { hand = f })

  seats_then : (e : Bool) → (length b.hand.undo.pairs == 0) ≡ e → cond e (changed (with_hand mid.seats c.slot f) c.slot (with_latches 0)) (with_hand mid.seats c.slot f) ≡ changed roll.seats c.slot (repaired manager b.hand.undo)
  unfolding f
  seats_then true e =
      ap (λ (seats : Seats). changed seats c.slot (with_latches 0)) seats_by_hand
      ∙ twice roll.seats c.slot (λ (s : Seat). record s { hand = f }) (with_latches 0)
      ∙ alike roll.seats c.slot b.seat (λ (s : Seat). record s { hand = f; latches = 0 }) (repaired manager b.hand.undo) at (λ i. record b.seat { hand = f; latches = cond (sym e i) 0 b.seat.latches })
  seats_then false e =
      seats_by_hand
      ∙ alike roll.seats c.slot b.seat (λ (s : Seat). record s { hand = f }) (repaired manager b.hand.undo) at (λ i. record b.seat { hand = f; latches = cond (sym e i) 0 b.seat.latches })

  -- and the registry
  pub registry_is : (given last : Roll) → mid ≡ record roll { seats = mid.seats } → given ≡ edited mid c.slot (on_hand given_up) → last ≡ edited given c.slot (left manager) → last ≡ edited roll c.slot (repaired manager b.hand.undo)
  registry_is given last alone gives leaves =
      then_edited roll given last c.slot (λ (s : Seat). on_hand given_up (record s { hand = b.hand })) (left manager)
      (then_edited roll mid given c.slot (λ (s : Seat). record s { hand = b.hand }) (on_hand given_up) (alone ∙ ap (λ (seats : Seats). record roll { seats = seats }) b.works.records) gives) leaves
      ∙ ap (λ (seats : Seats). record roll { seats = seats })
      (alike roll.seats c.slot b.seat (λ (s : Seat). left manager (on_hand given_up (record s { hand = b.hand }))) (repaired manager b.hand.undo) at
      (ap (λ (x : Hand). left manager (record b.seat { hand = x })) given_same))
    where
      given_same : given_up b.hand ≡ given_up (with_undo b.hand.undo b.seat.hand)
      given_same = ap given_up b.works.rest ∙ (λ i. record b.seat.hand { undo = b.hand.undo; plan = record (b.plan i) { pairs = [] }; work = None })

  pub in_work_same : b.hand.work ≡ b.seat.hand.work
  in_work_same = ap (λ (x : Hand). x.work) b.works.rest

  pub fewer : length b.hand.undo.pairs + 1 ≡ length b.seat.hand.undo.pairs
  fewer = one_longer b.seat.hand.undo b.hand.undo b.newest b.shorter

  turns : Turns roll.seats (changed roll.seats c.slot (repaired manager b.hand.undo)) c.slot b.seat (repaired manager b.hand.undo b.seat)
  turns = turned_by roll.seats (changed roll.seats c.slot (repaired manager b.hand.undo)) c b.seat (repaired manager b.hand.undo) at refl refl refl (λ class has. kept_latch b.seat (length b.hand.undo.pairs == 0) class has)

  module _ (serials : ℕ) (ids : List ℕ) (settled aimed : Versions) (kept : IsKept schema manager serials ids (ground_in memory roll) settled aimed) where
    one_mid : (class i j : ℕ) (x y : Seat) → seat_in mid.seats i ≡ Some x → seat_in mid.seats j ≡ Some y → HoldsLatch x class → HoldsLatch y class → i ≡ j
    one_mid = holders_turned roll.seats mid.seats c.slot b.seat (record b.seat { hand = b.hand }) turns_mid kept.one_holder

    agrees_mid : Agrees schema manager (ground_in memory_now mid) settled (taken_over b.seat aimed settled)
    agrees_mid = lists_given_up schema manager (ground_in memory roll) (ground_in memory_now mid) c lawful kept.one_holder works b (taking b.seat refl) settled aimed kept.agrees

    agrees_then : (e : Bool) → (length b.hand.undo.pairs == 0) ≡ e →
        Agrees schema manager (with_seats (ground_in memory_now mid) (cond e (changed (with_hand mid.seats c.slot f) c.slot (with_latches 0)) (with_hand mid.seats c.slot f))) settled (taken_over b.seat aimed settled)
    agrees_then true e =
        subst (λ (vs : Versions). Agrees schema manager (with_seats (ground_in memory_now mid) (changed (with_hand mid.seats c.slot f) c.slot (with_latches 0))) settled vs) (taken_twice b.seat settled aimed)
        (latches_go schema manager (ground_in memory_now mid) c (record b.seat { hand = b.hand }) f lawful works one_mid seat_mid undo_is plan_is
        (ap (λ (u : Record). u.pairs) undo_is ∙ nothing b.hand.undo.pairs e) no_plan spoken settled (taken_over b.seat aimed settled) agrees_mid)
    agrees_then false e =
        hand_stays schema manager (ground_in memory_now mid) c (record b.seat { hand = b.hand }) f lawful works one_mid seat_mid undo_is plan_is spoken settled (taken_over b.seat aimed settled) agrees_mid

    agrees_now : Agrees schema manager (with_seats (ground_in memory_now mid) (changed roll.seats c.slot (repaired manager b.hand.undo))) settled (taken_over b.seat aimed settled)
    agrees_now =
        subst (λ (seats : Seats). Agrees schema manager (with_seats (ground_in memory_now mid) seats) settled (taken_over b.seat aimed settled)) (seats_then (length b.hand.undo.pairs == 0) refl)
        (agrees_then (length b.hand.undo.pairs == 0) refl)

    writer : HasWriter b.seat × (is_marked b.seat ≡ false)
    writer = logged_writer manager (length schema.classes) b.seat (kept.rests c.slot b.seat at) (let e = fewer in omega (arith, e))

    pub unmarked_back : is_marked b.seat ≡ false
    unmarked_back = writer.1

    own_now : OwnAre manager (repaired manager b.hand.undo b.seat) settled (taken_over b.seat aimed settled)
    own_now =
        own_back manager b.seat (repaired manager b.hand.undo b.seat) refl refl settled aimed (taken_over b.seat aimed settled) (kept.own c.slot b.seat at) (taking (repaired manager b.hand.undo b.seat) refl) writer.1
        (λ many. ap (λ (x : Hand). x.own.items) (left_many manager (given_up (with_undo b.hand.undo b.seat.hand)) many))
        (λ single none. left_none manager (given_up (with_undo b.hand.undo b.seat.hand)) single
        (sym (ap (λ (x : Hand). x.undo.pairs) (left_only manager (given_up (with_undo b.hand.undo b.seat.hand)))) ∙ none))

    rests_now : Rests manager (length schema.classes) (repaired manager b.hand.undo b.seat)
    rests_now =
        subst (λ (x : Seat). Rests manager (length schema.classes) x) (sym (repaired_is manager b.seat b.hand.undo))
        (rests_repaired manager (length schema.classes) b.seat (left_latches manager b.seat b.hand.undo) b.hand.undo (record b.seat.hand.plan { pairs = [] }) (left_own manager b.seat b.hand.undo) condemned refl
        (λ none. absurd (some_pairs b.seat.hand.undo.pairs (let e = fewer in omega (arith, e)) none)) (kept.rests c.slot b.seat at))

    pub kept_repaired : IsKept schema manager serials ids (with_seats (ground_in memory_now mid) (changed roll.seats c.slot (repaired manager b.hand.undo))) settled (aimed_by_taking_back (seat_of roll.seats c) settled aimed)
    kept_repaired =
        subst (λ (vs : Versions). IsKept schema manager serials ids (with_seats (ground_in memory_now mid) (changed roll.seats c.slot (repaired manager b.hand.undo))) settled vs)
        (sym (ap (λ (o : Option Seat). aimed_by_taking_back o settled aimed) b.works.held))
        (back_kept schema manager serials ids (ground_in memory roll) (with_seats (ground_in memory_now mid) (changed roll.seats c.slot (repaired manager b.hand.undo))) c.slot b.seat (repaired manager b.hand.undo b.seat) turns settled aimed kept
        writer.0.transaction writer.0.open_one writer.0.writes placed agrees_now own_now
        (ap (λ (x : Hand). x.plan.pairs) (left_only manager (given_up (with_undo b.hand.undo b.seat.hand)))) (taking (repaired manager b.hand.undo b.seat) refl) rests_now)
