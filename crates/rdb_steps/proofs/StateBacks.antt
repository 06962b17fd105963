-- What every step keeps of a World's state, as a connection's newest pair is taken back.
use Rattle.std.proofs.Common.{option_map, ◌≡◌, ◌&&◌, ◌==◌, ◌+◌, ℕ, List, [], length, Bool, true, false, not, cond, Option, Some, None, IsSome, IsSomeAnd, is_some, refl, sym, ap, subst, ◌∙◌}
use Rattle.std.proofs.lemmas.Bool.{false≢true}
use Rattle.rdb_base.specs.declared.identity.ConnId.{ConnId}
use Rattle.rdb_base.specs.declared.identity.Kind.TheVariants as kind
use Rattle.rdb_base.specs.declared.identity.Manager.{Manager}
use Rattle.rdb_base.specs.declared.identity.Phase.{Phase}
use Rattle.rdb_base.specs.declared.identity.Phase.TheVariants as phase
use Rattle.rdb_base.specs.declared.journal.Cause.{Cause}
use Rattle.rdb_schema.specs.declared.schema.Schema.{Schema}
use Rattle.rdb_cells.specs.declared.pairs.Pair.{Pair}
use Rattle.rdb_cells.specs.Records.{Record}
use Rattle.rdb_registry.specs.declared.hand.Hand.{Hand}
use Rattle.rdb_registry.specs.declared.seat.Seat.{Seat}
use Rattle.rdb_registry.specs.declared.seat.Transaction.{Transaction}
use Rattle.rdb_registry.specs.Registry.{Roll, IsRoll}
use Rattle.rdb_registry.specs.Seats.{Seats, seat_in, seat_of, IsHeld, with_hand}
use Rattle.rdb_registry.proofs.SlotLemmas.{seat_in_other, some_and_of}
use Rattle.rdb_sight.specs.Versions.{Versions}
use Rattle.rdb_space.specs.Memory.{RegionCells}
use Rattle.rdb_transactions.proofs.EditLemmas.{record_after}
use Rattle.rdb_writes.specs.Grounds.{AreWorks}
use Rattle.rdb_writes.specs.Steps.{TakesNewestBack, spans_one_plan}
use Rattle.rdb_writes.proofs.WorkLemmas.{in_its_slot}
use Rattle.rdb_steps.specs.Invariant.{IsKept}
use Rattle.rdb_steps.specs.Kept.{Agrees, IsLawful, OwnAre, is_rolling_back, takes_back}
use Rattle.rdb_steps.specs.Lists.{taken_over}
use Rattle.rdb_steps.specs.Phases.{IsRollingBack, Rests, RestsIn}
use Rattle.rdb_steps.specs.States.{ground_in}
use Rattle.rdb_steps.specs.Steps.{OnlySeat, WritesOne, aimed_by_taking_back, forgetting_own}
use Rattle.rdb_steps.proofs.BackLemmas.{back_kept, own_back, silent}
use Rattle.rdb_steps.proofs.HandKept.{or_second, turned_by, turned_then}
use Rattle.rdb_steps.proofs.KeptLemmas.{Turns, ArePlaced, holders_turned}
use Rattle.rdb_steps.proofs.ListLemmas.{lists_given_up}
use Rattle.rdb_steps.proofs.ReleaseLemmas.{with_seats, hand_stays}

-- only the own writes are forgotten, and only where nothing is left to take back
pub own_only : (h : Hand) → forgetting_own h ≡ record h { own = (forgetting_own h).own }
own_only h = go (length h.undo.pairs == 0)
  where
    go : (b : Bool) → cond b (record h { own = record { items = []; room = h.own.room + length h.own.items } }) h
        ≡ record h { own = (cond b (record h { own = record { items = []; room = h.own.room + length h.own.items } }) h).own }
    go true = refl
    go false = refl

none_owned : (h : Hand) → h.undo.pairs ≡ [] → (forgetting_own h).own.items ≡ []
none_owned h empty = ap (λ (b : Bool). (cond b (record h { own = record { items = []; room = h.own.room + length h.own.items } }) h).own.items) (ap (λ (ps : List Pair). length ps == 0) empty)

module _ (schema : Schema) (manager : Manager) (serials : ℕ) (ids : List ℕ) (memory memory_now : RegionCells) (roll mid : Roll) (c : ConnId) (lawful : IsLawful schema) (sound : IsRoll roll) (b : TakesNewestBack (ground_in memory roll) (ground_in memory_now mid) c) (works : AreWorks (ground_in memory_now mid)) where
  at : seat_in roll.seats c.slot ≡ Some b.seat
  at = in_its_slot roll.seats c b.seat b.works.held

  placed : ArePlaced roll.seats
  placed i s there = (sound.seated i s there).place

  of_seat : (Q : Seat → Type 0) → IsSomeAnd (seat_of roll.seats c) Q → Q b.seat
  of_seat Q h = subst (λ (o : Option Seat). IsSomeAnd o Q) b.works.held h

  seat_mid : seat_of mid.seats c ≡ Some (record b.seat { hand = b.hand })
  seat_mid = ap (λ (seats : Seats). seat_of seats c) b.works.records ∙ record_after roll.seats c (λ (s : Seat). record s { hand = b.hand }) b.seat (λ s. refl) b.works.held

  pub held_back : IsHeld mid.seats c
  held_back = subst (λ (o : Option Seat). IsSome o) (sym seat_mid) refl

  pub back_one : memory_now.owners ≡ memory.owners → WritesOne memory memory_now
  back_one owners = record { at = b.newest.at.number; elsewhere = λ n ne. b.written.elsewhere n ne; classes = λ n. b.works.classes n; owners = owners }

  turns_mid : Turns roll.seats mid.seats c.slot b.seat (record b.seat { hand = b.hand })
  turns_mid = turned_by roll.seats mid.seats c b.seat (λ (s : Seat). record s { hand = b.hand }) at b.works.records refl refl (λ class held. held)

  -- the hand that was lent is that of the record
  lent : (f : Hand) → IsSomeAnd (seat_of mid.seats c) (λ seat. f ≡ seat.hand) → f ≡ b.hand
  lent f h = subst (λ (o : Option Seat). IsSomeAnd o (λ seat. f ≡ seat.hand)) seat_mid h

  pub rolled_back : (h f : Hand) (settled aimed : Versions) → IsKept schema manager serials ids (ground_in memory roll) settled aimed → spans_one_plan manager ≡ false →
      IsSomeAnd (seat_of roll.seats c) (λ seat. seat.condemned ≡ None) → IsSomeAnd (seat_of roll.seats c) (λ seat. seat.hand.phase ≡ phase.RollingBack) →
      IsSomeAnd (seat_of mid.seats c) (λ seat. h ≡ seat.hand) → f ≡ forgetting_own h →
      IsKept schema manager serials ids (ground_in memory_now (record mid { seats = with_hand mid.seats c.slot f })) settled (aimed_by_taking_back (seat_of roll.seats c) settled aimed)
  rolled_back h f settled aimed kept single live_one rolling_one lent_one forgets =
      subst (λ (vs : Versions). IsKept schema manager serials ids (with_seats (ground_in memory_now mid) (with_hand mid.seats c.slot f)) settled vs)
      (sym (ap (λ (o : Option Seat). aimed_by_taking_back o settled aimed) b.works.held))
      (back_kept schema manager serials ids (ground_in memory roll) (with_seats (ground_in memory_now mid) (with_hand mid.seats c.slot f)) c.slot b.seat (record b.seat { hand = f }) turns settled aimed kept
      tx.0 tx.1.0 tx.1.1 placed agrees own no_plan taking_now rests)
    where
      rolling : b.seat.hand.phase ≡ phase.RollingBack
      rolling = of_seat (λ seat. seat.hand.phase ≡ phase.RollingBack) rolling_one

      r : IsRollingBack manager (length schema.classes) b.seat
      r = subst (λ (p : Phase). RestsIn manager (length schema.classes) b.seat p) rolling (kept.rests c.slot b.seat at)

      tx : (t : Transaction) × ((b.seat.transaction ≡ Some t) × (t.kind ≡ kind.ReadWrite))
      tx = some_and_of (λ (t : Transaction). t.kind ≡ kind.ReadWrite) b.seat.transaction r.writer.0

      taking : takes_back manager b.seat ≡ true
      taking = or_second (is_some b.seat.condemned) _ (λ i. is_rolling_back (rolling i) && not (single i))

      is : h ≡ b.hand
      is = lent h lent_one

      forgets_mid : f ≡ forgetting_own b.hand
      forgets_mid = forgets ∙ ap forgetting_own is

      rest : f ≡ record b.hand { own = f.own }
      rest = forgets_mid ∙ own_only b.hand ∙ ap (λ (x : Hand). record b.hand { own = x.own }) (sym forgets_mid)

      rest_was : (A : Type 0) (field : Hand → A) → field (record b.hand { own = f.own }) ≡ field b.hand → field (record b.seat.hand { undo = b.hand.undo; plan = b.hand.plan }) ≡ field b.seat.hand → field f ≡ field b.seat.hand
      rest_was A field here there = ap field rest ∙ here ∙ ap field b.works.rest ∙ there

      no_plan_mid : b.hand.plan.pairs ≡ []
      no_plan_mid = ap (λ (p : Record). p.pairs) b.plan

      no_plan : f.plan.pairs ≡ []
      no_plan = ap (λ (x : Hand). x.plan.pairs) rest ∙ no_plan_mid

      taking_mid : takes_back manager (record b.seat { hand = b.hand }) ≡ true
      taking_mid = ap (λ (x : Hand). takes_back manager (record b.seat { hand = x })) b.works.rest ∙ taking

      taking_now : takes_back manager (record b.seat { hand = f }) ≡ true
      taking_now = ap (λ (x : Hand). takes_back manager (record b.seat { hand = x })) rest ∙ taking_mid

      turns : Turns roll.seats (with_hand mid.seats c.slot f) c.slot b.seat (record b.seat { hand = f })
      turns = turned_then turns_mid (turned_by mid.seats (with_hand mid.seats c.slot f) c (record b.seat { hand = b.hand }) (λ (s : Seat). record s { hand = f })
          (in_its_slot mid.seats c (record b.seat { hand = b.hand }) seat_mid) refl refl refl (λ class held. held))

      own : OwnAre manager (record b.seat { hand = f }) settled (taken_over b.seat aimed settled)
      own = own_back manager b.seat (record b.seat { hand = f }) refl refl settled aimed (taken_over b.seat aimed settled) (kept.own c.slot b.seat at) taking_now r.writer.1
          (λ many. absurd (false≢true (sym single ∙ many)))
          (λ _ empty. ap (λ (x : Hand). x.own.items) forgets_mid ∙ none_owned b.hand (sym (ap (λ (x : Hand). x.undo.pairs) rest) ∙ empty))

      agrees : Agrees schema manager (with_seats (ground_in memory_now mid) (with_hand mid.seats c.slot f)) settled (taken_over b.seat aimed settled)
      agrees = hand_stays schema manager (ground_in memory_now mid) c (record b.seat { hand = b.hand }) f lawful works (holders_turned roll.seats mid.seats c.slot b.seat (record b.seat { hand = b.hand }) turns_mid kept.one_holder)
          seat_mid (ap (λ (x : Hand). x.undo) rest) (ap (λ (x : Hand). x.plan) rest)
          (silent manager (record b.seat { hand = f }) no_plan taking_now ∙ sym (silent manager (record b.seat { hand = b.hand }) no_plan_mid taking_mid))
          settled (taken_over b.seat aimed settled)
          (lists_given_up schema manager (ground_in memory roll) (ground_in memory_now mid) c lawful kept.one_holder works b taking settled aimed kept.agrees)

      rests : Rests manager (length schema.classes) (record b.seat { hand = f })
      rests =
          subst (λ (p : Phase). RestsIn manager (length schema.classes) (record b.seat { hand = f }) p)
          (sym (rest_was Phase (λ (x : Hand). x.phase) refl refl ∙ rolling))
          (record {
            writer = r.writer;
            work = ap (λ (x : Hand). x.work) rest ∙ ap (λ (x : Hand). x.work) b.works.rest ∙ r.work;
            cause = subst (λ (o : Option Cause). IsSome o) (sym (rest_was (Option Cause) (λ (x : Hand). x.cause) refl refl)) r.cause;
            free = λ live many. absurd (false≢true (sym single ∙ many));
            plan = λ alone live. no_plan;
            all = λ alone live. r.all alone live;
          })

  pub only_back : mid ≡ record roll { seats = mid.seats } → (f : Hand) → OnlySeat roll (record mid { seats = with_hand mid.seats c.slot f }) c
  only_back same f = record {
    others = λ i ne.
        seat_in_other mid.seats c.slot i (option_map (λ (s : Seat). record s { hand = f }) (seat_in mid.seats c.slot)) ne
        ∙ turns_mid.others i ne;
    rest = ap (λ (r : Roll). record r { seats = with_hand mid.seats c.slot f }) same;
  }
