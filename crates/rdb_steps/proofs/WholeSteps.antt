-- What is so of a World's state beside its cells, as a connection writes the next cell of its plan, or takes a pair back.
use Rattle.std.proofs.Common.{◌≡◌, ◌<◌, ◌-◌, ◌==◌, ◌++◌, ◌∷◌, ℕ, List, [], length, Bool, true, false, cond, Option, Some, None, IsSome, IsSomeAnd, IfSome, refl, sym, ap, subst, ◌∙◌, arith, eqb-true}
use Rattle.std.proofs.lemmas.Bool.{false≢true}
use Rattle.rdb_base.specs.declared.identity.ConnId.{ConnId}
use Rattle.rdb_base.specs.declared.identity.Kind.TheVariants as kind
use Rattle.rdb_base.specs.declared.identity.Phase.{Phase}
use Rattle.rdb_base.specs.declared.identity.Phase.TheVariants as phase
use Rattle.rdb_base.specs.declared.operation.Reply.{Reply}
use Rattle.rdb_cells.specs.declared.pairs.Pair.{Pair}
use Rattle.rdb_cells.specs.Records.{Record}
use Rattle.rdb_registry.specs.declared.hand.Hand.{Hand}
use Rattle.rdb_registry.specs.declared.seat.Seat.{Seat}
use Rattle.rdb_registry.specs.Registry.{Roll}
use Rattle.rdb_registry.specs.Seats.{Seats, changed, seat_of, with_hand, with_latches}
use Rattle.rdb_space.specs.Memory.{RegionCells}
use Rattle.rdb_transactions.specs.Phases.{IsInPhase, IsRollingBack}
use Rattle.rdb_transactions.specs.Records.{edited}
use Rattle.rdb_transactions.specs.Sound.{IsOrderly}
use Rattle.rdb_transactions.proofs.EditLemmas.{same_seat, then_edited}
use Rattle.rdb_transactions.proofs.SoundLemmas.{orderly_of}
use Rattle.rdb_writes.specs.Steps.{TakesNewestBack, WritesNext, ended, ends, spans_one_plan}
use Rattle.rdb_writes.proofs.WorkLemmas.{in_its_slot}
use Rattle.rdb_steps.specs.declared.state.State.{State}
use Rattle.rdb_steps.specs.Kept.{is_dropping}
use Rattle.rdb_steps.specs.States.{IsFurnished, IsWhole, cell_count, ground_in}
use Rattle.rdb_steps.specs.Steps.{EndsWork, Finishes, ForgetsFirst, WritesOne, forgetting_own, reply_to}
use Rattle.rdb_steps.proofs.FollowLemmas.{Follows, done_follows, kept_follows, phase_stays, whole_step}
use Rattle.rdb_steps.proofs.HandKept.{dropping_idle}
use Rattle.rdb_steps.proofs.StateBacks.{own_only}
use Rattle.rdb_steps.proofs.WrittenLemmas.{back_mid, pair, rooms_of_pair, seat_after, shorter}

no_pairs : (ps : List Pair) → (length ps == 0) ≡ true → ps ≡ []
no_pairs [] e = refl
no_pairs (p ∷ ps) e = let none = eqb-true (length (p ∷ ps)) 0 e in absurd (omega (arith, none))

emptied_plan : (b : Bool) (h : Hand) → (cond b (record h { undo = record h.undo { pairs = [] } }) h).plan ≡ h.plan
emptied_plan true h = refl
emptied_plan false h = refl

no_none : {A : Type 0} (o : Option A) → o ≡ None → IsSome o → ⊥
no_none None e some = false≢true some
no_none (Some x) e some = absurd cc

-- a hand, and then maybe the latches, are one change
two_edits : (mid : Roll) (slot : ℕ) (h : Hand) → record mid { seats = changed (with_hand mid.seats slot h) slot (with_latches 0) } ≡ edited mid slot (λ (s : Seat). record s { hand = h; latches = 0 })
two_edits mid slot h =
    then_edited mid (edited mid slot (λ (s : Seat). record s { hand = h })) (edited (edited mid slot (λ (s : Seat). record s { hand = h })) slot (with_latches 0)) slot
    (λ (s : Seat). record s { hand = h }) (with_latches 0) refl refl

released_edits : (mid : Roll) (slot : ℕ) (h : Hand) (b : Bool) → record mid { seats = cond b (changed (with_hand mid.seats slot h) slot (with_latches 0)) (with_hand mid.seats slot h) } ≡
    edited mid slot (λ (s : Seat). record s { hand = h; latches = cond b 0 s.latches })
released_edits mid slot h true = two_edits mid slot h
released_edits mid slot h false = refl

module _ {P : Type 0} (s : State P) (memory_now : RegionCells) (mid : Roll) (c : ConnId) (is_last : Bool) (whole : IsWhole s) (w : WritesNext s.transactions.manager (ground_in s.memory s.transactions.registry) (ground_in memory_now mid) c is_last) (roll : mid ≡ record s.transactions.registry { seats = mid.seats }) (owners : memory_now.owners ≡ s.memory.owners) where
  one : WritesOne s.memory memory_now
  one = record { at = w.next.at.number; elsewhere = λ n ne. w.planned.written.elsewhere n ne; classes = λ n. w.works.classes n; owners = owners }

  edits : mid ≡ edited s.transactions.registry c.slot (λ (x : Seat). record x { hand = ended s.transactions.manager w.written })
  edits = roll ∙ ap (λ (seats : Seats). record s.transactions.registry { seats = seats }) w.works.records

  orderly : IsOrderly (length s.transactions.journal.entries) w.seat
  orderly = orderly_of [] s.transactions c w.seat whole.sound w.works.held

  furnished : IsFurnished s.schema s.transactions.manager (cell_count s.schema s.memory) w.seat
  furnished = whole.furnished c.slot w.seat (in_its_slot s.transactions.registry.seats c w.seat w.works.held)

  rooms : ((ended s.transactions.manager w.written).plan.room ≡ w.seat.hand.plan.room) × ((ended s.transactions.manager w.written).undo.room ≡ w.seat.hand.undo.room)
  rooms = rooms_of_pair s.transactions.manager s.memory memory_now w.seat.hand (ended s.transactions.manager w.written)
      (pair s.transactions.manager s.memory memory_now s.transactions.registry mid c is_last w)

  some : w.seat.hand.plan.pairs ≡ [] → ⊥
  some none =
      let less = shorter s.transactions.manager s.memory memory_now s.transactions.registry mid c is_last w in
      let nothing : length w.seat.hand.plan.pairs ≡ 0 = ap length none in
      omega (arith, less, nothing)

  follows : (o : Hand) (latches : ℕ) → (IsSome w.seat.hand.work → 0 < o.own.room) →
      Follows s.schema s.transactions.manager (cell_count s.schema s.memory) (length s.transactions.journal.entries) w.seat
      (record w.seat { hand = record w.seat.hand { undo = (ended s.transactions.manager w.written).undo; plan = (ended s.transactions.manager w.written).plan; own = o.own }; latches = latches })
  follows o latches own =
      kept_follows s.schema s.transactions.manager (cell_count s.schema s.memory) (length s.transactions.journal.entries) w.seat (ended s.transactions.manager w.written) o latches orderly furnished rooms.0 rooms.1
      (phase_stays s.schema s.transactions.manager (cell_count s.schema s.memory) (length s.transactions.journal.entries) w.seat (ended s.transactions.manager w.written) o latches orderly furnished rooms.0 rooms.1
      w.seat.hand.phase orderly.phase some) own

  -- the plan goes on, or was no operation's own
  pub whole_on : IsWhole (record s { memory = memory_now; transactions = record s.transactions { registry = mid } })
  whole_on = whole_step s memory_now mid c w.seat (λ (x : Seat). record x { hand = ended s.transactions.manager w.written }) whole one w.works.held edits
      (subst (λ (h : Hand). Follows s.schema s.transactions.manager (cell_count s.schema s.memory) (length s.transactions.journal.entries) w.seat (record w.seat { hand = h })) (sym w.works.rest)
      (follows w.seat.hand w.seat.latches furnished.own))

  -- the operation ends
  pub whole_ends : IsSomeAnd (seat_of s.transactions.registry.seats c) (λ seat. seat.hand.phase ≡ phase.Writing) → is_last ≡ true → (now : Roll) (reply : Reply) → EndsWork s.transactions.manager mid now c reply →
      IsWhole (record s { memory = memory_now; transactions = record s.transactions { registry = now } })
  whole_ends writing_one last now reply e =
      whole_step s memory_now now c w.seat (λ (x : Seat). record x { hand = e.hand; latches = cond (spans_one_plan s.transactions.manager) 0 x.latches }) whole one w.works.held
      (then_edited s.transactions.registry mid now c.slot (λ (x : Seat). record x { hand = ended s.transactions.manager w.written })
      (λ (x : Seat). record x { hand = e.hand; latches = cond (spans_one_plan s.transactions.manager) 0 x.latches }) edits (e.records ∙ released_edits mid c.slot e.hand (spans_one_plan s.transactions.manager)))
      (subst (λ (h : Hand). Follows s.schema s.transactions.manager (cell_count s.schema s.memory) (length s.transactions.journal.entries) w.seat
      (record w.seat { hand = h; latches = cond (spans_one_plan s.transactions.manager) 0 w.seat.latches })) (sym hand_is)
      (done_follows s.schema s.transactions.manager (cell_count s.schema s.memory) (length s.transactions.journal.entries) w.seat (ended s.transactions.manager w.written) e.hand
      (cond (spans_one_plan s.transactions.manager) 0 w.seat.latches) orderly furnished rooms.0 rooms.1 writing e.work had empty))
    where
      writing : w.seat.hand.phase ≡ phase.Writing
      writing = subst (λ (o : Option Seat). IsSomeAnd o (λ seat. seat.hand.phase ≡ phase.Writing)) w.works.held writing_one

      is : e.seat ≡ record w.seat { hand = ended s.transactions.manager w.written }
      is = same_seat mid.seats c e.seat (record w.seat { hand = ended s.transactions.manager w.written }) e.held
          (seat_after s.transactions.manager s.memory memory_now s.transactions.registry mid c is_last w)

      done : Finishes (ended s.transactions.manager w.written) e.hand e.work e.version
      done = subst (λ (x : Seat). Finishes x.hand e.hand e.work e.version) is e.finishes

      had : w.seat.hand.work ≡ Some e.work
      had = sym (ap (λ (x : Hand). x.work) w.works.rest) ∙ sym (ap (λ (x : Seat). x.hand.work) is) ∙ e.had

      empty : (ended s.transactions.manager w.written).plan.pairs ≡ []
      empty = ap (λ (r : Record). r.pairs) (emptied_plan (ends s.transactions.manager w.written) w.written) ∙ no_pairs w.written.plan.pairs (sym w.last ∙ last)

      hand_is : e.hand ≡ record w.seat.hand {
        undo = (ended s.transactions.manager w.written).undo;
        plan = (ended s.transactions.manager w.written).plan;
        phase = phase.Running kind.ReadWrite;
        work = None;
        done = record { items = w.seat.hand.done.items ++ (e.work.op, reply_to e.work.op) ∷ []; room = w.seat.hand.done.room - 1 };
        own = e.hand.own;
      }
      hand_is = done.rest ∙ ap (λ (x : Hand). record x {
        phase = phase.Running kind.ReadWrite;
        work = None;
        done = record { items = x.done.items ++ (e.work.op, reply_to e.work.op) ∷ []; room = x.done.room - 1 };
        own = e.hand.own;
      }) w.works.rest

  pub whole_told : IsSomeAnd (seat_of s.transactions.registry.seats c) (λ seat. seat.hand.phase ≡ phase.Writing) → is_last ≡ true → (now : Roll) (result : Option Reply) → (result ≡ None → now ≡ mid) →
      IfSome result (EndsWork s.transactions.manager mid now c) → IsWhole (record s { memory = memory_now; transactions = record s.transactions { registry = now } })
  whole_told writing last now None same told = subst (λ (r : Roll). IsWhole (record s { memory = memory_now; transactions = record s.transactions { registry = r } })) (sym (same refl)) whole_on
  whole_told writing last now (Some reply) same told = whole_ends writing last now reply told

  -- the drop of an own version ends
  pub whole_forgot : IsSomeAnd (seat_of s.transactions.registry.seats c) (λ seat. is_dropping seat.hand ≡ true) → (now : Roll) → ForgetsFirst mid now c →
      IsWhole (record s { memory = memory_now; transactions = record s.transactions { registry = now } })
  whole_forgot drops_one now e =
      whole_step s memory_now now c w.seat (λ (x : Seat). record x { hand = e.hand; latches = 0 }) whole one w.works.held
      (then_edited s.transactions.registry mid now c.slot (λ (x : Seat). record x { hand = ended s.transactions.manager w.written }) (λ (x : Seat). record x { hand = e.hand; latches = 0 }) edits
      (e.records ∙ two_edits mid c.slot e.hand))
      (subst (λ (h : Hand). Follows s.schema s.transactions.manager (cell_count s.schema s.memory) (length s.transactions.journal.entries) w.seat (record w.seat { hand = h; latches = 0 })) (sym hand_is)
      (follows e.hand 0 (λ busy. absurd (no_none w.seat.hand.work (dropping_idle w.seat.hand drops) busy))))
    where
      drops : is_dropping w.seat.hand ≡ true
      drops = subst (λ (o : Option Seat). IsSomeAnd o (λ seat. is_dropping seat.hand ≡ true)) w.works.held drops_one

      is : e.seat ≡ record w.seat { hand = ended s.transactions.manager w.written }
      is = same_seat mid.seats c e.seat (record w.seat { hand = ended s.transactions.manager w.written }) e.held
          (seat_after s.transactions.manager s.memory memory_now s.transactions.registry mid c is_last w)

      hand_is : e.hand ≡ record w.seat.hand { undo = (ended s.transactions.manager w.written).undo; plan = (ended s.transactions.manager w.written).plan; own = e.hand.own }
      hand_is = e.rest ∙ ap (λ (x : Seat). record x.hand { own = e.hand.own }) is ∙ ap (λ (x : Hand). record x { own = e.hand.own }) w.works.rest

-- a pair is taken back
pub whole_back : {P : Type 0} (s : State P) (memory_now : RegionCells) (mid : Roll) (c : ConnId) → IsWhole s → (b : TakesNewestBack (ground_in s.memory s.transactions.registry) (ground_in memory_now mid) c) →
    mid ≡ record s.transactions.registry { seats = mid.seats } → memory_now.owners ≡ s.memory.owners →
    IsSomeAnd (seat_of s.transactions.registry.seats c) (λ seat. seat.hand.phase ≡ phase.RollingBack) → (h f : Hand) → IsSomeAnd (seat_of mid.seats c) (λ seat. h ≡ seat.hand) → f ≡ forgetting_own h →
    IsWhole (record s { memory = memory_now; transactions = record s.transactions { registry = record mid { seats = with_hand mid.seats c.slot f } } })
whole_back s memory_now mid c whole b roll owners rolling_one h f lent forgets =
    whole_step s memory_now (record mid { seats = with_hand mid.seats c.slot f }) c b.seat (λ (x : Seat). record x { hand = f }) whole
    (record { at = b.newest.at.number; elsewhere = λ n ne. b.written.elsewhere n ne; classes = λ n. b.works.classes n; owners = owners }) b.works.held
    (then_edited s.transactions.registry mid (record mid { seats = with_hand mid.seats c.slot f }) c.slot (λ (x : Seat). record x { hand = b.hand }) (λ (x : Seat). record x { hand = f })
    (roll ∙ ap (λ (seats : Seats). record s.transactions.registry { seats = seats }) b.works.records) refl)
    (subst (λ (x : Hand). Follows s.schema s.transactions.manager (cell_count s.schema s.memory) (length s.transactions.journal.entries) b.seat (record b.seat { hand = x })) (sym hand_is)
    (kept_follows s.schema s.transactions.manager (cell_count s.schema s.memory) (length s.transactions.journal.entries) b.seat b.hand (forgetting_own b.hand) b.seat.latches orderly
    (whole.furnished c.slot b.seat (in_its_slot s.transactions.registry.seats c b.seat b.works.held))
    (ap (λ (r : Record). r.room) b.plan) (sym (ap (λ (r : Record). r.room) b.shorter))
    (subst (λ (p : Phase). IsInPhase p (record b.seat { hand = record b.seat.hand { undo = b.hand.undo; plan = b.hand.plan; own = (forgetting_own b.hand).own } })) (sym rolling)
    (record { work = back.work; transaction = back.transaction; cause = back.cause }))
    (λ busy. absurd (no_none b.seat.hand.work back.work busy))))
  where
    rolling : b.seat.hand.phase ≡ phase.RollingBack
    rolling = subst (λ (o : Option Seat). IsSomeAnd o (λ seat. seat.hand.phase ≡ phase.RollingBack)) b.works.held rolling_one

    orderly : IsOrderly (length s.transactions.journal.entries) b.seat
    orderly = orderly_of [] s.transactions c b.seat whole.sound b.works.held

    back : IsRollingBack b.seat
    back = subst (λ (p : Phase). IsInPhase p b.seat) rolling orderly.phase

    hand_is : f ≡ record b.seat.hand { undo = b.hand.undo; plan = b.hand.plan; own = (forgetting_own b.hand).own }
    hand_is =
        forgets ∙ ap forgetting_own (subst (λ (o : Option Seat). IsSomeAnd o (λ seat. h ≡ seat.hand)) (back_mid s.memory memory_now s.transactions.registry mid c b) lent)
        ∙ own_only b.hand ∙ ap (λ (x : Hand). record x { own = (forgetting_own b.hand).own }) b.works.rest
