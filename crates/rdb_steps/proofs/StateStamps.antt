-- What every step keeps of a World's state, as the first own version of a marked transaction gets its stamp.
use Rattle.std.proofs.Common.{◌≡◌, ◌≢◌, ◌<◌, ◌∷◌, ℕ, List, [], length, drop, Bool, true, false, Option, Some, None, IsSome, IsSomeAnd, IfSome, is_some, option_and_then, slice_get, cond, find, option_map, refl, sym, ap, subst, ◌∙◌, arith}
use Rattle.std.proofs.lemmas.Bool.{false≢true}
use Rattle.std.proofs.lemmas.Nat.Bits.{bit_at-zero}
use Rattle.std.specs.Int.{bit_at}
use Rattle.rdb_base.specs.declared.identity.ConnId.{ConnId}
use Rattle.rdb_base.specs.declared.identity.Kind.TheVariants as kind
use Rattle.rdb_base.specs.declared.identity.Manager.{Manager}
use Rattle.rdb_base.specs.declared.identity.Phase.{Phase}
use Rattle.rdb_base.specs.declared.identity.Phase.TheVariants as phase
use Rattle.rdb_base.specs.declared.identity.Stamp.TheVariants as stamp
use Rattle.rdb_pages.specs.declared.cell.Cell.{Cell}
use Rattle.rdb_schema.specs.declared.schema.Schema.{Schema}
use Rattle.rdb_cells.specs.Images.{Image, IsCell, Writes}
use Rattle.rdb_registry.specs.declared.hand.Hand.{Hand}
use Rattle.rdb_registry.specs.declared.own_writes.OwnWrite.{OwnWrite}
use Rattle.rdb_registry.specs.declared.seat.Seat.{Seat}
use Rattle.rdb_registry.specs.declared.seat.Transaction.{Transaction}
use Rattle.rdb_registry.specs.OwnWrites.{AreOrdered, header_of, is_of}
use Rattle.rdb_registry.specs.Registry.{Roll, IsRoll}
use Rattle.rdb_registry.specs.Seats.{Seats, HoldsLatch, IsHolder, NoneHolds, seat_in, seat_of, with_hand}
use Rattle.rdb_registry.proofs.OwnLemmas.{of_itself}
use Rattle.rdb_sight.specs.Versions.{Object, Versions, chain_in, objects_in, with_chain_in}
use Rattle.rdb_space.specs.Memory.{RegionCells, class_of, image_of}
use Rattle.rdb_store.proofs.ClassNumbers.{many_shapes, schema_class_shape}
use Rattle.rdb_store.specs.Classes.{ClassNature}
use Rattle.rdb_store.specs.Holds.{Holds, HoldsSome, Whatever}
use Rattle.rdb_store.specs.Plans.{Restamps}
use Rattle.rdb_store.specs.Shapes.{ClassShape, class_in, nature_of_class, schema_class, shapes_of}
use Rattle.rdb_store.specs.Stored.{HasHeader}
use Rattle.rdb_transactions.specs.Phases.{IsInPhase, IsStamping}
use Rattle.rdb_transactions.specs.Records.{edited, on_hand}
use Rattle.rdb_transactions.specs.Sound.{IsOrderly}
use Rattle.rdb_transactions.proofs.EditLemmas.{alike, others_edited, same_seat, seat_edited}
use Rattle.rdb_transactions.proofs.SoundLemmas.{orderly_of}
use Rattle.rdb_writes.specs.Grounds.{NoneWorksOn, settled_image}
use Rattle.rdb_writes.specs.Steps.{spans_one_plan}
use Rattle.rdb_writes.proofs.WorkLemmas.{in_its_slot}
use Rattle.rdb_steps.specs.declared.state.State.{State}
use Rattle.rdb_steps.specs.Invariant.{IsKept}
use Rattle.rdb_steps.specs.Kept.{is_marked, tx_of}
use Rattle.rdb_steps.specs.Lists.{WritesStamp}
use Rattle.rdb_steps.specs.Phases.{RestsIn}
use Rattle.rdb_steps.specs.Stamps.{IsHeldByOther, StampsFirst}
use Rattle.rdb_steps.specs.States.{IsWhole, Keeps, cell_count, ground_in, ground_of}
use Rattle.rdb_steps.specs.Steps.{OnlySeat, WritesOne, done_by, first_stamped, forgetting_first}
use Rattle.rdb_steps.specs.Written.{FallsDebt}
use Rattle.rdb_steps.proofs.DebtFalls.{stamp_falls}
use Rattle.rdb_steps.proofs.FollowLemmas.{Follows, kept_follows, whole_step}
use Rattle.rdb_steps.proofs.KeptLemmas.{ArePlaced}
use Rattle.rdb_steps.proofs.OrderedLemmas.{first_rest, gone_first, others_first}
use Rattle.rdb_steps.proofs.StampKept.{IsAtStamp, is_cell, listed_there, none_works, of_class, stamped_kept, stands_here, within}

-- the open transaction that has a mark
opened_by : (o : Option Transaction) (commit : ℕ) → option_and_then (λ (t : Transaction). t.mark) o ≡ Some commit → (t : Transaction) × ((o ≡ Some t) × (t.mark ≡ Some commit))
opened_by None commit e = absurd (let no : ◌≡◌ {A = Option ℕ} None (Some commit) = e in cc)
opened_by (Some t) commit e = (t, (refl, e))

no_mark : (o : Option Transaction) → IsSomeAnd o (λ t. t.mark ≡ None) → is_some (option_and_then (λ (t : Transaction). t.mark) o) ≡ true → ⊥
no_mark None none marked = false≢true marked
no_mark (Some t) none marked = false≢true (ap is_some (sym none) ∙ marked)

unmarked : (k : Seat) (o : Option Transaction) → IsSomeAnd o (λ t. (t.kind ≡ kind.ReadWrite) × (t.mark ≡ None)) → IsSomeAnd o (λ t. t.mark ≡ None)
unmarked k None h = h
unmarked k (Some t) h = h.1

unread : (o : Option Transaction) → IsSomeAnd o (λ t. (t.kind ≡ kind.ReadOnly) × (t.mark ≡ None)) → IsSomeAnd o (λ t. t.mark ≡ None)
unread None h = h
unread (Some t) h = h.1

-- who is marked stamps
pub marked_stamps : (seat : Seat) (p : Phase) → IsInPhase p seat → is_marked seat ≡ true → p ≡ phase.Stamping
marked_stamps seat phase.Idle q marked = absurd (false≢true (ap (λ (o : Option Transaction). is_some (option_and_then (λ (t : Transaction). t.mark) o)) (sym q.transaction) ∙ marked))
marked_stamps seat (phase.Running kind.ReadOnly) q marked = absurd (no_mark seat.transaction (unread seat.transaction q.transaction) marked)
marked_stamps seat (phase.Running kind.ReadWrite) q marked = absurd (no_mark seat.transaction (unmarked seat seat.transaction q.transaction) marked)
marked_stamps seat phase.Writing q marked = absurd (no_mark seat.transaction (unmarked seat seat.transaction q.transaction) marked)
marked_stamps seat phase.RollingBack q marked = absurd (no_mark seat.transaction q.transaction marked)
marked_stamps seat phase.Stamping q marked = refl
marked_stamps seat phase.Condemned q marked = absurd q
marked_stamps seat phase.Absent q marked = absurd q

-- what is said of the versions by the transaction and its commit
abbrev with_done : Seat → Transaction → ℕ → OwnWrite → Versions → Versions → Versions
with_done seat t commit first settled versions = with_chain_in versions first.class first.id (done_by (tx_of seat t) commit (chain_in settled first.class first.id))

stamped_is : (seat : Seat) (t : Transaction) (commit : ℕ) (first : OwnWrite) (rest : List OwnWrite) (settled versions : Versions) → seat.transaction ≡ Some t → seat.hand.own.items ≡ first ∷ rest → t.mark ≡ Some commit →
    first_stamped (Some seat) settled versions ≡ with_done seat t commit first settled versions
stamped_is seat t commit first rest settled versions opened items mark =
    (λ i. first_stamped (Some (record seat { transaction = opened i; hand = record seat.hand { own = record seat.hand.own { items = items i } } })) settled versions)
    ∙ (λ i. first_stamped (Some (record seat { transaction = Some (record t { mark = mark i }); hand = record seat.hand { own = record seat.hand.own { items = first ∷ rest } } })) settled versions)

listed : (own : List OwnWrite) (first : OwnWrite) → slice_get own 0 ≡ Some first → header_of own (first.class, first.id) ≡ Some first.header
listed [] first there = absurd (let no : ◌≡◌ {A = Option OwnWrite} None (Some first) = there in cc)
listed (w ∷ ws) first there =
    let is : w ≡ first = cc in
    subst (λ (x : OwnWrite). header_of (w ∷ ws) (x.class, x.id) ≡ Some x.header) is
    (ap (λ (b : Bool). option_map (λ (x : OwnWrite). x.header) (cond b (Some w) (find (is_of (w.class, w.id)) ws))) (of_itself (w.class, w.id) w refl))

-- the class of a store is that of its schema
class_same : (schema : Schema) (shapes : List ClassShape) (class : ℕ) → shapes ≡ shapes_of schema → class < length schema.classes → class_in shapes class ≡ schema_class schema class
class_same schema shapes class is within = ap (λ (ss : List ClassShape). class_in ss class) is ∙ ap nature_of_class (schema_class_shape schema class within)

-- a latch's holder has some
no_holder : (s : Seat) (class : ℕ) → s.latches ≡ 0 → HoldsLatch s class → ⊥
no_holder s class none holds =
    let zero_bit : bit_at s.latches class ≡ 0 = ap (λ (n : ℕ). bit_at n class) none ∙ bit_at-zero class in
    omega (arith, holds, zero_bit)

module _ {P : Type 0} (s : State P) (c : ConnId) (seat : Seat) (first : OwnWrite) (commit : ℕ) (whole : IsWhole s) (roll : IsRoll s.transactions.registry) (held : seat_of s.transactions.registry.seats c ≡ Some seat)
    (was : slice_get seat.hand.own.items 0 ≡ Some first) (mark : option_and_then (λ (t : Transaction). t.mark) seat.transaction ≡ Some commit) where
  placed : ArePlaced s.transactions.registry.seats
  placed i x there = (roll.seated i x there).place

  tx : (t : Transaction) × ((seat.transaction ≡ Some t) × (t.mark ≡ Some commit))
  tx = opened_by seat.transaction commit mark

  marked : is_marked seat ≡ true
  marked = ap is_some mark

  orderly : IsOrderly (length s.transactions.journal.entries) seat
  orderly = orderly_of [] s.transactions c seat whole.sound held

  stamps : seat.hand.phase ≡ phase.Stamping
  stamps = marked_stamps seat seat.hand.phase orderly.phase marked

  in_phase : IsStamping seat
  in_phase = subst (λ (p : Phase). IsInPhase p seat) stamps orderly.phase

  module _ (settled aimed : Versions) (kept : Keeps s settled aimed) where
    -- it holds no latch, where one is needed for a plan alone
    pub unlatched : spans_one_plan s.transactions.manager ≡ true → seat.latches ≡ 0
    unlatched many = (subst (λ (p : Phase). RestsIn s.transactions.manager (length s.schema.classes) seat p) stamps (kept.rests c.slot seat (in_its_slot s.transactions.registry.seats c seat held))).latches many

    -- a holder of the latch of the class is another
    pub held_by_other : (holder : ConnId) → spans_one_plan s.transactions.manager ≡ true → IsHolder s.transactions.registry.seats first.class holder →
        IsHeldByOther s.transactions.manager s.transactions.registry.seats c holder
    held_by_other holder many holds = record {
      many = many;
      seat = seat;
      first = first;
      held = held;
      was = was;
      holds = holds;
      other = λ same.
          no_holder seat first.class (unlatched many)
          (subst (λ (o : Option Seat). IsSomeAnd o (λ x. HoldsLatch x first.class)) (ap (seat_of s.transactions.registry.seats) same ∙ held) holds);
    }

    is_at : IsAtStamp s.transactions.manager s.transactions.registry.seats c seat tx.0 commit first
    is_at = record { held = held; phase_is = stamps; opened = tx.1.0; mark = tx.1.1; listed = listed seat.hand.own.items first was }

    pub below : first.class < length s.schema.classes
    below = within s.schema s.transactions.manager s.counters.serials s.counters.ids.items (ground_of s) c seat tx.0 commit first settled aimed whole.lawful placed kept is_at

    pub class_known : first.class < s.transactions.registry.classes
    class_known = let lt = below in let classes = whole.classes in omega (arith, lt, classes)

    module _ (none : spans_one_plan s.transactions.manager ≡ true → NoneHolds s.transactions.registry.seats first.class) where
      free : spans_one_plan s.transactions.manager ≡ true → (i : ℕ) (x : Seat) → seat_in s.transactions.registry.seats i ≡ Some x → ¬ HoldsLatch x first.class
      free many i x there holds = let zero_bit = none many i x there in omega (arith, zero_bit, holds)

      -- what the store asks of the class and the version
      pub class_there : first.class < length s.store
      class_there =
          let many : length s.store ≡ length s.schema.classes = ap (λ (ss : List ClassShape). length ss) whole.store ∙ many_shapes s.schema 0 (length s.schema.classes) in
          let lt = below in
          omega (arith, many, lt)

      same_class : class_in s.store first.class ≡ schema_class s.schema first.class
      same_class = class_same s.schema s.store first.class whole.store below

      standing : Holds (schema_class s.schema first.class) (image_of s.memory) (class_of s.memory) (objects_in settled first.class)
      standing = stands_here s.schema s.transactions.manager s.counters.serials s.counters.ids.items (ground_of s) c seat tx.0 commit first settled aimed whole.lawful placed kept is_at free

      pub class_holds : HoldsSome (class_in s.store first.class) (image_of s.memory) (class_of s.memory)
      class_holds = (objects_in settled first.class, subst (λ (k : ClassNature). Holds k (image_of s.memory) (class_of s.memory) (objects_in settled first.class)) (sym same_class) standing)

      pub version_there : Whatever (class_in s.store first.class) (image_of s.memory) (class_of s.memory) (λ objects. HasHeader objects first.header.number)
      version_there objects holds =
          subst (λ (os : List Object). HasHeader os first.header.number)
          ((whole.lawful first.class below).one (image_of s.memory) (class_of s.memory) (objects_in settled first.class) objects standing
          (subst (λ (k : ClassNature). Holds k (image_of s.memory) (class_of s.memory) objects) same_class holds))
          (listed_there s.schema s.transactions.manager s.counters.serials s.counters.ids.items (ground_of s) c seat tx.0 commit first settled aimed whole.lawful placed kept is_at free)

      -- and what the write asks of the cell
      pub cell_there : IsCell (image_of s.memory) first.header.number
      cell_there = is_cell s.schema s.transactions.manager s.counters.serials s.counters.ids.items (ground_of s) c seat tx.0 commit first settled aimed whole.lawful placed kept is_at free

      pub cell_idle : NoneWorksOn (ground_of s) first.header.number
      cell_idle = none_works s.schema s.transactions.manager s.counters.serials s.counters.ids.items (ground_of s) c seat tx.0 commit first settled aimed whole.lawful placed kept is_at free

      module _ (ordered : AreOrdered seat.hand.own.items) (memory : RegionCells) (now : Roll) (cell : Cell) (written : Writes (image_of s.memory) (image_of memory) first.header.number cell)
          (settled_written : Writes (settled_image (ground_of s)) (settled_image (ground_in memory s.transactions.registry)) first.header.number cell)
          (classes : (n : ℕ) → class_of memory n ≡ class_of s.memory n)
          (restamps : (after : Image) → Writes (image_of s.memory) after first.header.number cell → Restamps (class_in s.store first.class) (image_of s.memory) after (class_of s.memory) first.header.number (stamp.Done commit))
          (edits : now ≡ edited s.transactions.registry c.slot (on_hand forgetting_first)) where
        writes : WritesStamp s.schema (ground_of s) (ground_in memory s.transactions.registry) first.class first.header.number (stamp.Done commit)
        writes = record {
          cell = cell;
          of = of_class s.schema s.transactions.manager s.counters.serials s.counters.ids.items (ground_of s) c seat tx.0 commit first settled aimed whole.lawful placed kept is_at free;
          written = written;
          settled = settled_written;
          classes = classes;
          records = refl;
          restamps = subst (λ (k : ClassNature). Restamps k (image_of s.memory) (image_of memory) (class_of s.memory) first.header.number (stamp.Done commit)) same_class (restamps (image_of memory) written);
        }

        seats_are : now.seats ≡ with_hand s.transactions.registry.seats c.slot (forgetting_first seat.hand)
        seats_are =
            ap (λ (r : Roll). r.seats) edits
            ∙ alike s.transactions.registry.seats c.slot seat (on_hand forgetting_first) (λ (x : Seat). record x { hand = forgetting_first seat.hand }) (in_its_slot s.transactions.registry.seats c seat held) refl

        -- it is kept with that stamp
        pub keeps_stamped :
            IsKept s.schema s.transactions.manager s.counters.serials s.counters.ids.items (ground_in memory now)
            (first_stamped (seat_of s.transactions.registry.seats c) settled settled) (first_stamped (seat_of s.transactions.registry.seats c) settled aimed)
        keeps_stamped =
            subst (λ (o : Option Seat). IsKept s.schema s.transactions.manager s.counters.serials s.counters.ids.items (ground_in memory now) (first_stamped o settled settled) (first_stamped o settled aimed)) (sym held)
            (subst (λ (vs : Versions). IsKept s.schema s.transactions.manager s.counters.serials s.counters.ids.items (ground_in memory now) vs (first_stamped (Some seat) settled aimed)) (sym (as_said settled))
            (subst (λ (vs : Versions). IsKept s.schema s.transactions.manager s.counters.serials s.counters.ids.items (ground_in memory now) (with_done seat tx.0 commit first settled settled) vs) (sym (as_said aimed))
            (subst (λ (seats : Seats). IsKept s.schema s.transactions.manager s.counters.serials s.counters.ids.items (record { image = image_of memory; class_of = class_of memory; seats = seats }) (with_done seat tx.0 commit first settled settled) (with_done seat tx.0 commit first settled aimed)) (sym seats_are)
            (stamped_kept s.schema s.transactions.manager s.counters.serials s.counters.ids.items (ground_of s) c seat tx.0 commit first settled aimed whole.lawful placed kept is_at free
            (image_of memory) (class_of memory) writes (forgetting_first seat.hand) refl gone others))))
          where
            as_said : (versions : Versions) → first_stamped (Some seat) settled versions ≡ with_done seat tx.0 commit first settled versions
            as_said versions = stamped_is seat tx.0 commit first (drop 1 seat.hand.own.items) settled versions tx.1.0 (first_rest seat.hand.own.items first was) tx.1.1

            gone : header_of (drop 1 seat.hand.own.items) (first.class, first.id) ≡ None
            gone = gone_first seat.hand.own.items first ordered was

            others : (object : ℕ × ℕ) → object ≢ (first.class, first.id) → header_of (drop 1 seat.hand.own.items) object ≡ header_of seat.hand.own.items object
            others object ne = others_first seat.hand.own.items first object was ne

  -- beside what is kept
  module _ (memory : RegionCells) (now : Roll) (edits : now ≡ edited s.transactions.registry c.slot (on_hand forgetting_first)) where
    there : seat_of now.seats c ≡ Some (on_hand forgetting_first seat)
    there = seat_edited s.transactions.registry now c (on_hand forgetting_first) seat (λ x. refl) edits held

    pub becomes_stamped : (cell : Cell) → (spans_one_plan s.transactions.manager ≡ true → NoneHolds s.transactions.registry.seats first.class) →
        Writes (image_of s.memory) (image_of memory) first.header.number cell → StampsFirst s.transactions.manager s.memory memory s.transactions.registry.seats now.seats c
    becomes_stamped cell free written = record { seat = seat; first = first; cell = cell; held = held; was = was; free = free; written = written; there = there }

    pub only_stamped : OnlySeat s.transactions.registry now c
    only_stamped = record {
      others = λ i ne. others_edited s.transactions.registry now c.slot i (on_hand forgetting_first) ne edits;
      rest = edits ∙ ap (λ (ss : Seats). record s.transactions.registry { seats = ss }) (sym (ap (λ (r : Roll). r.seats) edits));
    }

    pub nearer_stamped : (a b : Seat) → seat_of s.transactions.registry.seats c ≡ Some a → seat_of now.seats c ≡ Some b → FallsDebt s.transactions.manager a b
    nearer_stamped a b at_a at_b =
        subst (λ (x : Seat). FallsDebt s.transactions.manager x b) (same_seat s.transactions.registry.seats c seat a held at_a)
        (subst (λ (x : Seat). FallsDebt s.transactions.manager seat x) (same_seat now.seats c (on_hand forgetting_first seat) b there at_b)
        (stamp_falls s.transactions.manager seat first marked stamps was))

    pub whole_stamped : WritesOne s.memory memory → IsWhole (record s { memory = memory; transactions = record s.transactions { registry = now } })
    whole_stamped one =
        whole_step s memory now c seat (on_hand forgetting_first) whole one held edits
        (kept_follows s.schema s.transactions.manager (cell_count s.schema s.memory) (length s.transactions.journal.entries) seat seat.hand (forgetting_first seat.hand) seat.latches orderly
        (whole.furnished c.slot seat (in_its_slot s.transactions.registry.seats c seat held)) refl refl
        (subst (λ (p : Phase). IsInPhase p (on_hand forgetting_first seat)) (sym stamps)
        (record { work = in_phase.work; plan = in_phase.plan; undo = in_phase.undo; transaction = in_phase.transaction; cause = in_phase.cause; done = in_phase.done }))
        (λ busy. absurd (false≢true (ap is_some (sym in_phase.work) ∙ busy))))
