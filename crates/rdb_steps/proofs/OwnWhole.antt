-- What is so of a World's state beside its cells, once the own plan of an operation is made, and how many steps are left then.
use Rattle.std.proofs.Common.{◌≡◌, ◌<◌, ◌≤◌, ◌+◌, ◌*◌, ◌||◌, ℕ, List, [], length, set, sum_by, true, false, cond, Bool, Option, Some, None, IsSome, IsSomeAnd, is_some, is_none, option_map, option_and_then, slice_index, refl, sym, ap, subst, ◌∙◌, arith}
use Rattle.std.specs.Option.{option_map_or}
use Rattle.std.proofs.lemmas.Bool.{false≢true}
use Rattle.rdb_base.specs.declared.identity.ConnId.{ConnId}
use Rattle.rdb_base.specs.declared.identity.Kind.TheVariants as kind
use Rattle.rdb_base.specs.declared.identity.Phase.{Phase}
use Rattle.rdb_base.specs.declared.identity.Phase.TheVariants as phase
use Rattle.rdb_base.specs.declared.limits.TheConstants.{MAX_OPERATIONS}
use Rattle.rdb_base.specs.declared.operation.Op.{Op}
use Rattle.rdb_base.specs.declared.operation.Op.TheVariants as op
use Rattle.rdb_base.specs.Operations.{class_of as class_named, is_write}
use Rattle.rdb_schema.specs.declared.schema.Schema.{Schema}
use Rattle.rdb_pages.specs.declared.cell.CellRef.{CellRef}
use Rattle.rdb_cells.specs.Records.{IsRecord, Record, max_plan}
use Rattle.rdb_registry.specs.declared.hand.Hand.{Hand}
use Rattle.rdb_registry.specs.declared.hand.Work.{Work}
use Rattle.rdb_registry.specs.declared.seat.Seat.{Seat}
use Rattle.rdb_registry.specs.declared.seat.Transaction.{Transaction}
use Rattle.rdb_registry.specs.Hands.{undo_places}
use Rattle.rdb_registry.specs.Registry.{Roll, spent_by, with_spent}
use Rattle.rdb_registry.specs.Seats.{seat_in, seat_of, with_hand}
use Rattle.rdb_sight.specs.Versions.{Versions}
use Rattle.rdb_transactions.specs.Claims.{is_unmarked, writes_in}
use Rattle.rdb_transactions.specs.Phases.{IsInPhase, IsWriting as IsWritingStill}
use Rattle.rdb_transactions.specs.Records.{is_single_writer}
use Rattle.rdb_transactions.specs.Sound.{IsOrderly}
use Rattle.rdb_transactions.proofs.SoundLemmas.{orderly_of}
use Rattle.rdb_steps.specs.declared.state.Counters.{Counters}
use Rattle.rdb_steps.specs.declared.state.State.{State}
use Rattle.rdb_steps.specs.Debt.{debt, operation_debt, work_debt}
use Rattle.rdb_steps.specs.Kept.{is_marked, is_rolling_back}
use Rattle.rdb_steps.specs.Making.{with_id, with_plan}
use Rattle.rdb_steps.specs.Planning.{IsDue, id_to_write, ids_after, put_by, putting}
use Rattle.rdb_steps.specs.States.{HasBytes, IsFurnished, IsWhole, Keeps, WorkFits, cell_count, ever_planned, planned_by, planned_in, planned_so_far}
use Rattle.rdb_steps.specs.Written.{FallsDebt}
use Rattle.rdb_steps.proofs.DrawnLemmas.{live_planned, one_planned, spent_more}
use Rattle.rdb_steps.proofs.DuePlans.{due_at, due_opened, due_unput, due_writing, writing_debt}
use Rattle.rdb_steps.proofs.FollowLemmas.{Follows, whole_step}
use Rattle.rdb_steps.proofs.OwnPlans.{many_ids, one_id}
use Rattle.rdb_steps.proofs.RoomLemmas.{by_transaction}

-- an operation in work fits with the id of its object, too
fits_with : (schema : Schema) (o : Op) (id : ℕ) (bytes : List ℕ) → HasBytes schema o bytes → HasBytes schema (with_id o id) bytes
fits_with schema (op.New class row made) id bytes has = has
fits_with schema (op.Put class i row) id bytes has = has
fits_with schema (op.Del class i) id bytes has = has
fits_with schema (op.Get class i) id bytes has = has
fits_with schema (op.Find class index key) id bytes has = has
fits_with schema (op.Seek class index place up) id bytes has = has
fits_with schema (op.Area class index rect inside) id bytes has = has
fits_with schema (op.Prefix class index text how) id bytes has = has
fits_with schema (op.Count class) id bytes has = has

writes_with : (o : Op) (id : ℕ) → is_write (with_id o id) ≡ is_write o
writes_with (op.New class row made) id = refl
writes_with (op.Put class i row) id = refl
writes_with (op.Del class i) id = refl
writes_with (op.Get class i) id = refl
writes_with (op.Find class index key) id = refl
writes_with (op.Seek class index place up) id = refl
writes_with (op.Area class index rect inside) id = refl
writes_with (op.Prefix class index text how) id = refl
writes_with (op.Count class) id = refl

class_with : (o : Op) (id : ℕ) → class_named (with_id o id) ≡ class_named o
class_with (op.New class row made) id = refl
class_with (op.Put class i row) id = refl
class_with (op.Del class i) id = refl
class_with (op.Get class i) id = refl
class_with (op.Find class index key) id = refl
class_with (op.Seek class index place up) id = refl
class_with (op.Area class index rect inside) id = refl
class_with (op.Prefix class index text how) id = refl
class_with (op.Count class) id = refl

put_fits : (schema : Schema) (w : Work) (id : ℕ) (header : CellRef) → WorkFits schema w → WorkFits schema (put_by id header w)
put_fits schema w id header f = record {
  write = writes_with w.op id ∙ f.write;
  class = subst (λ (k : ℕ). k < length schema.classes) (sym (class_with w.op id)) f.class;
  bytes = fits_with schema w.op id w.bytes f.bytes;
  short = f.short;
}

one_out : (a b : ℕ) → a + (b + 1) ≡ a + b + 1
one_out a b = omega arith

spent_room : (spent ever need : ℕ) → spent ≤ 1024 * ever + need → need ≤ 1024 → spent ≤ 1024 * (ever + 1)
spent_room spent ever need few small = omega (arith, few, small)

put_less : (cells versions pages was : ℕ) → cells ≤ 1024 → cells < was + 1025 * (versions + 1) + pages
put_less cells versions pages was few = omega (arith, few)

unmarked_if : (t : Transaction) → is_some t.mark ≡ false → is_none t.mark ≡ true
unmarked_if t e = go t.mark e
  where
    go : (o : Option ℕ) → is_some o ≡ false → is_none o ≡ true
    go None none = refl
    go (Some n) none = absurd (false≢true (sym none))

module _ {P : Type 0} (s : State P) (c : ConnId) (class : ℕ) (whole : IsWhole s) (seat : Seat) (held : seat_of s.transactions.registry.seats c ≡ Some seat) (due : IsDue class seat) (settled aimed : Versions) (kept : Keeps s settled aimed)
    (w : Work) (had : seat.hand.work ≡ Some w) (unput : w.puts ≡ None) where
  at : seat_in s.transactions.registry.seats c.slot ≡ Some seat
  at = due_at s c class whole seat held due settled aimed kept

  furnished : IsFurnished s.schema s.transactions.manager (cell_count s.schema s.memory) seat
  furnished = whole.furnished c.slot seat at

  opened : (t : Transaction) × ((seat.transaction ≡ Some t) × (t.kind ≡ kind.ReadWrite))
  opened = due_opened s c class whole seat held due settled aimed kept

  unmarked : is_unmarked seat ≡ true
  unmarked =
      ap (λ (o : Option Transaction). option_map_or (λ (t : Transaction). is_none t.mark) o false) opened.1.0
      ∙ unmarked_if opened.0 (sym (ap (λ (o : Option Transaction). is_some (option_and_then (λ (t : Transaction). t.mark) o)) opened.1.0) ∙ (due_writing s c class whole seat held due settled aimed kept).writer.1)

  live : (is_some seat.condemned || is_rolling_back seat.hand.phase) ≡ false
  live = λ i. is_some (due.live i) || is_rolling_back (due.phase i)

  -- it has planned one operation more
  more : (plan : Record) (id : ℕ) (header : CellRef) → planned_by (record seat { hand = with_plan plan (Some (put_by id header w)) seat.hand }) ≡ planned_by seat + 1
  more plan id header =
      let was : planned_by seat ≡ length seat.hand.done.items + 0 = live_planned seat unmarked live
      ∙ ap (λ (o : Option Work). length seat.hand.done.items + cond {A = ℕ} (is_some (option_and_then (λ (x : Work). x.puts) o)) 1 0) had
      ∙ ap (λ (o : Option CellRef). length seat.hand.done.items + cond {A = ℕ} (is_some o) 1 0) unput in
      let now : planned_by (record seat { hand = with_plan plan (Some (put_by id header w)) seat.hand }) ≡ length seat.hand.done.items + 1 =
      live_planned (record seat { hand = with_plan plan (Some (put_by id header w)) seat.hand }) unmarked live in
      omega (arith, was, now)

  follows : (plan : Record) (id : ℕ) (header : CellRef) → plan.room ≡ max_plan →
      Follows s.schema s.transactions.manager (cell_count s.schema s.memory) (length s.transactions.journal.entries) seat (record seat { hand = with_plan plan (Some (put_by id header w)) seat.hand })
  follows plan id header room = record {
    orderly = record {
      phase = subst (λ (p : Phase). IsInPhase p (record seat { hand = with_plan plan (Some (put_by id header w)) seat.hand })) (sym due.phase) (record { transaction = still.transaction; cause = still.cause });
      begun = orderly.begun;
    };
    places = refl;
    writes = sym (ap (λ (o : Option Work). writes_in seat.hand.done.items + cond {A = ℕ} (is_some o) 1 0) had);
    planned = let one = more plan id header in omega (arith, one);
    transaction = refl;
    furnished = record {
      plan = room;
      undo = λ quiet. furnished.undo (sym same ∙ quiet);
      single = λ writes. furnished.single (sym same ∙ writes);
      work = λ x is. (let both : Some (put_by id header w) ≡ Some x = is in let one : put_by id header w ≡ x = cc in subst (λ (y : Work). WorkFits s.schema y) one (put_fits s.schema w id header (furnished.work w had)));
      done = λ some. furnished.done (subst (λ (o : Option Work). IsSome o) (sym had) refl);
      own = λ some. furnished.own (subst (λ (o : Option Work). IsSome o) (sym had) refl);
      few = subst (λ (n : ℕ). n ≤ MAX_OPERATIONS) (ap (λ (o : Option Work). length seat.hand.done.items + cond {A = ℕ} (is_some o) 1 0) had) furnished.few;
    };
  }
    where
      orderly : IsOrderly (length s.transactions.journal.entries) seat
      orderly = orderly_of [] s.transactions c seat whole.sound held

      still : IsWritingStill seat
      still = subst (λ (p : Phase). IsInPhase p seat) due.phase orderly.phase

      same : is_single_writer s.transactions.manager (record seat { hand = with_plan plan (Some (put_by id header w)) seat.hand }) ≡ is_single_writer s.transactions.manager seat
      same = by_transaction s.transactions.manager (record seat { hand = with_plan plan (Some (put_by id header w)) seat.hand }) seat refl

  hand_is : (h : Hand) (plan : Record) (id : ℕ) (header : CellRef) → h ≡ putting plan id header seat.hand → h ≡ with_plan plan (Some (put_by id header w)) seat.hand
  hand_is h plan id header is = is ∙ (λ i. record seat.hand { plan = plan; work = option_map (put_by id header) (had i) })

  whole_hand : (h : Hand) (plan : Record) (id : ℕ) (header : CellRef) → h ≡ putting plan id header seat.hand → plan.room ≡ max_plan →
      IsWhole (record s { transactions = record s.transactions { registry = record s.transactions.registry { seats = with_hand s.transactions.registry.seats c.slot h } } })
  whole_hand h plan id header is room =
      whole_step s s.memory (record s.transactions.registry { seats = with_hand s.transactions.registry.seats c.slot h }) c seat (λ (x : Seat). record x { hand = h }) whole
      (record { at = 0; elsewhere = λ n ne. refl; classes = λ n. refl; owners = refl }) held refl
      (subst (λ (x : Hand). Follows s.schema s.transactions.manager (cell_count s.schema s.memory) (length s.transactions.journal.entries) seat (record seat { hand = x })) (sym (hand_is h plan id header is)) (follows plan id header room))

  -- numbers are drawn, and a claim is spent
  pub whole_put : (h : Hand) (plan : Record) (id : ℕ) (header : CellRef) (need : ℕ) (counters : Counters) → h ≡ putting plan id header seat.hand → plan.room ≡ max_plan → need ≤ 1024 →
      counters.serials ≡ s.counters.serials + 1 → counters.ids.items ≡ ids_after s.counters.ids.items w.op →
      IsWhole (record s {
        counters = counters;
        transactions = record s.transactions {
          registry = record s.transactions.registry {
            seats = with_hand s.transactions.registry.seats c.slot h;
            spent = with_spent s.transactions.registry.spent c.slot class (spent_by s.transactions.registry.spent c.slot class + need);
          };
        };
      })
  whole_put h plan id header need counters is room small serials ids = record {
    schema = whole.schema;
    served = whole.served;
    lawful = whole.lawful;
    store = whole.store;
    cells = whole.cells;
    classes = whole.classes;
    ids = ap length ids ∙ many_ids s.counters.ids.items w.op ∙ whole.ids;
    sound = record { records = thereafter.sound.records; claims = thereafter.sound.claims; spare = thereafter.sound.spare };
    furnished = thereafter.furnished;
    spare = record { spare = thereafter.spare.spare; own = thereafter.spare.own };
    fewer = record {
      serials = subst (λ (n : ℕ). counters.serials ≤ n) (sym grown) (let drawn = whole.fewer.serials in omega (arith, drawn, serials));
      ids = λ k.
          subst (λ (n : ℕ). slice_index counters.ids.items k ≤ n) (sym grown)
          (let drawn = whole.fewer.ids k in let one = one_id s.counters.ids.items w.op k in let same = ap (λ (xs : List ℕ). slice_index xs k) ids in omega (arith, drawn, one, same));
      spent = λ place k.
          subst (λ (n : ℕ). spent_by (with_spent s.transactions.registry.spent c.slot class (spent_by s.transactions.registry.spent c.slot class + need)) place k ≤ max_plan * n) (sym grown)
          (spent_room (spent_by (with_spent s.transactions.registry.spent c.slot class (spent_by s.transactions.registry.spent c.slot class + need)) place k) (ever_planned s.transactions) need
          (spent_more s.transactions.registry.spent c.slot class need place k (max_plan * ever_planned s.transactions) (λ i j. whole.fewer.spent i j)) small);
    };
  }
    where
      thereafter : IsWhole (record s { transactions = record s.transactions { registry = record s.transactions.registry { seats = with_hand s.transactions.registry.seats c.slot h } } })
      thereafter = whole_hand h plan id header is room

      sums : sum_by planned_in (with_hand s.transactions.registry.seats c.slot h) ≡ sum_by planned_in s.transactions.registry.seats + 1
      sums =
          ap (λ (o : Option Seat). sum_by planned_in (set s.transactions.registry.seats c.slot (option_map (λ (x : Seat). record x { hand = h }) o))) at
          ∙ one_planned s.transactions.registry.seats c.slot seat (record seat { hand = h }) at
          (ap (λ (x : Hand). planned_by (record seat { hand = x })) (hand_is h plan id header is) ∙ more plan id header)

      grown : ever_planned (record s.transactions {
        registry = record s.transactions.registry {
          seats = with_hand s.transactions.registry.seats c.slot h;
          spent = with_spent s.transactions.registry.spent c.slot class (spent_by s.transactions.registry.spent c.slot class + need);
        };
      }) ≡ ever_planned s.transactions + 1
      grown =
          ap (λ (n : ℕ). MAX_OPERATIONS * length s.transactions.journal.entries + n) sums
          ∙ one_out (MAX_OPERATIONS * length s.transactions.journal.entries) (sum_by planned_in s.transactions.registry.seats)

  -- the operation's own plan brings its end nearer
  pub put_falls : (h : Hand) (plan : Record) (id : ℕ) (header : CellRef) → h ≡ putting plan id header seat.hand → IsRecord plan → plan.room ≡ max_plan → FallsDebt s.transactions.manager seat (record seat { hand = h })
  put_falls h plan id header is once room =
      subst (λ (x : Hand). FallsDebt s.transactions.manager seat (record seat { hand = x })) (sym (hand_is h plan id header is)) (λ versions pages.
      let was : debt s.transactions.manager seat versions pages ≡ operation_debt None seat.hand versions pages =
      writing_debt s.transactions.manager seat versions pages due.live due.phase
      ∙ ap (λ (o : Option Work). work_debt o seat.hand versions pages) had ∙ ap (λ (p : Option CellRef). operation_debt p seat.hand versions pages) unput in
      let now : debt s.transactions.manager (record seat { hand = with_plan plan (Some (put_by id header w)) seat.hand }) versions pages ≡ length plan.pairs =
      writing_debt s.transactions.manager (record seat { hand = with_plan plan (Some (put_by id header w)) seat.hand }) versions pages due.live due.phase in
      subst (λ (n : ℕ). debt s.transactions.manager (record seat { hand = with_plan plan (Some (put_by id header w)) seat.hand }) versions pages < n) (sym was)
      (subst (λ (n : ℕ). n < operation_debt None seat.hand versions pages) (sym now)
      (put_less (length plan.pairs) versions pages (length seat.hand.plan.pairs) (subst (λ (n : ℕ). length plan.pairs ≤ n) room once.within))))
