-- A connection that has an operation in work on a class, and no plan, gets the operation's own.
use Rattle.std.proofs.Common.{◌≡◌, ◌≢◌, ◌<◌, ◌≤◌, ◌+◌, ◌*◌, ◌∷◌, ◌||◌, ◌&&◌, ℕ, zero, suc, List, [], length, set, sum_by, true, false, not, cond, Option, Some, None, Contains, is_some, option_map, slice_index, refl, sym, ap, subst, ◌∙◌, arith, inl, inr}
use Rattle.std.proofs.lemmas.Bool.{false≢true}
use Rattle.std.proofs.lemmas.List.{get_or-set_same, length-set}
use Rattle.rdb_base.specs.declared.identity.ConnId.{ConnId}
use Rattle.rdb_base.specs.declared.identity.Kind.TheVariants as kind
use Rattle.rdb_base.specs.declared.identity.Phase.{Phase}
use Rattle.rdb_base.specs.declared.identity.Phase.TheVariants as phase
use Rattle.rdb_base.specs.declared.identity.Stamp.TheVariants as stamp
use Rattle.rdb_base.specs.declared.operation.Op.{Op}
use Rattle.rdb_base.specs.declared.operation.Op.TheVariants as op
use Rattle.rdb_base.specs.declared.value.Value.{Value}
use Rattle.rdb_base.specs.Operations.{class_of as class_named, is_write}
use Rattle.rdb_schema.specs.declared.schema.Schema.{Schema}
use Rattle.rdb_schema.specs.declared.types.ValueType.{ValueType}
use Rattle.rdb_schema.specs.Encodes.{Encodes}
use Rattle.rdb_schema.specs.Types.{types_of}
use Rattle.rdb_pages.specs.declared.cell.CellRef.{CellRef}
use Rattle.rdb_cells.specs.declared.pairs.Pair.{Pair}
use Rattle.rdb_cells.specs.Records.{IsRecord, Record, planned}
use Rattle.rdb_registry.specs.declared.hand.Hand.{Hand}
use Rattle.rdb_registry.specs.declared.hand.Work.{Work}
use Rattle.rdb_registry.specs.declared.seat.Seat.{Seat}
use Rattle.rdb_registry.specs.declared.seat.Transaction.{Transaction}
use Rattle.rdb_registry.specs.OwnWrites.{header_of}
use Rattle.rdb_registry.specs.Registry.{IsRoll, Roll}
use Rattle.rdb_registry.specs.Seats.{HoldsLatch, seat_in, seat_of, with_hand}
use Rattle.rdb_sight.specs.Versions.{Object, Version, Versions, chain_in, chain_of, objects_in, own_version, with_chain}
use Rattle.rdb_space.specs.Claim.{claim_of}
use Rattle.rdb_space.specs.Memory.{HasFree, class_of, image_of}
use Rattle.rdb_store.specs.declared.plans.NewVersion.{NewVersion}
use Rattle.rdb_store.specs.Chains.{CanReplace, IsLeft, IsNewSerial}
use Rattle.rdb_store.specs.Classes.{ClassNature}
use Rattle.rdb_store.specs.Holds.{Holds}
use Rattle.rdb_store.specs.Plans.{made_at}
use Rattle.rdb_store.specs.Shapes.{ClassShape, claim_in, class_in, class_shape, schema_class, shape_in, shapes_of}
use Rattle.rdb_store.specs.Stored.{HasVersion, ref_of}
use Rattle.rdb_store.proofs.ClassNumbers.{schema_class_shape}
use Rattle.rdb_writes.specs.Steps.{spans_one_plan}
use Rattle.rdb_steps.specs.declared.state.State.{State}
use Rattle.rdb_steps.specs.Invariant.{IsKept}
use Rattle.rdb_steps.specs.Kept.{is_rolling_back, takes_back, tx_of}
use Rattle.rdb_steps.specs.Laid.{IsPlanOn, IsReadyToPut, LeadsToPut, Spells, taken_by}
use Rattle.rdb_steps.specs.Lists.{LeadsTo}
use Rattle.rdb_steps.specs.Making.{row_written, version_put, with_id, with_plan, with_put}
use Rattle.rdb_steps.specs.Planned.{IsWithin, all_but, id_named, object_named}
use Rattle.rdb_steps.specs.Planning.{HasObject, IsDue, id_to_write, ids_after, put_by, putting}
use Rattle.rdb_steps.specs.States.{HasBytes, IsWhole, Keeps, WorkFits, ground_in, ground_of}
use Rattle.rdb_steps.proofs.ClaimLemmas.{claim_same, untaken_free}
use Rattle.rdb_steps.proofs.ClassHolds.{class_same}
use Rattle.rdb_steps.proofs.DrawnLemmas.{one_drawn}
use Rattle.rdb_steps.proofs.DuePlans.{due_at, due_cell, due_latch, due_opened, due_whatever, due_work, due_writing, makes_laid, within}
use Rattle.rdb_steps.proofs.OwnChains.{left_of}
use Rattle.rdb_steps.proofs.PlanningLemmas.{put_kept}
use Rattle.rdb_steps.proofs.RestingLemmas.{owned_at_rest, same_at_rest}

-- an operation with the id of its object is the same beside it
same_row : (o : Op) (id : ℕ) → row_written (with_id o id) ≡ row_written o
same_row (op.New class row made) id = refl
same_row (op.Put class i row) id = refl
same_row (op.Del class i) id = refl
same_row (op.Get class i) id = refl
same_row (op.Find class index key) id = refl
same_row (op.Seek class index place up) id = refl
same_row (op.Area class index rect inside) id = refl
same_row (op.Prefix class index text how) id = refl
same_row (op.Count class) id = refl

same_class : (o : Op) (id : ℕ) → class_named (with_id o id) ≡ class_named o
same_class (op.New class row made) id = refl
same_class (op.Put class i row) id = refl
same_class (op.Del class i) id = refl
same_class (op.Get class i) id = refl
same_class (op.Find class index key) id = refl
same_class (op.Seek class index place up) id = refl
same_class (op.Area class index rect inside) id = refl
same_class (op.Prefix class index text how) id = refl
same_class (op.Count class) id = refl

-- and it names the object that is written
named_id : (ids : List ℕ) (o : Op) → id_named (with_id o (id_to_write ids o)) ≡ id_to_write ids o
named_id ids (op.New class row made) = refl
named_id ids (op.Put class i row) = refl
named_id ids (op.Del class i) = refl
named_id ids (op.Get class i) = refl
named_id ids (op.Find class index key) = refl
named_id ids (op.Seek class index place up) = refl
named_id ids (op.Area class index rect inside) = refl
named_id ids (op.Prefix class index text how) = refl
named_id ids (op.Count class) = refl

-- ids are drawn upwards
more_ids : (ids : List ℕ) (o : Op) (k : ℕ) → slice_index ids k ≤ slice_index (ids_after ids o) k
more_ids ids (op.New class row made) k = rising ids class k
  where
    rising : (xs : List ℕ) (i j : ℕ) → slice_index xs j ≤ slice_index (set xs i (slice_index xs i + 1)) j
    rising [] i j = omega arith
    rising (x ∷ xs) zero zero = omega arith
    rising (x ∷ xs) zero (suc j) = omega arith
    rising (x ∷ xs) (suc i) zero = omega arith
    rising (x ∷ xs) (suc i) (suc j) = rising xs i j
more_ids ids (op.Put class i row) k = omega arith
more_ids ids (op.Del class i) k = omega arith
more_ids ids (op.Get class i) k = omega arith
more_ids ids (op.Find class index key) k = omega arith
more_ids ids (op.Seek class index place up) k = omega arith
more_ids ids (op.Area class index rect inside) k = omega arith
more_ids ids (op.Prefix class index text how) k = omega arith
more_ids ids (op.Count class) k = omega arith

-- at most one more of each class
pub one_id : (ids : List ℕ) (o : Op) (k : ℕ) → slice_index (ids_after ids o) k ≤ slice_index ids k + 1
one_id ids (op.New class row made) k = one_drawn ids class k
one_id ids (op.Put class i row) k = omega arith
one_id ids (op.Del class i) k = omega arith
one_id ids (op.Get class i) k = omega arith
one_id ids (op.Find class index key) k = omega arith
one_id ids (op.Seek class index place up) k = omega arith
one_id ids (op.Area class index rect inside) k = omega arith
one_id ids (op.Prefix class index text how) k = omega arith
one_id ids (op.Count class) k = omega arith

pub many_ids : (ids : List ℕ) (o : Op) → length (ids_after ids o) ≡ length ids
many_ids ids (op.New class row made) = length-set ids class (slice_index ids class + 1)
many_ids ids (op.Put class i row) = refl
many_ids ids (op.Del class i) = refl
many_ids ids (op.Get class i) = refl
many_ids ids (op.Find class index key) = refl
many_ids ids (op.Seek class index place up) = refl
many_ids ids (op.Area class index rect inside) = refl
many_ids ids (op.Prefix class index text how) = refl
many_ids ids (op.Count class) = refl

-- the id of the object that a write writes was drawn
id_drawn : (ids : List ℕ) (aimed : Versions) (o : Op) → is_write o ≡ true → class_named o < length ids → HasObject aimed o → ((class id : ℕ) → chain_in aimed class id ≢ [] → id ≤ slice_index ids class) →
    id_to_write ids o ≤ slice_index (ids_after ids o) (class_named o)
id_drawn ids aimed (op.New class row made) write within has each = let here = get_or-set_same ids class (slice_index ids class + 1) 0 within in omega (arith, here)
id_drawn ids aimed (op.Put class i row) write within has each = each class i has
id_drawn ids aimed (op.Del class i) write within has each = each class i has
id_drawn ids aimed (op.Get class i) write within has each = absurd (false≢true write)
id_drawn ids aimed (op.Find class index key) write within has each = absurd (false≢true write)
id_drawn ids aimed (op.Seek class index place up) write within has each = absurd (false≢true write)
id_drawn ids aimed (op.Area class index rect inside) write within has each = absurd (false≢true write)
id_drawn ids aimed (op.Prefix class index text how) write within has each = absurd (false≢true write)
id_drawn ids aimed (op.Count class) write within has each = absurd (false≢true write)

-- what is deleted has a version
deleted_there : (ids : List ℕ) (aimed : Versions) (o : Op) → is_write o ≡ true → HasObject aimed o → row_written o ≡ None → chain_in aimed (class_named o) (id_to_write ids o) ≢ []
deleted_there ids aimed (op.New class row made) write has none = absurd (let no : Some row ≡ None = none in cc)
deleted_there ids aimed (op.Put class i row) write has none = has
deleted_there ids aimed (op.Del class i) write has none = has
deleted_there ids aimed (op.Get class i) write has none = absurd (false≢true write)
deleted_there ids aimed (op.Find class index key) write has none = absurd (false≢true write)
deleted_there ids aimed (op.Seek class index place up) write has none = absurd (false≢true write)
deleted_there ids aimed (op.Area class index rect inside) write has none = absurd (false≢true write)
deleted_there ids aimed (op.Prefix class index text how) write has none = absurd (false≢true write)
deleted_there ids aimed (op.Count class) write has none = absurd (false≢true write)

-- its bytes are those of its row
spells : (schema : Schema) (types : List ValueType) (o : Op) (bytes : List ℕ) → types ≡ types_of schema (class_named o) → HasBytes schema o bytes → Spells types o bytes
spells schema types (op.New class row made) bytes is has = subst (λ (ts : List ValueType). Encodes ts row bytes) (sym is) has
spells schema types (op.Put class i row) bytes is has = subst (λ (ts : List ValueType). Encodes ts row bytes) (sym is) has
spells schema types (op.Del class i) bytes is has = tt
spells schema types (op.Get class i) bytes is has = tt
spells schema types (op.Find class index key) bytes is has = tt
spells schema types (op.Seek class index place up) bytes is has = tt
spells schema types (op.Area class index rect inside) bytes is has = tt
spells schema types (op.Prefix class index text how) bytes is has = tt
spells schema types (op.Count class) bytes is has = tt

-- its claim is what its version takes
claimed : (schema : Schema) (o : Op) (bytes most : ℕ) → is_write o ≡ true → most ≡ claim_in (class_shape schema (class_named o)) bytes → claim_of schema o bytes ≡ taken_by o most
claimed schema (op.New class row made) bytes most write is = sym (claim_same schema class bytes) ∙ sym is
claimed schema (op.Put class i row) bytes most write is = sym (claim_same schema class bytes) ∙ sym is
claimed schema (op.Del class i) bytes most write is = refl
claimed schema (op.Get class i) bytes most write is = absurd (false≢true write)
claimed schema (op.Find class index key) bytes most write is = absurd (false≢true write)
claimed schema (op.Seek class index place up) bytes most write is = absurd (false≢true write)
claimed schema (op.Area class index rect inside) bytes most write is = absurd (false≢true write)
claimed schema (op.Prefix class index text how) bytes most write is = absurd (false≢true write)
claimed schema (op.Count class) bytes most write is = absurd (false≢true write)

-- the version that an operation of an open transaction is to put
abbrev pub new_version : {P : Type 0} → State P → Seat → Transaction → ℕ → Op → NewVersion
new_version s seat t class o = record {
  class = class;
  id = id_to_write s.counters.ids.items o;
  serial = s.counters.serials + 1;
  stamp = stamp.By (tx_of seat t);
  replaces = header_of seat.hand.own.items (class, id_to_write s.counters.ids.items o);
}

module _ {P : Type 0} (s : State P) (c : ConnId) (class : ℕ) (whole : IsWhole s) (seat : Seat) (held : seat_of s.transactions.registry.seats c ≡ Some seat) (due : IsDue class seat) (settled aimed : Versions) (kept : Keeps s settled aimed)
    (w : Work) (had : seat.hand.work ≡ Some w) (of_class : class_named w.op ≡ class) (t : Transaction) (opened : seat.transaction ≡ Some t) (has : HasObject aimed w.op) where
  at : seat_in s.transactions.registry.seats c.slot ≡ Some seat
  at = due_at s c class whole seat held due settled aimed kept

  fits : WorkFits s.schema w
  fits = (whole.furnished c.slot seat at).work w had

  here : class < length s.schema.classes
  here = within s c class whole seat held due settled aimed kept

  takes_none : takes_back s.transactions.manager seat ≡ false
  takes_none = λ i. is_some (due.live i) || (is_rolling_back (due.phase i) && not (spans_one_plan s.transactions.manager))

  same_here : spans_one_plan s.transactions.manager ≡ true → (k : ℕ) → HoldsLatch seat k → objects_in aimed k ≡ objects_in settled k
  same_here spans k latched =
      same_at_rest s.schema s.transactions.manager (ground_of s) settled aimed c.slot seat whole.lawful kept.one_holder kept.agrees at due.plan
      ((due_writing s c class whole seat held due settled aimed kept).undo due.live spans due.plan) k latched

  owned : header_of seat.hand.own.items (class, id_to_write s.counters.ids.items w.op) ≡ option_map ref_of (own_version (tx_of seat t) (chain_in aimed class (id_to_write s.counters.ids.items w.op)))
  owned =
      owned_at_rest s.transactions.manager seat seat settled aimed t (kept.own c.slot seat at) opened due.plan same_here
      (λ alone. ((due_writing s c class whole seat held due settled aimed kept).writer.1, takes_none)) class (id_to_write s.counters.ids.items w.op)
      (λ spans. due_latch s c class whole seat held due settled aimed kept)

  left : IsLeft (new_version s seat t class w.op).replaces (chain_in aimed class (id_to_write s.counters.ids.items w.op)) (all_but (tx_of seat t) (chain_in aimed class (id_to_write s.counters.ids.items w.op)))
  left =
      subst (λ (o : Option CellRef). IsLeft o (chain_in aimed class (id_to_write s.counters.ids.items w.op)) (all_but (tx_of seat t) (chain_in aimed class (id_to_write s.counters.ids.items w.op)))) (sym owned)
      (left_of (tx_of seat t) (chain_in aimed class (id_to_write s.counters.ids.items w.op)) (kept.stamped_aimed.once class (id_to_write s.counters.ids.items w.op)))

  shape_same : shape_in s.store class ≡ class_shape s.schema class
  shape_same = ap (λ (ss : List ClassShape). shape_in ss class) whole.store ∙ schema_class_shape s.schema class here

  -- the operation can put its version
  pub ready : (need count : ℕ) → need ≡ claim_of s.schema w.op (length w.bytes) → HasFree (image_of s.memory) (class_of s.memory) class count → need ≤ count →
      IsReadyToPut s.store (image_of s.memory) (class_of s.memory) (new_version s seat t class w.op) w
  ready need count is frees enough = record {
    write = fits.write;
    row =
        spells s.schema (class_in s.store class).types w.op w.bytes
        (ap (λ (k : ClassShape). k.types) shape_same ∙ ap (λ (k : ℕ). types_of s.schema k) (sym of_class)) fits.bytes;
    short = fits.short;
    free =
        untaken_free (image_of s.memory) (class_of s.memory) class count (taken_by w.op (claim_in (shape_in s.store class) (length w.bytes))) frees
        (subst (λ (n : ℕ). n ≤ count)
        (is ∙ claimed s.schema w.op (length w.bytes) (claim_in (shape_in s.store class) (length w.bytes)) fits.write
        (ap (λ (k : ClassShape). claim_in k (length w.bytes)) (shape_same ∙ ap (λ (k : ℕ). class_shape s.schema k) (sym of_class)))) enough);
    serial = due_whatever s c class whole seat held due settled aimed kept (IsNewSerial (s.counters.serials + 1))
        (λ v there same. let old = kept.drawn_aimed.each_serial class v there in absurd (omega (arith, old, same)));
    replaced = due_whatever s c class whole seat held due settled aimed kept
        (λ objects. CanReplace (new_version s seat t class w.op).replaces (chain_of objects (id_to_write s.counters.ids.items w.op)))
        (all_but (tx_of seat t) (chain_in aimed class (id_to_write s.counters.ids.items w.op)), left);
    object = due_whatever s c class whole seat held due settled aimed kept (λ objects. row_written w.op ≡ None → chain_of objects (id_to_write s.counters.ids.items w.op) ≢ [])
        (λ none. subst (λ (k : ℕ). chain_in aimed k (id_to_write s.counters.ids.items w.op) ≢ []) of_class (deleted_there s.counters.ids.items aimed w.op fits.write has none));
  }

  -- the plan leads to its version in front of its object's chain
  leads_on : (pairs : List Pair) (header : ℕ) → LeadsToPut (class_in s.store class) (image_of s.memory) (class_of s.memory) pairs (new_version s seat t class w.op) header (row_written w.op) →
      LeadsTo s.schema (ground_of s) pairs class (id_to_write s.counters.ids.items w.op) (chain_in aimed class (id_to_write s.counters.ids.items w.op))
      (version_put header (s.counters.serials + 1) (tx_of seat t) (with_id w.op (id_to_write s.counters.ids.items w.op)) ∷ all_but (tx_of seat t) (chain_in aimed class (id_to_write s.counters.ids.items w.op)))
  leads_on pairs header leads objects holds is =
      subst (λ (row : Option (List Value)). Holds (schema_class s.schema class) (planned pairs (image_of s.memory)) (class_of s.memory)
      (with_chain objects (id_to_write s.counters.ids.items w.op) (record { header = header; serial = s.counters.serials + 1; stamp = stamp.By (tx_of seat t); row = row } ∷ all_but (tx_of seat t) (chain_in aimed class (id_to_write s.counters.ids.items w.op)))))
      (sym (same_row w.op (id_to_write s.counters.ids.items w.op)))
      (subst (λ (k : ClassNature). Holds k (planned pairs (image_of s.memory)) (class_of s.memory)
      (with_chain objects (id_to_write s.counters.ids.items w.op) (made_at header (new_version s seat t class w.op) (row_written w.op) ∷ all_but (tx_of seat t) (chain_in aimed class (id_to_write s.counters.ids.items w.op)))))
      (class_same s.schema s.store class whole.store here)
      (leads objects (subst (λ (k : ClassNature). Holds k (image_of s.memory) (class_of s.memory) objects) (sym (class_same s.schema s.store class whole.store here)) holds)
      (all_but (tx_of seat t) (chain_in aimed class (id_to_write s.counters.ids.items w.op)))
      (subst (λ (vs : List Version). IsLeft (new_version s seat t class w.op).replaces vs (all_but (tx_of seat t) (chain_in aimed class (id_to_write s.counters.ids.items w.op)))) (sym is) left)))

  fresh : (header : ℕ) → version_put header (s.counters.serials + 1) (tx_of seat t) (with_id w.op (id_to_write s.counters.ids.items w.op)) ∷ all_but (tx_of seat t) (chain_in aimed class (id_to_write s.counters.ids.items w.op)) ≢
      chain_in aimed class (id_to_write s.counters.ids.items w.op)
  fresh header same =
      let old : s.counters.serials + 1 ≤ s.counters.serials = kept.drawn_aimed.each_serial class (version_put header (s.counters.serials + 1) (tx_of seat t) (with_id w.op (id_to_write s.counters.ids.items w.op)))
      (record { id = id_to_write s.counters.ids.items w.op; within = subst (λ (vs : List Version). Contains vs (version_put header (s.counters.serials + 1) (tx_of seat t) (with_id w.op (id_to_write s.counters.ids.items w.op)))) same (zero, omega arith, refl) }) in
      absurd (omega (arith, old))

  pub put_some : (pairs : List Pair) (header : ℕ) → LeadsToPut (class_in s.store class) (image_of s.memory) (class_of s.memory) pairs (new_version s seat t class w.op) header (row_written w.op) → ¬ (pairs ≡ [])
  put_some pairs header leads =
      due_cell s c class whole seat held due settled aimed kept pairs (id_to_write s.counters.ids.items w.op)
      (version_put header (s.counters.serials + 1) (tx_of seat t) (with_id w.op (id_to_write s.counters.ids.items w.op)) ∷ all_but (tx_of seat t) (chain_in aimed class (id_to_write s.counters.ids.items w.op)))
      (leads_on pairs header leads) (fresh header)

  pub put_planned : (h : Hand) (plan : Record) (header : CellRef) → h ≡ putting plan (id_to_write s.counters.ids.items w.op) header seat.hand → IsRecord seat.hand.undo → IsPlanOn class (image_of s.memory) (class_of s.memory) plan →
      LeadsToPut (class_in s.store class) (image_of s.memory) (class_of s.memory) plan.pairs (new_version s seat t class w.op) header.number (row_written w.op) →
      IsKept s.schema s.transactions.manager (s.counters.serials + 1) (ids_after s.counters.ids.items w.op) (ground_in s.memory (record s.transactions.registry { seats = with_hand s.transactions.registry.seats c.slot h })) settled
      (with_put aimed class (id_to_write s.counters.ids.items w.op) (tx_of seat t) (version_put header.number (s.counters.serials + 1) (tx_of seat t) (with_id w.op (id_to_write s.counters.ids.items w.op))))
  put_planned h plan header is once on leads =
      subst (λ (x : Hand). IsKept s.schema s.transactions.manager (s.counters.serials + 1) (ids_after s.counters.ids.items w.op) (ground_in s.memory (record s.transactions.registry { seats = with_hand s.transactions.registry.seats c.slot x })) settled
      (with_put aimed class (id_to_write s.counters.ids.items w.op) (tx_of seat t) (version_put header.number (s.counters.serials + 1) (tx_of seat t) (with_id w.op (id_to_write s.counters.ids.items w.op)))))
      (sym (is ∙ (λ i. record seat.hand { plan = plan; work = option_map (put_by (id_to_write s.counters.ids.items w.op) header) (had i) })))
      (put_kept s.schema s.transactions.manager s.counters.serials s.counters.ids.items (ground_of s)
      (ground_in s.memory (record s.transactions.registry { seats = with_hand s.transactions.registry.seats c.slot (with_plan plan (Some (put_by (id_to_write s.counters.ids.items w.op) header w)) seat.hand) })) c seat settled aimed whole.lawful kept held due.phase due.live due.plan
      w had t opened (s.counters.serials + 1) (ids_after s.counters.ids.items w.op) class (id_to_write s.counters.ids.items w.op) plan (with_id w.op (id_to_write s.counters.ids.items w.op)) header
      (version_put header.number (s.counters.serials + 1) (tx_of seat t) (with_id w.op (id_to_write s.counters.ids.items w.op))) here (same_class w.op (id_to_write s.counters.ids.items w.op)) of_class (named_id s.counters.ids.items w.op)
      (makes_laid s c class whole seat held due settled aimed kept plan (Some (put_by (id_to_write s.counters.ids.items w.op) header w)) (id_to_write s.counters.ids.items w.op)
      (version_put header.number (s.counters.serials + 1) (tx_of seat t) (with_id w.op (id_to_write s.counters.ids.items w.op)) ∷ all_but (tx_of seat t) (chain_in aimed class (id_to_write s.counters.ids.items w.op))) once on (leads_on plan.pairs header.number leads))
      refl refl (let less : s.counters.serials < s.counters.serials + 1 = omega arith in less) (let most : s.counters.serials + 1 ≤ s.counters.serials + 1 = omega arith in most) (more_ids s.counters.ids.items w.op)
      (subst (λ (k : ℕ). id_to_write s.counters.ids.items w.op ≤ slice_index (ids_after s.counters.ids.items w.op) k) of_class
      (id_drawn s.counters.ids.items aimed w.op fits.write
      (let many = whole.ids in subst (λ (k : ℕ). k < length s.counters.ids.items) (sym of_class) (omega (arith, many, here)))
      has kept.drawn_aimed.each_id)))
