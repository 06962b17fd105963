-- The own plan of an operation is made, over counters that have drawn its numbers and a registry that has spent its claim.
use Rattle.std.proofs.Common.{◌≡◌, ◌<◌, ◌≤◌, ◌+◌, ℕ, List, [], length, Option, Some, None, IsSome, IsSomeAnd, option_map, refl, sym, ap, subst, ◌∙◌}
use Rattle.rdb_base.specs.declared.identity.ConnId.{ConnId}
use Rattle.rdb_base.specs.declared.identity.Stamp.TheVariants as stamp
use Rattle.rdb_base.specs.declared.operation.Op.{Op}
use Rattle.rdb_base.specs.Operations.{class_of as class_named}
use Rattle.rdb_pages.specs.declared.cell.CellRef.{CellRef}
use Rattle.rdb_cells.specs.declared.pairs.Pair.{Pair}
use Rattle.rdb_cells.specs.Records.{IsRecord}
use Rattle.rdb_registry.specs.declared.hand.Hand.{Hand}
use Rattle.rdb_registry.specs.declared.hand.Work.{Work}
use Rattle.rdb_registry.specs.declared.seat.Seat.{Seat}
use Rattle.rdb_registry.specs.declared.seat.Transaction.{Transaction}
use Rattle.rdb_registry.specs.OwnWrites.{header_of}
use Rattle.rdb_registry.specs.Registry.{Roll}
use Rattle.rdb_registry.specs.Seats.{Seats, seat_of, with_hand}
use Rattle.rdb_sight.specs.Versions.{Versions}
use Rattle.rdb_space.specs.Memory.{class_of, image_of}
use Rattle.rdb_store.specs.declared.plans.NewVersion.{NewVersion}
use Rattle.rdb_store.specs.Shapes.{class_in}
use Rattle.rdb_transactions.proofs.EditLemmas.{edited_hand, has_from, has_seat, record_after, same_seat}
use Rattle.rdb_steps.specs.declared.state.Counters.{Counters}
use Rattle.rdb_steps.specs.declared.state.State.{State}
use Rattle.rdb_steps.specs.Invariant.{IsKept}
use Rattle.rdb_steps.specs.Kept.{tx_of}
use Rattle.rdb_steps.specs.Laid.{IsPlanOn, IsReadyToPut, LeadsToPut}
use Rattle.rdb_steps.specs.Making.{row_written, version_put, with_id, with_put}
use Rattle.rdb_steps.specs.Planning.{HasObject, IsDue, MakesOwnPlan, WorksAt, aimed_at_put, id_to_write, ids_after, putting, spending, with_hand_of}
use Rattle.rdb_steps.specs.States.{IsWhole, Keeps, ground_in}
use Rattle.rdb_steps.specs.Written.{FallsDebt}
use Rattle.rdb_steps.proofs.DuePlans.{due_unput, due_work, falls_of}
use Rattle.rdb_steps.proofs.OwnPlans.{new_version, put_planned, put_some}
use Rattle.rdb_steps.proofs.OwnWhole.{put_falls, whole_put}

-- of the operation that a connection has in work, this is so
pub works_at : {P : Type 0} (s : State P) (c : ConnId) (seat : Seat) → seat_of s.transactions.registry.seats c ≡ Some seat → (w : Work) → seat.hand.work ≡ Some w → (Is : Seat → Work → Type 0) → Is seat w → WorksAt s c Is
works_at s c seat held w had Is is =
    has_from s.transactions.registry.seats c (λ x. IsSomeAnd x.hand.work (Is x)) seat held (subst (λ (o : Option Work). IsSomeAnd o (Is seat)) (sym had) is)

pub of_work : {P : Type 0} (s : State P) (c : ConnId) (seat : Seat) → seat_of s.transactions.registry.seats c ≡ Some seat → (w : Work) → seat.hand.work ≡ Some w → (Is : Seat → Work → Type 0) → WorksAt s c Is → Is seat w
of_work s c seat held w had Is at = subst (λ (o : Option Work). IsSomeAnd o (Is seat)) had (has_seat s.transactions.registry.seats c (λ x. IsSomeAnd x.hand.work (Is x)) seat at held)

module _ {P : Type 0} (s : State P) (c : ConnId) (class need : ℕ) (whole : IsWhole s) (seat : Seat) (held : seat_of s.transactions.registry.seats c ≡ Some seat) (due : IsDue class seat)
    (w : Work) (had : seat.hand.work ≡ Some w) (of_class : class_named w.op ≡ class) (t : Transaction) (opened : seat.transaction ≡ Some t)
    (first second : Counters) (serials_first : first.serials ≡ s.counters.serials + 1) (ids_first : first.ids ≡ s.counters.ids) (o : Op) (op_is : w.op ≡ o)
    (serials_second : second.serials ≡ first.serials) (ids_second : second.ids.items ≡ ids_after first.ids.items o) (id serial : ℕ) (id_is : id ≡ id_to_write first.ids.items o) (serial_is : serial ≡ s.counters.serials + 1)
    (new : NewVersion) (new_is : new ≡ record { class = class; id = id; serial = serial; stamp = stamp.By (tx_of seat t); replaces = header_of seat.hand.own.items (class, id) }) where
  id_here : id ≡ id_to_write s.counters.ids.items w.op
  id_here = id_is ∙ (λ i. id_to_write (ids_first i).items (sym op_is i))

  pub new_here : new ≡ new_version s seat t class w.op
  new_here = new_is ∙ (λ i. record { class = class; id = id_here i; serial = serial_is i; stamp = stamp.By (tx_of seat t); replaces = header_of seat.hand.own.items (class, id_here i) })

  -- the plan is laid in its hand
  module _ (spent : Roll) (spends : spent ≡ spending s.transactions.registry c.slot class need) (was h : Hand) (lent : IsSomeAnd (seat_of spent.seats c) (λ x. was ≡ x.hand)) (header : CellRef)
      (laid : h ≡ putting h.plan new.id header was)
      (leads : IsSomeAnd was.work (λ work. LeadsToPut (class_in s.store new.class) (image_of s.memory) (class_of s.memory) h.plan.pairs new header.number (row_written work.op)))
      (on : IsPlanOn new.class (image_of s.memory) (class_of s.memory) h.plan) (once : IsRecord was.undo) where
    was_is : was ≡ seat.hand
    was_is =
        subst (λ (x : Option Seat). IsSomeAnd x (λ y. was ≡ y.hand)) held (subst (λ (r : Roll). IsSomeAnd (seat_of r.seats c) (λ x. was ≡ x.hand)) spends lent)

    laid_here : h ≡ putting h.plan (id_to_write s.counters.ids.items w.op) header seat.hand
    laid_here = laid ∙ (λ i. putting h.plan (new_here i).id header (was_is i))

    leads_here : LeadsToPut (class_in s.store class) (image_of s.memory) (class_of s.memory) h.plan.pairs (new_version s seat t class w.op) header.number (row_written w.op)
    leads_here =
        subst (λ (n : NewVersion). LeadsToPut (class_in s.store n.class) (image_of s.memory) (class_of s.memory) h.plan.pairs n header.number (row_written w.op)) new_here
        (subst (λ (x : Option Work). IsSomeAnd x (λ work. LeadsToPut (class_in s.store new.class) (image_of s.memory) (class_of s.memory) h.plan.pairs new header.number (row_written work.op))) (ap (λ (x : Hand). x.work) was_is ∙ had) leads)

    on_here : IsPlanOn class (image_of s.memory) (class_of s.memory) h.plan
    on_here = subst (λ (n : NewVersion). IsPlanOn n.class (image_of s.memory) (class_of s.memory) h.plan) new_here on

    once_here : IsRecord seat.hand.undo
    once_here = subst (λ (x : Hand). IsRecord x.undo) was_is once

    serials_now : second.serials ≡ s.counters.serials + 1
    serials_now = serials_second ∙ serials_first

    ids_now : second.ids.items ≡ ids_after s.counters.ids.items w.op
    ids_now = ids_second ∙ (λ i. ids_after (ids_first i).items (sym op_is i))

    pub made_kept : (settled aimed : Versions) → Keeps s settled aimed → HasObject aimed w.op → (u : Transaction) → seat.transaction ≡ Some u →
        IsKept s.schema s.transactions.manager second.serials second.ids.items (ground_in s.memory (record spent { seats = with_hand spent.seats c.slot h })) settled (aimed_at_put s seat u w.op header aimed)
    made_kept settled aimed kept has u opened_so =
        subst (λ (x : Transaction). IsKept s.schema s.transactions.manager second.serials second.ids.items (ground_in s.memory (record spent { seats = with_hand spent.seats c.slot h })) settled (aimed_at_put s seat x w.op header aimed))
        (let both : Some t ≡ Some u = sym opened ∙ opened_so in let same : t ≡ u = cc in same)
        (subst (λ (k : ℕ). IsKept s.schema s.transactions.manager second.serials second.ids.items (ground_in s.memory (record spent { seats = with_hand spent.seats c.slot h })) settled
        (with_put aimed k (id_to_write s.counters.ids.items w.op) (tx_of seat t) (version_put header.number (s.counters.serials + 1) (tx_of seat t) (with_id w.op (id_to_write s.counters.ids.items w.op))))) (sym of_class)
        (subst (λ (r : Roll). IsKept s.schema s.transactions.manager second.serials second.ids.items (ground_in s.memory (record r { seats = with_hand r.seats c.slot h })) settled
        (with_put aimed class (id_to_write s.counters.ids.items w.op) (tx_of seat t) (version_put header.number (s.counters.serials + 1) (tx_of seat t) (with_id w.op (id_to_write s.counters.ids.items w.op))))) (sym spends)
        (subst (λ (n : ℕ). IsKept s.schema s.transactions.manager n second.ids.items (ground_in s.memory (record s.transactions.registry { seats = with_hand s.transactions.registry.seats c.slot h })) settled
        (with_put aimed class (id_to_write s.counters.ids.items w.op) (tx_of seat t) (version_put header.number (s.counters.serials + 1) (tx_of seat t) (with_id w.op (id_to_write s.counters.ids.items w.op))))) (sym serials_now)
        (subst (λ (ns : List ℕ). IsKept s.schema s.transactions.manager (s.counters.serials + 1) ns (ground_in s.memory (record s.transactions.registry { seats = with_hand s.transactions.registry.seats c.slot h })) settled
        (with_put aimed class (id_to_write s.counters.ids.items w.op) (tx_of seat t) (version_put header.number (s.counters.serials + 1) (tx_of seat t) (with_id w.op (id_to_write s.counters.ids.items w.op))))) (sym ids_now)
        (put_planned s c class whole seat held due settled aimed kept w had of_class t opened has h h.plan header laid_here once_here on_here leads_here)))))

    pub made_becomes : (settled aimed : Versions) → Keeps s settled aimed → HasObject aimed w.op →
        MakesOwnPlan s (record s { transactions = record s.transactions { registry = record spent { seats = with_hand spent.seats c.slot h } }; counters = second }) c w.op class need header
    made_becomes settled aimed kept has = record {
      made = h.plan;
      some = put_some s c class whole seat held due settled aimed kept w had of_class t opened has h.plan.pairs header.number leads_here;
      transactions =
          ap (λ (r : Roll). record s.transactions { registry = r })
          ((λ i. record (spends i) { seats = with_hand (spends i).seats c.slot ((laid ∙ (λ j. putting h.plan (new_here j).id header was)) i) })
          ∙ edited_hand (spending s.transactions.registry c.slot class need) c (putting h.plan (id_to_write s.counters.ids.items w.op) header) was
          (subst (λ (r : Roll). IsSomeAnd (seat_of r.seats c) (λ x. was ≡ x.hand)) spends lent));
      serials = serials_now;
      ids = ids_now;
      schema = refl;
      memory = refl;
      store = refl;
    }

    pub made_whole : (settled aimed : Versions) → Keeps s settled aimed → need ≤ 1024 → w.puts ≡ None →
        IsWhole (record s { transactions = record s.transactions { registry = record spent { seats = with_hand spent.seats c.slot h } }; counters = second })
    made_whole settled aimed kept small unput =
        subst (λ (r : Roll). IsWhole (record s { transactions = record s.transactions { registry = record r { seats = with_hand r.seats c.slot h } }; counters = second })) (sym spends)
        (whole_put s c class whole seat held due settled aimed kept w had unput h h.plan (id_to_write s.counters.ids.items w.op) header need second laid_here on_here.room small serials_now ids_now)

    pub made_nearer : (settled aimed : Versions) → Keeps s settled aimed → w.puts ≡ None →
        (x now : Seat) → seat_of s.transactions.registry.seats c ≡ Some x → seat_of (with_hand spent.seats c.slot h) c ≡ Some now → FallsDebt s.transactions.manager x now
    made_nearer settled aimed kept unput x now held_x there =
        falls_of s c class whole seat held due settled aimed kept h (FallsDebt s.transactions.manager)
        (put_falls s c class whole seat held due settled aimed kept w had unput h h.plan (id_to_write s.counters.ids.items w.op) header laid_here on_here.once on_here.room)
        x now held_x (subst (λ (r : Roll). seat_of (with_hand r.seats c.slot h) c ≡ Some now) spends there)
