-- A plan is made: one record and one chain of those aimed at change, and no cell. What is kept of all others.
use Rattle.std.proofs.Common.{◌≡◌, ◌≢◌, ◌⊎◌, ◌<◌, ◌≤◌, ◌||◌, ℕ, List, [], length, Bool, true, false, Option, Some, None, Contains, AllPairs, option_map, option_and_then, is_some, slice_index, refl, sym, ap, subst, ◌∙◌, arith, inl, inr}
use Rattle.std.proofs.lemmas.Bool.{false≢true, or_parts}
use Rattle.std.proofs.lemmas.Option.{option_and_then_some}
use Rattle.std.proofs.Permutation.{which}
use Rattle.rdb_base.specs.declared.identity.ConnId.{ConnId}
use Rattle.rdb_base.specs.declared.identity.Kind.TheVariants as kind
use Rattle.rdb_base.specs.declared.identity.Manager.{Manager}
use Rattle.rdb_base.specs.declared.identity.Stamp.TheVariants as stamp
use Rattle.rdb_base.specs.declared.identity.TxId.{TxId}
use Rattle.rdb_schema.specs.declared.schema.Schema.{Schema}
use Rattle.rdb_cells.proofs.SettledLemmas.{true_or_false}
use Rattle.rdb_registry.specs.declared.hand.Hand.{Hand}
use Rattle.rdb_registry.specs.declared.own_writes.OwnWrite.{OwnWrite}
use Rattle.rdb_registry.specs.declared.seat.Seat.{Seat}
use Rattle.rdb_registry.specs.declared.seat.Transaction.{Transaction}
use Rattle.rdb_registry.specs.OwnWrites.{header_of}
use Rattle.rdb_registry.specs.Seats.{Seats, seat_in, seat_of, if_conn, HoldsLatch}
use Rattle.rdb_registry.proofs.SlotLemmas.{if_conn_is, own_seat}
use Rattle.rdb_sight.specs.Versions.{Version, Versions, IsAscending, objects_in, chain_in, with_chain_in, own_version}
use Rattle.rdb_store.specs.Stored.{HasVersion, ref_of}
use Rattle.rdb_writes.specs.Grounds.{Ground, HaveOneHolder}
use Rattle.rdb_writes.specs.Steps.{spans_one_plan, is_written}
use Rattle.rdb_writes.proofs.WorkLemmas.{in_its_slot}
use Rattle.rdb_steps.specs.Invariant.{IsKept, IsSingle, DropsNone}
use Rattle.rdb_steps.specs.Kept.{Agrees, OwnAre, Owns, AreDrawn, HasNoVersion, aims, is_marked, owns_settled, takes_back, tx_of}
use Rattle.rdb_steps.specs.Phases.{Rests}
use Rattle.rdb_steps.specs.Planned.{PlanLeads, PlanIsGood, IsWithin, header_after, all_but}
use Rattle.rdb_steps.specs.Stamped.{IsOpen, AreOfTwo, AreStamped}
use Rattle.rdb_steps.proofs.OwnLemmas.{chain_now, chain_of_other_class, chain_elsewhere, object_is}

-- one record is another, of the same connection and with the same transaction
pub record OneChanges (before after : Seats) (slot : ℕ) (seat now : Seat) : Type 0 where
  pub at : seat_in before slot ≡ Some seat
  pub at_now : seat_in after slot ≡ Some now
  pub others : (i : ℕ) → i ≢ slot → seat_in after i ≡ seat_in before i
  pub conn : now.conn ≡ seat.conn
  pub transaction : now.transaction ≡ seat.transaction

conn_of : (seats : Seats) (c : ConnId) (s : Seat) → seat_of seats c ≡ Some s → s.conn ≡ c
conn_of seats c s e =
    option_and_then_some (if_conn c) (seat_in seats c.slot) s e (λ x there is. ap (λ (z : Seat). z.conn) (sym (if_conn_is c x s is).1) ∙ (if_conn_is c x s is).0)

-- the open transaction of a record that is held
pub own_open : (seats : Seats) (c : ConnId) (seat : Seat) (t : Transaction) → seat_of seats c ≡ Some seat → seat.transaction ≡ Some t → IsOpen seats (tx_of seat t)
own_open seats c seat t held opened = record {
  seat = seat;
  transaction = t;
  held = ap (seat_of seats) (conn_of seats c seat held) ∙ held;
  open_one = opened;
  number = refl;
}

module _ (before after : Seats) (slot : ℕ) (seat now : Seat) (one : OneChanges before after slot seat now) where
  pub mine : (i : ℕ) (s : Seat) → i ≡ slot → seat_in after i ≡ Some s → s ≡ now
  mine i s same there = let both : Some s ≡ Some now = sym there ∙ ap (seat_in after) same ∙ one.at_now in cc

  pub was_mine : (i : ℕ) (s : Seat) → i ≡ slot → seat_in before i ≡ Some s → s ≡ seat
  was_mine i s same there = let both : Some s ≡ Some seat = sym there ∙ ap (seat_in before) same ∙ one.at in cc

  -- what a record has open now, it had open before
  had : (i : ℕ) (s : Seat) → seat_in after i ≡ Some s → (b : Seat) × (seat_in before i ≡ Some b) × (s.transaction ≡ b.transaction)
  had i s there = elim (which i slot) [
    | inl same ↦ (seat, ap (seat_in before) same ∙ one.at, ap (λ (x : Seat). x.transaction) (mine i s same there) ∙ one.transaction)
    | inr ne ↦ (s, sym (one.others i ne) ∙ there, refl)
  ]

  pub single_after : (manager : Manager) → IsSingle manager before → IsSingle manager after
  single_after manager single alone i j a b t u at_i at_j open_a writes open_b =
      let x = had i a at_i in
      let y = had j b at_j in
      single alone i j x.0 y.0 t u x.1 y.1 (sym x.2 ∙ open_a) writes (sym y.2 ∙ open_b)

  pub open_after : (tx : TxId) → IsOpen before tx → IsOpen after tx
  open_after tx o = elim (which tx.conn.slot slot) [
    | inl same ↦
        let here : o.seat ≡ seat = was_mine tx.conn.slot o.seat same (in_its_slot before tx.conn o.seat o.held) in
        let conn_is : now.conn ≡ tx.conn = one.conn ∙ ap (λ (x : Seat). x.conn) (sym here) ∙ conn_of before tx.conn o.seat o.held in
        record {
          seat = now;
          transaction = o.transaction;
          held =
              subst (λ (c : ConnId). seat_of after c ≡ Some now) conn_is
              (own_seat after slot now one.at_now (ap (λ (c : ConnId). c.slot) conn_is ∙ same));
          open_one = one.transaction ∙ ap (λ (x : Seat). x.transaction) (sym here) ∙ o.open_one;
          number = o.number;
        }
    | inr ne ↦ record {
      seat = o.seat;
      transaction = o.transaction;
      held = ap (option_and_then (if_conn tx.conn)) (one.others tx.conn.slot ne) ∙ o.held;
      open_one = o.open_one;
      number = o.number;
    }
  ]

  pub stamped_after : (versions : Versions) → AreStamped before versions → AreStamped after versions
  stamped_after versions stamped = record {
    once = stamped.once;
    open_ones = λ class id v tx within is. open_after tx (stamped.open_ones class id v tx within is);
  }

-- one object has another chain
module _ (aimed : Versions) (class id : ℕ) (chain : List Version) (within : class < length aimed) (ascending : IsAscending (objects_in aimed class)) where
  pub chain_here : chain_in (with_chain_in aimed class id chain) class id ≡ chain
  chain_here = chain_now aimed class id chain within ascending

  -- what is so of that chain, and was of all others, is so of all
  pub each_chain : (P : ℕ → ℕ → List Version → Type 0) → P class id chain → ((k j : ℕ) → P k j (chain_in aimed k j)) → (k j : ℕ) → P k j (chain_in (with_chain_in aimed class id chain) k j)
  each_chain P here all k j = elim (object_is k j class id) [
    | inl same ↦
        subst (λ (a : ℕ). P a j (chain_in (with_chain_in aimed class id chain) a j)) (sym same.0)
        (subst (λ (b : ℕ). P class b (chain_in (with_chain_in aimed class id chain) class b)) (sym same.1)
        (subst (λ (vs : List Version). P class id vs) (sym chain_here) here))
    | inr ne ↦
        subst (λ (vs : List Version). P k j vs) (sym (chain_elsewhere aimed class id k j chain within ascending ne)) (all k j)
  ]

-- more serials and ids are drawn
pub drawn_more : (serials serials_now : ℕ) (ids ids_now : List ℕ) (versions : Versions) → serials ≤ serials_now → ((k : ℕ) → slice_index ids k ≤ slice_index ids_now k) →
    AreDrawn serials ids versions → AreDrawn serials_now ids_now versions
drawn_more serials serials_now ids ids_now versions more_serials more_ids drawn = record {
  each_serial = λ class v has. let was = drawn.each_serial class v has in omega (arith, was, more_serials);
  each_id = λ class id some. let was = drawn.each_id class id some in let more = more_ids class in omega (arith, was, more);
}

-- What is so of the record and of the chain that are new, beside what was kept.
pub record MakesChain (schema : Schema) (manager : Manager) (serials : ℕ) (ids : List ℕ) (before after : Ground) (seat now : Seat) (settled aimed : Versions) (class id : ℕ)
    (chain : List Version) : Type 0 where
  pub one_holder : HaveOneHolder after.seats
  pub open_one : Transaction
  pub opened : seat.transaction ≡ Some open_one
  pub writes : open_one.kind ≡ kind.ReadWrite
  pub latch : HoldsLatch now class
  pub within : class < length schema.classes
  pub ascending : IsAscending (objects_in aimed class)
  pub lists : Agrees schema manager after settled (with_chain_in aimed class id chain)
  pub own_same : now.hand.own.items ≡ seat.hand.own.items
  pub undo_same : now.hand.undo.pairs ≡ seat.hand.undo.pairs
  pub settled_same : owns_settled manager now ≡ owns_settled manager seat
  pub unwritten : is_written now.hand ≡ false
  pub leads : PlanLeads manager now settled (with_chain_in aimed class id chain)
  pub drops : DropsNone manager now
  pub rests : Rests manager (length schema.classes) now
  pub once : AllPairs AreOfTwo chain
  pub open_ones : (v : Version) (tx : TxId) → Contains chain v → v.stamp ≡ stamp.By tx → IsOpen before.seats tx
  pub serial_drawn : (v : Version) → Contains chain v → v.serial ≤ serials
  pub id_drawn : chain ≢ [] → id ≤ slice_index ids class

module _ (schema : Schema) (manager : Manager) (serials serials_now : ℕ) (ids ids_now : List ℕ) (before after : Ground) (slot : ℕ) (seat now : Seat) (settled aimed : Versions) (class id : ℕ) (chain : List Version)
    (kept : IsKept schema manager serials ids before settled aimed)
    (more_serials : serials ≤ serials_now) (more_ids : (k : ℕ) → slice_index ids k ≤ slice_index ids_now k)
    (one : OneChanges before.seats after.seats slot seat now)
    (makes : MakesChain schema manager serials_now ids_now before after seat now settled aimed class id chain) where
  there_before : (i : ℕ) (s : Seat) → i ≢ slot → seat_in after.seats i ≡ Some s → seat_in before.seats i ≡ Some s
  there_before i s ne there = sym (one.others i ne) ∙ there

  in_aimed : class < length aimed
  in_aimed = let count = kept.agrees.rest.count in let within = makes.within in omega (arith, count, within)

  -- in the classes of other connections the chains stay
  chain_stays : (i : ℕ) (s : Seat) → i ≢ slot → seat_in after.seats i ≡ Some s → (k j : ℕ) → HoldsLatch s k → chain_in (with_chain_in aimed class id chain) k j ≡ chain_in aimed k j
  chain_stays i s ne there k j held =
      chain_of_other_class aimed class id k j chain (λ same. ne (makes.one_holder class i slot s now there one.at_now (subst (λ (x : ℕ). HoldsLatch s x) same held) makes.latch))

  -- beside a single writer nobody has a transaction
  closed : (i : ℕ) (s : Seat) (u : Transaction) → i ≢ slot → seat_in after.seats i ≡ Some s → spans_one_plan manager ≡ false → s.transaction ≡ Some u → ⊥
  closed i s u ne there alone open_s = ne (sym (kept.single alone slot i seat s makes.open_one u one.at (there_before i s ne there) makes.opened makes.writes open_s))

  own_other : (i : ℕ) (s : Seat) → i ≢ slot → seat_in after.seats i ≡ Some s → OwnAre manager s settled (with_chain_in aimed class id chain)
  own_other i s ne there = let was = kept.own i s (there_before i s ne there) in record {
    are_settled = was.are_settled;
    are_made = λ open_own back written u open_s. absurd (closed i s u ne there (or_parts (spans_one_plan manager) _ open_own).0 open_s);
    none_settled = was.none_settled;
    none_logged = was.none_logged;
  }

  own_now : OwnAre manager now settled (with_chain_in aimed class id chain)
  own_now = let was = kept.own slot seat one.at in record {
    are_settled = λ e u open_now k j.
        ap (λ (ws : List OwnWrite). header_of ws (k, j)) makes.own_same
        ∙ was.are_settled (sym makes.settled_same ∙ e) u (sym one.transaction ∙ open_now) k j
        ∙ sym (ap (λ (c : ConnId). option_map ref_of (own_version (record { conn = c; number = u.number }) (chain_in settled k j))) one.conn);
    are_made = λ open_own back written. absurd (false≢true (sym makes.unwritten ∙ written));
    none_settled = λ alone unmarked u open_now k j.
        ap (λ (c : ConnId). own_version (record { conn = c; number = u.number }) (chain_in settled k j)) one.conn
        ∙ was.none_settled alone (marked_same ∙ unmarked) u (sym one.transaction ∙ open_now) k j;
    none_logged = λ alone unmarked empty. makes.own_same ∙ was.none_logged alone (marked_same ∙ unmarked) (sym makes.undo_same ∙ empty);
  }
    where
      marked_same : is_marked seat ≡ is_marked now
      marked_same = sym (ap (λ (t : Option Transaction). is_some (option_and_then (λ (x : Transaction). x.mark) t)) one.transaction)

  plans_other : (i : ℕ) (s : Seat) → i ≢ slot → seat_in after.seats i ≡ Some s → PlanIsGood manager s settled (with_chain_in aimed class id chain)
  plans_other i s ne there speaks unwritten = let was = kept.plans i s (there_before i s ne there) speaks unwritten in record {
    own = λ u open_s k j inside. elim (true_or_false (spans_one_plan manager)) [
      | inl spans ↦
          was.own u open_s k j inside
          ∙ sym (ap (λ (vs : List Version). option_map ref_of (own_version (tx_of s u) vs)) (chain_stays i s ne there k j (inside spans)))
      | inr alone ↦ absurd (closed i s u ne there alone open_s)
    ];
    others = λ spans u open_s other differs k j held. ap (own_version other) (chain_stays i s ne there k j held) ∙ was.others spans u open_s other differs k j held;
    drop = λ spans dropping u open_s k j held. ap (all_but (tx_of s u)) (chain_stays i s ne there k j held) ∙ was.drop spans dropping u open_s k j held;
    first = was.first;
  }

  stamped_now : AreStamped after.seats (with_chain_in aimed class id chain)
  stamped_now = record {
    once = each_chain aimed class id chain in_aimed makes.ascending (λ k j vs. AllPairs AreOfTwo vs) makes.once kept.stamped_aimed.once;
    open_ones =
        each_chain aimed class id chain in_aimed makes.ascending (λ k j vs. (v : Version) (tx : TxId) → Contains vs v → v.stamp ≡ stamp.By tx → IsOpen after.seats tx)
        (λ v tx there by. open_after before.seats after.seats slot seat now one tx (makes.open_ones v tx there by))
        (λ k j v tx there by. open_after before.seats after.seats slot seat now one tx (kept.stamped_aimed.open_ones k j v tx there by));
  }

  drawn_now : AreDrawn serials_now ids_now (with_chain_in aimed class id chain)
  drawn_now = let was = drawn_more serials serials_now ids ids_now aimed more_serials more_ids kept.drawn_aimed in record {
    each_serial = λ k v has.
        each_chain aimed class id chain in_aimed makes.ascending (λ a b vs. Contains vs v → v.serial ≤ serials_now) (makes.serial_drawn v)
        (λ a b there. was.each_serial a v (record { id = b; within = there })) k has.id has.within;
    each_id = each_chain aimed class id chain in_aimed makes.ascending (λ a b vs. vs ≢ [] → b ≤ slice_index ids_now a) makes.id_drawn was.each_id;
  }

  pub plan_kept : IsKept schema manager serials_now ids_now after settled (with_chain_in aimed class id chain)
  plan_kept = record {
    agrees = makes.lists;
    one_holder = makes.one_holder;
    single = single_after before.seats after.seats slot seat now one manager kept.single;
    own = λ i s there. elim (which i slot) [
      | inl same ↦ subst (λ (x : Seat). OwnAre manager x settled (with_chain_in aimed class id chain)) (sym (mine before.seats after.seats slot seat now one i s same there)) own_now
      | inr ne ↦ own_other i s ne there
    ];
    plans = λ i s there. elim (which i slot) [
      | inl same ↦ subst (λ (x : Seat). PlanIsGood manager x settled (with_chain_in aimed class id chain)) (sym (mine before.seats after.seats slot seat now one i s same there)) (λ speaks unwritten. makes.leads)
      | inr ne ↦ plans_other i s ne there
    ];
    drops = λ i s there. elim (which i slot) [
      | inl same ↦ subst (λ (x : Seat). DropsNone manager x) (sym (mine before.seats after.seats slot seat now one i s same there)) makes.drops
      | inr ne ↦ kept.drops i s (there_before i s ne there)
    ];
    rests = λ i s there. elim (which i slot) [
      | inl same ↦ subst (λ (x : Seat). Rests manager (length schema.classes) x) (sym (mine before.seats after.seats slot seat now one i s same there)) makes.rests
      | inr ne ↦ kept.rests i s (there_before i s ne there)
    ];
    stamped = stamped_after before.seats after.seats slot seat now one settled kept.stamped;
    stamped_aimed = stamped_now;
    drawn = drawn_more serials serials_now ids ids_now settled more_serials more_ids kept.drawn;
    drawn_aimed = drawn_now;
  }
