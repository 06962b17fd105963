-- What the plan of a record leads to: of its own writes, and of what others wrote.
use Rattle.std.proofs.Common.{◌≡◌, ◌≢◌, ◌<◌, ◌==◌, ◌&&◌, ◌||◌, ◌∷◌, ◌++◌, ℕ, List, [], length, drop, Bool, true, false, not, cond, Option, Some, None, is_none, slice_get, IsSomeAnd, option_map, find, nat_lt, refl, sym, ap, subst, ◌∙◌, arith, inl, inr, eq-eqb, eqb-true, le-ltb}
use Rattle.std.proofs.lemmas.Bool.{false≢true, and_from, and_parts, and_right, or_from, false_from_ne_true}
use Rattle.rdb_base.specs.declared.identity.ConnId.{ConnId}
use Rattle.rdb_base.specs.declared.identity.Manager.{Manager}
use Rattle.rdb_base.specs.declared.identity.Stamp.TheVariants as stamp
use Rattle.rdb_base.specs.declared.identity.TxId.{TxId}
use Rattle.rdb_base.specs.declared.operation.Op.{Op}
use Rattle.rdb_pages.specs.declared.cell.CellRef.{CellRef}
use Rattle.rdb_cells.specs.Records.{Record}
use Rattle.rdb_registry.specs.declared.hand.Hand.{Hand}
use Rattle.rdb_registry.specs.declared.hand.Work.{Work}
use Rattle.rdb_registry.specs.declared.own_writes.OwnWrite.{OwnWrite}
use Rattle.rdb_registry.specs.declared.seat.Seat.{Seat}
use Rattle.rdb_registry.specs.declared.seat.Transaction.{Transaction}
use Rattle.rdb_registry.specs.OwnWrites.{header_of, object_of, is_of, precedes, AllBehind, AreOrdered}
use Rattle.rdb_registry.specs.Seats.{HoldsLatch}
use Rattle.rdb_sight.specs.Sight.{is_own}
use Rattle.rdb_sight.specs.Versions.{Version, Object, Versions, IsAscending, objects_in, chain_in, chain_of, with_chain_in, own_version}
use Rattle.rdb_store.specs.Stored.{ref_of}
use Rattle.rdb_writes.specs.Steps.{spans_one_plan, is_written}
use Rattle.rdb_steps.specs.Kept.{is_dropping, tx_of}
use Rattle.rdb_steps.specs.Planned.{PlanLeads, HoldsFirst, IsWithin, header_after, all_but, object_named, same_object}
use Rattle.rdb_steps.proofs.MakingLemmas.{chain_here, each_chain}
use Rattle.rdb_steps.proofs.OwnLemmas.{chain_elsewhere, object_is}
use Rattle.rdb_steps.proofs.OwnChains.{own_itself, not_both, done_is_none, own_without, none_left, other_left, twice_left}

-- two objects by their numbers
same_yes : (a b : ℕ × ℕ) → a.0 ≡ b.0 → a.1 ≡ b.1 → same_object a b ≡ true
same_yes a b class id = and_from (a.0 == b.0) (a.1 == b.1) (eq-eqb a.0 b.0 class) (eq-eqb a.1 b.1 id)

same_no : (a b : ℕ × ℕ) → a ≢ b → same_object a b ≡ false
same_no a b ne = false_from_ne_true (same_object a b) (λ e. let both = and_parts (a.0 == b.0) (a.1 == b.1) e in
    let class = eqb-true a.0 b.0 both.0 in
    let id = eqb-true a.1 b.1 both.1 in
    ne (λ i. (class i, id i)))

-- own writes: whether one is of an object
pub is_of_it : (o : ℕ × ℕ) (w : OwnWrite) → w.class ≡ o.0 → w.id ≡ o.1 → is_of o w ≡ true
is_of_it o w class id = and_from (w.class == o.0) (w.id == o.1) (eq-eqb w.class o.0 class) (eq-eqb w.id o.1 id)

is_of_none : (o : ℕ × ℕ) (w : OwnWrite) → object_of w ≢ o → is_of o w ≡ false
is_of_none o w ne = false_from_ne_true (is_of o w) (λ e. let both = and_parts (w.class == o.0) (w.id == o.1) e in
    let class = eqb-true w.class o.0 both.0 in
    let id = eqb-true w.id o.1 both.1 in
    ne (λ i. (class i, id i)))

pub first_other : (o : ℕ × ℕ) (w : OwnWrite) (ws : List OwnWrite) → object_of w ≢ o → header_of (w ∷ ws) o ≡ header_of ws o
first_other o w ws ne = ap (λ b. option_map (λ (x : OwnWrite). x.header) (cond b (Some w) (find (is_of o) ws))) (is_of_none o w ne)

never_before : (a : ℕ × ℕ) → precedes a a ≡ false
never_before a = or_from (nat_lt a.0 a.0) ((a.0 == a.0) && nat_lt a.1 a.1) (le-ltb a.0 a.0 (omega arith)) (and_right (a.0 == a.0) (nat_lt a.1 a.1) (le-ltb a.1 a.1 (omega arith)))

none_of_behind : (o : ℕ × ℕ) (ws : List OwnWrite) → AllBehind o ws → header_of ws o ≡ None
none_of_behind o [] behind = refl
none_of_behind o (w ∷ ws) behind =
    first_other o w ws (λ same. false≢true (sym (never_before o) ∙ sym (ap (precedes o) same) ∙ behind.0))
    ∙ none_of_behind o ws behind.1

either : {X : Type 0} (b : Bool) (x : X) → cond b x x ≡ x
either true x = refl
either false x = refl

-- a record and the chain of one object of those aimed at are others
module _ (manager : Manager) (seat now : Seat) (settled aimed : Versions) (class id : ℕ) (chain : List Version) (t : Transaction)
    (opened : seat.transaction ≡ Some t) (conn : now.conn ≡ seat.conn) (transaction : now.transaction ≡ seat.transaction)
    (within : class < length aimed) (ascending : IsAscending (objects_in aimed class))
    (owned : (k j : ℕ) → IsWithin manager now k → header_of seat.hand.own.items (k, j) ≡ option_map ref_of (own_version (tx_of seat t) (chain_in aimed k j)))
    (same : spans_one_plan manager ≡ true → (k : ℕ) → HoldsLatch now k → objects_in aimed k ≡ objects_in settled k) where
  tx_now : (u : Transaction) → now.transaction ≡ Some u → tx_of now u ≡ tx_of seat t
  tx_now u open_now =
      let both : Some u ≡ Some t = sym open_now ∙ transaction ∙ opened in
      let is : u ≡ t = cc in
      λ i. record { conn = conn i; number = (is i).number }

  -- what is the same of the chain as it was and as it is, is so of all in the record's classes
  module _ {X : Type 0} (F : List Version → X) (here : F chain ≡ F (chain_in aimed class id)) where
    all_same : spans_one_plan manager ≡ true → (k j : ℕ) → HoldsLatch now k → F (chain_in (with_chain_in aimed class id chain) k j) ≡ F (chain_in settled k j)
    all_same spans k j held =
        each_chain aimed class id chain within ascending (λ a b vs. F vs ≡ F (chain_in aimed a b)) here (λ a b. refl) k j
        ∙ ap (λ (objects : List Object). F (chain_of objects j)) (same spans k held)

  pub leads : header_after now.hand (class, id) ≡ option_map ref_of (own_version (tx_of seat t) chain)
      → ((k j : ℕ) → ◌≢◌ {A = ℕ × ℕ} (k, j) (class, id) → header_after now.hand (k, j) ≡ header_of seat.hand.own.items (k, j))
      → ((other : TxId) → other ≢ tx_of seat t → own_version other chain ≡ own_version other (chain_in aimed class id))
      → (is_dropping now.hand ≡ true → all_but (tx_of seat t) chain ≡ all_but (tx_of seat t) (chain_in aimed class id))
      → (is_dropping now.hand ≡ true → HoldsFirst now)
      → PlanLeads manager now settled (with_chain_in aimed class id chain)
  leads here there others drop first = record {
    own = λ u open_now k j inside.
        each_object k j inside
        ∙ sym (ap (λ (tx : TxId). option_map ref_of (own_version tx (chain_in (with_chain_in aimed class id chain) k j))) (tx_now u open_now));
    others = λ spans u open_now other differs k j held.
        all_same (own_version other) (others other (λ e. differs (e ∙ sym (tx_now u open_now)))) spans k j held;
    drop = λ spans dropping u open_now k j held.
        ap (λ (tx : TxId). all_but tx (chain_in (with_chain_in aimed class id chain) k j)) (tx_now u open_now)
        ∙ all_same (all_but (tx_of seat t)) (drop dropping) spans k j held
        ∙ sym (ap (λ (tx : TxId). all_but tx (chain_in settled k j)) (tx_now u open_now));
    first = first;
  }
    where
      each_object : (k j : ℕ) → IsWithin manager now k → header_after now.hand (k, j) ≡ option_map ref_of (own_version (tx_of seat t) (chain_in (with_chain_in aimed class id chain) k j))
      each_object k j inside = elim (object_is k j class id) [
        | inl both ↦
            ap (header_after now.hand) (λ i. (both.0 i, both.1 i))
            ∙ here
            ∙ sym (ap (λ (vs : List Version). option_map ref_of (own_version (tx_of seat t) vs)) (chain_here aimed class id chain within ascending))
            ∙ sym (λ i. option_map ref_of (own_version (tx_of seat t) (chain_in (with_chain_in aimed class id chain) (both.0 i) (both.1 i))))
        | inr ne ↦
            there k j ne
            ∙ owned k j inside
            ∙ sym (ap (λ (vs : List Version). option_map ref_of (own_version (tx_of seat t) vs)) (chain_elsewhere aimed class id k j chain within ascending ne))
      ]

  -- where an operation is in work, no version is dropped
  undropped : (plan : Record) (op : Op) (bytes : List ℕ) (puts : Option CellRef) → now.hand ≡ record seat.hand { plan = plan; work = Some (record { op = op; bytes = bytes; puts = puts }) } → is_dropping now.hand ≡ true → ⊥
  undropped plan op bytes puts hand_is dropping = false≢true (sym (ap is_dropping hand_is ∙ and_right (not (length plan.pairs == 0)) false refl) ∙ dropping)

  -- the plan puts a version, and takes out the one that the transaction had
  pub put_leads : (plan : Record) (op : Op) (bytes : List ℕ) (header : CellRef) (v : Version)
      → now.hand ≡ record seat.hand { plan = plan; work = Some (record { op = op; bytes = bytes; puts = Some header }) }
      → (object_named op).0 ≡ class → (object_named op).1 ≡ id → v.header ≡ header.number → v.stamp ≡ stamp.By (tx_of seat t)
      → chain ≡ v ∷ all_but (tx_of seat t) (chain_in aimed class id)
      → PlanLeads manager now settled (with_chain_in aimed class id chain)
  put_leads plan op bytes header v hand_is of_class of_id at by is = leads
      (ap (λ (h : Hand). header_after h (class, id)) hand_is
      ∙ ap (λ b. cond b (Some header) (header_of seat.hand.own.items (class, id))) (same_yes (object_named op) (class, id) of_class of_id)
      ∙ ap (λ (n : ℕ). Some (record { number = n })) (sym at)
      ∙ sym (ap (λ (o : Option Version). option_map ref_of o) (ap (own_version (tx_of seat t)) is ∙ ap (λ b. cond b (Some v) (own_version (tx_of seat t) (all_but (tx_of seat t) (chain_in aimed class id)))) (own_itself (tx_of seat t) v.stamp by))))
      (λ k j ne.
      ap (λ (h : Hand). header_after h (k, j)) hand_is
      ∙ ap (λ b. cond b (Some header) (header_of seat.hand.own.items (k, j))) (same_no (object_named op) (k, j) (λ e. ne (sym e ∙ (λ i. (of_class i, of_id i))))))
      (λ other differs.
      ap (own_version other) is
      ∙ ap (λ b. cond b (Some v) (own_version other (all_but (tx_of seat t) (chain_in aimed class id)))) (not_both (tx_of seat t) other v.stamp differs (own_itself (tx_of seat t) v.stamp by))
      ∙ other_left (tx_of seat t) other differs (chain_in aimed class id))
      (λ dropping. absurd (undropped plan op bytes (Some header) hand_is dropping)) (λ dropping. absurd (undropped plan op bytes (Some header) hand_is dropping))

  -- the plan is the drop of a version whose commit is done
  pub garbage_leads : (plan : Record) (op : Op) (bytes : List ℕ) (newer older : List Version) (v : Version) (commit : ℕ)
      → now.hand ≡ record seat.hand { plan = plan; work = Some (record { op = op; bytes = bytes; puts = None }) }
      → HoldsLatch now class → v.stamp ≡ stamp.Done commit → chain_in aimed class id ≡ newer ++ v ∷ older → chain ≡ newer ++ older
      → PlanLeads manager now settled (with_chain_in aimed class id chain)
  garbage_leads plan op bytes newer older v commit hand_is latch done split is = leads
      (ap (λ (h : Hand). header_after h (class, id)) hand_is
      ∙ either (same_object (object_named op) (class, id)) (header_of seat.hand.own.items (class, id))
      ∙ owned class id (λ spans. latch)
      ∙ sym (ap (option_map ref_of) (stays (tx_of seat t))))
      (λ k j ne. ap (λ (h : Hand). header_after h (k, j)) hand_is ∙ either (same_object (object_named op) (k, j)) (header_of seat.hand.own.items (k, j)))
      (λ other differs. stays other)
      (λ dropping. absurd (undropped plan op bytes None hand_is dropping)) (λ dropping. absurd (undropped plan op bytes None hand_is dropping))
    where
      stays : (tx : TxId) → own_version tx chain ≡ own_version tx (chain_in aimed class id)
      stays tx = ap (own_version tx) is ∙ own_without tx newer v older (done_is_none tx v.stamp commit done) ∙ sym (ap (own_version tx) split)

  -- the plan is the drop of the first version that the transaction wrote
  pub drop_leads : (plan : Record) (w : OwnWrite) (ws : List OwnWrite)
      → now.hand ≡ record seat.hand { plan = plan; work = None }
      → seat.hand.own.items ≡ w ∷ ws → AreOrdered (w ∷ ws) → w.class ≡ class → w.id ≡ id → HoldsLatch now class
      → chain ≡ all_but (tx_of seat t) (chain_in aimed class id)
      → PlanLeads manager now settled (with_chain_in aimed class id chain)
  drop_leads plan w ws hand_is own_is ordered of_class of_id latch is = leads
      (ap (λ (h : Hand). header_after h (class, id)) hand_is
      ∙ ap (λ (o : List OwnWrite). header_of (drop 1 o) (class, id)) own_is
      ∙ none_of_behind (class, id) ws (subst (λ (o : ℕ × ℕ). AllBehind o ws) object_is_first ordered.0)
      ∙ sym (ap (option_map ref_of) (ap (own_version (tx_of seat t)) is ∙ none_left (tx_of seat t) (chain_in aimed class id))))
      (λ k j ne.
      ap (λ (h : Hand). header_after h (k, j)) hand_is
      ∙ ap (λ (o : List OwnWrite). header_of (drop 1 o) (k, j)) own_is
      ∙ sym (first_other (k, j) w ws (λ e. ne (sym e ∙ object_is_first)))
      ∙ sym (ap (λ (o : List OwnWrite). header_of o (k, j)) own_is))
      (λ other differs. ap (own_version other) is ∙ other_left (tx_of seat t) other differs (chain_in aimed class id))
      (λ dropping. ap (all_but (tx_of seat t)) is ∙ twice_left (tx_of seat t) (chain_in aimed class id))
      (λ dropping.
      subst (λ (o : List OwnWrite). IsSomeAnd (slice_get o 0) (λ own. HoldsLatch now own.class)) (sym (ap (λ (h : Hand). h.own.items) hand_is ∙ own_is))
      (subst (λ (k : ℕ). HoldsLatch now k) (sym of_class) latch))
    where
      object_is_first : ◌≡◌ {A = ℕ × ℕ} (object_of w) (class, id)
      object_is_first = λ i. (of_class i, of_id i)
