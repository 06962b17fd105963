-- Each cell of the drop of a version that is written, and each pair that is taken back, brings the end nearer.
use Rattle.std.proofs.Common.{◌≡◌, ◌⊎◌, ◌<◌, ◌+◌, ◌-◌, ◌*◌, ◌==◌, ◌||◌, ◌&&◌, ℕ, zero, suc, List, [], length, drop, Bool, true, false, cond, not, Option, Some, None, IsSome, IsSomeAnd, is_some, is_none, slice_get, refl, sym, ap, subst, ◌∙◌, arith, eqb-true, inl, inr}
use Rattle.std.proofs.lemmas.Bool.{false≢true, ne_eqb}
use Rattle.rdb_base.specs.declared.identity.ConnId.{ConnId}
use Rattle.rdb_base.specs.declared.identity.Kind.TheVariants as kind
use Rattle.rdb_base.specs.declared.identity.Manager.{Manager}
use Rattle.rdb_base.specs.declared.identity.Phase.{Phase}
use Rattle.rdb_base.specs.declared.identity.Phase.TheVariants as phase
use Rattle.rdb_base.specs.Room.{Reserved}
use Rattle.rdb_schema.specs.declared.schema.Schema.{Schema}
use Rattle.rdb_cells.specs.declared.pairs.Pair.{Pair}
use Rattle.rdb_cells.specs.Records.{Record}
use Rattle.rdb_cells.proofs.SettledLemmas.{true_or_false}
use Rattle.rdb_registry.specs.declared.hand.Hand.{Hand}
use Rattle.rdb_registry.specs.declared.hand.Work.{Work}
use Rattle.rdb_registry.specs.declared.own_writes.OwnWrite.{OwnWrite}
use Rattle.rdb_registry.specs.declared.seat.Condemned.{Condemned}
use Rattle.rdb_registry.specs.declared.seat.Seat.{Seat}
use Rattle.rdb_registry.specs.Registry.{Roll}
use Rattle.rdb_registry.specs.Seats.{Seats, seat_in, seat_of}
use Rattle.rdb_sight.specs.Versions.{Versions}
use Rattle.rdb_space.specs.Memory.{RegionCells}
use Rattle.rdb_transactions.proofs.EditLemmas.{same_seat}
use Rattle.rdb_writes.specs.Steps.{spans_one_plan, is_written}
use Rattle.rdb_writes.proofs.WorkLemmas.{in_its_slot}
use Rattle.rdb_steps.specs.Debt.{debt, repair_debt, settled_own}
use Rattle.rdb_steps.specs.Invariant.{IsKept}
use Rattle.rdb_steps.specs.Kept.{is_dropping, is_marked}
use Rattle.rdb_steps.specs.Phases.{IsRollingBack, Rests, RestsIn}
use Rattle.rdb_steps.specs.States.{ground_in}
use Rattle.rdb_steps.specs.Steps.{forgetting_own, is_at_last, without_first}
use Rattle.rdb_steps.specs.Written.{FallsDebt, ForgetsIn, TakesPairBack, WritesDrop, is_emptied}
use Rattle.rdb_steps.proofs.BackLemmas.{none_dropped}
use Rattle.rdb_steps.proofs.DebtFalls.{condemned_debt, dropping_debt, falls_by_repair, holding_debt, one_fewer, rolling_debt, settled_all, settled_none, taking_debt}
use Rattle.rdb_steps.proofs.HandKept.{dropping_idle, or_first}
use Rattle.rdb_steps.proofs.RepairLemmas.{one_longer}
use Rattle.rdb_steps.proofs.StateBacks.{own_only}

-- a record is repaired, or rolls back
abbrev IsMended : Seat → Type 0
IsMended seat = IsSome seat.condemned ⊎ (seat.hand.phase ≡ phase.RollingBack)

mended_debt : (manager : Manager) (seat : Seat) → IsMended seat → (versions pages : ℕ) → debt manager seat versions pages ≡ repair_debt manager seat
mended_debt manager seat (inl condemned) versions pages = condemned_debt manager seat versions pages condemned
mended_debt manager seat (inr rolls) versions pages = rolling_debt manager seat versions pages rolls

live_or_not : (o : Option Condemned) → (o ≡ None) ⊎ IsSome o
live_or_not None = inl refl
live_or_not (Some x) = inr refl

no_work : (o : Option Work) → o ≡ None → IsSome o → ⊥
no_work None e some = false≢true some
no_work (Some w) e some = absurd cc

not_both : (b : Bool) → b ≡ false → b ≡ true → ⊥
not_both true f t = absurd (false≢true (sym f))
not_both false f t = false≢true t

-- who drops a version is repaired or rolls back, and has no mark
dropping_mends : (manager : Manager) (classes : ℕ) (seat : Seat) → Rests manager classes seat → is_dropping seat.hand ≡ true → IsMended seat × (is_marked seat ≡ false)
dropping_mends manager classes seat rests drops = go seat.hand.phase refl rests
  where
    idle : seat.hand.plan.pairs ≡ [] → ⊥
    idle empty = not_both (is_dropping seat.hand) (none_dropped seat.hand empty) drops

    go : (p : Phase) → seat.hand.phase ≡ p → RestsIn manager classes seat p → IsMended seat × (is_marked seat ≡ false)
    go phase.Idle e q = absurd (idle q.rest.plan)
    go (phase.Running kind.ReadOnly) e q = absurd (idle q.rest.plan)
    go (phase.Running kind.ReadWrite) e q = elim (live_or_not seat.condemned) [
      | inl live ↦ absurd (idle (q.plan live))
      | inr condemned ↦ (inl condemned, q.writer.1)
    ]
    go phase.Writing e q = elim (live_or_not seat.condemned) [
      | inl live ↦ absurd (no_work seat.hand.work (dropping_idle seat.hand drops) (q.work live))
      | inr condemned ↦ (inl condemned, q.writer.1)
    ]
    go phase.RollingBack e q = (inr e, q.writer.1)
    go phase.Stamping e q = absurd (idle q.plan)
    go phase.Condemned e q = absurd q
    go phase.Absent e q = absurd q

some_from : (n : ℕ) → (n == 0) ≡ false → 0 < n
some_from zero e = absurd (false≢true (sym e))
some_from (suc n) e = omega arith

-- the drop is one of a plan with a cell at least
drop_some : (hand : Hand) → is_dropping hand ≡ true → 0 < length hand.plan.pairs
drop_some hand drops = go (length hand.plan.pairs == 0) refl
  where
    go : (b : Bool) → (length hand.plan.pairs == 0) ≡ b → 0 < length hand.plan.pairs
    go true e = absurd (not_both (is_dropping hand) (ap (λ (x : Bool). not x && is_none hand.work) e) drops)
    go false e = some_from (length hand.plan.pairs) e

module _ (manager : Manager) (before after : RegionCells) (seats seats_now : Seats) (c : ConnId) (w : WritesDrop manager before after seats seats_now c) (spans : spans_one_plan manager ≡ true) (unmarked : is_marked w.seat ≡ false)
    (drops : is_dropping w.seat.hand ≡ true) (mends : IsMended w.seat) where
  fewer : length w.written.plan.pairs + 1 ≡ length w.seat.hand.plan.pairs
  fewer = one_longer w.seat.hand.plan w.written.plan w.pair.next w.pair.plan

  was : repair_debt manager w.seat ≡ length w.seat.hand.plan.pairs + (1027 * settled_own manager w.seat - 1027) + 2
  was = dropping_debt manager w.seat unmarked drops

  -- the drop goes on
  goes_on : is_at_last w.seat.hand ≡ false → FallsDebt manager w.seat w.now
  goes_on on =
      subst (λ (x : Seat). FallsDebt manager w.seat x) (sym (w.becomes on ∙ ap (λ (h : Hand). record w.seat { hand = h }) w.pair.rest))
      (falls_by_repair manager w.seat (record w.seat { hand = record w.seat.hand { undo = w.written.undo; plan = w.written.plan } }) (mended_debt manager w.seat mends)
      (mended_debt manager (record w.seat { hand = record w.seat.hand { undo = w.written.undo; plan = w.written.plan } }) mends)
      (let is = dropping_debt manager (record w.seat { hand = record w.seat.hand { undo = w.written.undo; plan = w.written.plan } }) unmarked
      ((λ i. not (unwritten i) && is_none w.seat.hand.work) ∙ idle) in
      let old = was in
      let less = fewer in
      omega (arith, old, is, less)))
    where
      idle : is_none w.seat.hand.work ≡ true
      idle = ap is_none (dropping_idle w.seat.hand drops)

      two : (n m : ℕ) → n + 1 ≡ m → (m == 1) ≡ false → (n == 0) ≡ false
      two n m e f = ne_eqb n 0 (λ none. not_both (m == 1) f (ap (λ (k : ℕ). k == 1) (let one : m ≡ 1 = omega (arith, e, none) in one)))

      unwritten : is_written w.written ≡ false
      unwritten = two (length w.written.plan.pairs) (length w.seat.hand.plan.pairs) fewer on

  -- or ends
  ends_now : is_at_last w.seat.hand ≡ true → FallsDebt manager w.seat w.now
  ends_now last =
      let e : ForgetsIn w.seat w.written w.now = w.ends last in
      subst (λ (x : Seat). FallsDebt manager w.seat x)
      (sym (e.rest ∙ (λ i. record w.seat { hand = record (w.pair.rest i) { own = e.left i }; latches = 0 })))
      (falls_by_repair manager w.seat (record w.seat { hand = record w.seat.hand { undo = w.written.undo; plan = w.written.plan; own = without_first w.seat.hand.own }; latches = 0 }) (mended_debt manager w.seat mends)
      (mended_debt manager (record w.seat { hand = record w.seat.hand { undo = w.written.undo; plan = w.written.plan; own = without_first w.seat.hand.own }; latches = 0 }) mends)
      (let is = holding_debt manager (record w.seat { hand = record w.seat.hand { undo = w.written.undo; plan = w.written.plan; own = without_first w.seat.hand.own }; latches = 0 }) unmarked
      (ap (λ (n : ℕ). not (n == 0) && is_none w.seat.hand.work) nothing) no_undo false (ap (λ (n : ℕ). not (n == 0) || false) nothing) in
      let old = was in
      let own = settled_all manager w.seat (or_first (spans_one_plan manager) _ spans) in
      let own_now = settled_all manager (record w.seat { hand = record w.seat.hand { undo = w.written.undo; plan = w.written.plan; own = without_first w.seat.hand.own }; latches = 0 }) (or_first (spans_one_plan manager) _ spans) in
      let less = one_fewer w.seat.hand.own.items e.first e.was in
      let one = at_one in
      omega (arith, old, is, own, own_now, less, one)))
    where
      at_one : length w.seat.hand.plan.pairs ≡ 1
      at_one = eqb-true (length w.seat.hand.plan.pairs) 1 last

      nothing : length w.written.plan.pairs ≡ 0
      nothing = let less = fewer in let one = at_one in omega (arith, less, one)

      no_undo : length w.written.undo.pairs ≡ 0
      no_undo = ap (λ (r : Record). length r.pairs) (w.pair.emptied (λ i. last i && spans i))

  pub drop_falls : FallsDebt manager w.seat w.now
  drop_falls = elim (true_or_false (is_at_last w.seat.hand)) [
    | inl last ↦ ends_now last
    | inr on ↦ goes_on on
  ]

-- so it is of what every step keeps
pub drop_nearer : (schema : Schema) (manager : Manager) (serials : ℕ) (ids : List ℕ) (memory after : RegionCells) (roll : Roll) (seats_now : Seats) (c : ConnId) (settled aimed : Versions) →
    IsKept schema manager serials ids (ground_in memory roll) settled aimed → IsSomeAnd (seat_of roll.seats c) (λ seat. is_dropping seat.hand ≡ true) → WritesDrop manager memory after roll.seats seats_now c →
    (seat now : Seat) → seat_of roll.seats c ≡ Some seat → seat_of seats_now c ≡ Some now → FallsDebt manager seat now
drop_nearer schema manager serials ids memory after roll seats_now c settled aimed kept drops_one w seat now held there =
    subst (λ (s : Seat). FallsDebt manager s now) (same_seat roll.seats c w.seat seat w.held held)
    (subst (λ (s : Seat). FallsDebt manager w.seat s) (same_seat seats_now c w.now now w.there there)
    (drop_falls manager memory after roll.seats seats_now c w spans mends.1 drops mends.0))
  where
    at : seat_in roll.seats c.slot ≡ Some w.seat
    at = in_its_slot roll.seats c w.seat w.held

    drops : is_dropping w.seat.hand ≡ true
    drops = subst (λ (o : Option Seat). IsSomeAnd o (λ x. is_dropping x.hand ≡ true)) w.held drops_one

    spans : spans_one_plan manager ≡ true
    spans = elim (true_or_false (spans_one_plan manager)) [
      | inl many ↦ many
      | inr single ↦ absurd (not_both (is_dropping w.seat.hand) (kept.drops c.slot w.seat at single) drops)
    ]

    mends : IsMended w.seat × (is_marked w.seat ≡ false)
    mends = dropping_mends manager (length schema.classes) w.seat (kept.rests c.slot w.seat at) drops

at_most : (m : Manager) (x : Seat) → is_marked x ≡ false → is_dropping x.hand ≡ false → length x.hand.undo.pairs ≡ 0 → repair_debt m x < 1027 * settled_own m x + 3
at_most m x free still none = go (not (is_written x.hand) || not (x.latches == 0)) refl
  where
    go : (h : Bool) → (not (is_written x.hand) || not (x.latches == 0)) ≡ h → repair_debt m x < 1027 * settled_own m x + 3
    go true e = let is = holding_debt m x free still none true e in omega (arith, is)
    go false e = let is = holding_debt m x free still none false e in omega (arith, is)

-- a pair is taken back
module _ (manager : Manager) (before after : RegionCells) (seats seats_now : Seats) (c : ConnId) (b : TakesPairBack before after seats seats_now c) (single : spans_one_plan manager ≡ false) (unmarked : is_marked b.seat ≡ false)
    (quiet : is_dropping b.seat.hand ≡ false) (rolls : b.seat.hand.phase ≡ phase.RollingBack) where
  left_is : forgetting_own b.hand ≡ record b.seat.hand { undo = b.hand.undo; plan = b.hand.plan; own = (forgetting_own b.hand).own }
  left_is = own_only b.hand ∙ ap (λ (h : Hand). record h { own = (forgetting_own b.hand).own }) b.rest

  less : (own : Reserved OwnWrite) → repair_debt manager (record b.seat { hand = record b.seat.hand { undo = b.hand.undo; plan = b.hand.plan; own = own } }) < repair_debt manager b.seat
  less own =
      let shorter = b.closer in
      let was = taking_debt manager b.seat unmarked quiet (omega (arith, shorter)) in
      let none_was = settled_none manager b.seat single unmarked in
      let none_is = settled_none manager (record b.seat { hand = record b.seat.hand { undo = b.hand.undo; plan = b.hand.plan; own = own } }) single unmarked in
      elim (true_or_false (length b.hand.undo.pairs == 0)) [
        | inl none ↦
            let most = at_most manager (record b.seat { hand = record b.seat.hand { undo = b.hand.undo; plan = b.hand.plan; own = own } }) unmarked no_drop (eqb-true (length b.hand.undo.pairs) 0 none) in
            omega (arith, was, none_was, none_is, most, shorter)
        | inr some ↦
            let is = taking_debt manager (record b.seat { hand = record b.seat.hand { undo = b.hand.undo; plan = b.hand.plan; own = own } }) unmarked no_drop (some_from (length b.hand.undo.pairs) some) in
            omega (arith, was, is, none_was, none_is, shorter)
      ]
    where
      no_drop : is_dropping (record b.seat.hand { undo = b.hand.undo; plan = b.hand.plan; own = own }) ≡ false
      no_drop = none_dropped (record b.seat.hand { undo = b.hand.undo; plan = b.hand.plan; own = own }) (ap (λ (r : Record). r.pairs) b.plan)

  pub back_falls : FallsDebt manager b.seat (record b.seat { hand = forgetting_own b.hand })
  back_falls =
      subst (λ (h : Hand). FallsDebt manager b.seat (record b.seat { hand = h })) (sym left_is)
      (falls_by_repair manager b.seat (record b.seat { hand = record b.seat.hand { undo = b.hand.undo; plan = b.hand.plan; own = (forgetting_own b.hand).own } }) (mended_debt manager b.seat (inr rolls))
      (mended_debt manager (record b.seat { hand = record b.seat.hand { undo = b.hand.undo; plan = b.hand.plan; own = (forgetting_own b.hand).own } }) (inr rolls)) (less (forgetting_own b.hand).own))

pub back_nearer : (schema : Schema) (manager : Manager) (serials : ℕ) (ids : List ℕ) (memory after : RegionCells) (roll : Roll) (seats_now : Seats) (c : ConnId) (settled aimed : Versions) →
    IsKept schema manager serials ids (ground_in memory roll) settled aimed → spans_one_plan manager ≡ false → IsSomeAnd (seat_of roll.seats c) (λ seat. seat.hand.phase ≡ phase.RollingBack) →
    TakesPairBack memory after roll.seats seats_now c → (seat now : Seat) → seat_of roll.seats c ≡ Some seat → seat_of seats_now c ≡ Some now → FallsDebt manager seat now
back_nearer schema manager serials ids memory after roll seats_now c settled aimed kept single rolls_one b seat now held there =
    subst (λ (s : Seat). FallsDebt manager s now) (same_seat roll.seats c b.seat seat b.held held)
    (subst (λ (s : Seat). FallsDebt manager b.seat s) (same_seat seats_now c (record b.seat { hand = forgetting_own b.hand }) now b.there there)
    (back_falls manager memory after roll.seats seats_now c b single back.writer.1 (kept.drops c.slot b.seat at single) rolls))
  where
    at : seat_in roll.seats c.slot ≡ Some b.seat
    at = in_its_slot roll.seats c b.seat b.held

    rolls : b.seat.hand.phase ≡ phase.RollingBack
    rolls = subst (λ (o : Option Seat). IsSomeAnd o (λ x. x.hand.phase ≡ phase.RollingBack)) b.held rolls_one

    back : IsRollingBack manager (length schema.classes) b.seat
    back = subst (λ (p : Phase). RestsIn manager (length schema.classes) b.seat p) rolls (kept.rests c.slot b.seat at)
