-- The number of steps that are left falls as a version gets its stamp, as the drop of one is written, and as a pair is taken back.
use Rattle.std.proofs.Common.{◌≡◌, ◌<◌, ◌≤◌, ◌+◌, ◌-◌, ◌*◌, ◌==◌, ◌||◌, ◌&&◌, ◌++◌, ◌∷◌, ℕ, zero, suc, List, [], length, drop, Bool, true, false, cond, not, Option, Some, None, IsSome, is_some, is_none, slice_get, refl, sym, ap, subst, ◌∙◌, arith, eqb-true, inl, inr}
use Rattle.std.proofs.lemmas.Bool.{false≢true, ne_eqb}
use Rattle.rdb_base.specs.declared.identity.Manager.{Manager}
use Rattle.rdb_base.specs.declared.identity.Phase.{Phase}
use Rattle.rdb_base.specs.declared.identity.Phase.TheVariants as phase
use Rattle.rdb_base.specs.Room.{Reserved}
use Rattle.rdb_cells.specs.declared.pairs.Pair.{Pair}
use Rattle.rdb_cells.specs.Records.{Record}
use Rattle.rdb_cells.proofs.SettledLemmas.{true_or_false}
use Rattle.rdb_registry.specs.declared.hand.Hand.{Hand}
use Rattle.rdb_registry.specs.declared.own_writes.OwnWrite.{OwnWrite}
use Rattle.rdb_registry.specs.declared.seat.Condemned.{Condemned}
use Rattle.rdb_registry.specs.declared.seat.Seat.{Seat}
use Rattle.rdb_transactions.specs.Hands.{given_up, with_undo}
use Rattle.rdb_transactions.specs.Records.{on_hand}
use Rattle.rdb_writes.specs.Steps.{spans_one_plan, is_written}
use Rattle.rdb_steps.specs.Debt.{debt, phase_debt, repair_debt, settled_own}
use Rattle.rdb_steps.specs.Kept.{is_dropping, is_marked}
use Rattle.rdb_steps.specs.Repairs.{HoldsUnfinished, left_hand, repaired, set_free}
use Rattle.rdb_steps.specs.Steps.{forgetting_first, forgetting_own}
use Rattle.rdb_steps.specs.Written.{FallsDebt}
use Rattle.rdb_steps.proofs.HandKept.{or_first, or_second}
use Rattle.rdb_steps.proofs.OrderedLemmas.{first_rest}

-- what is left by its parts
abbrev parts : (marked free dropping taking holding : Bool) (own undo plan : ℕ) → ℕ
parts marked free dropping taking holding own undo plan =
    cond marked (own + 1 + cond free 0 1) (cond dropping (plan + (own - 1027) + 2) (cond taking (undo + own + 2) (cond holding (own + 2) (own + 1))))

module _ (manager : Manager) (seat : Seat) where
  as_parts : (marked dropping taking holding : Bool) → is_marked seat ≡ marked → is_dropping seat.hand ≡ dropping → not (length seat.hand.undo.pairs == 0) ≡ taking →
      (not (is_written seat.hand) || not (seat.latches == 0)) ≡ holding →
      repair_debt manager seat ≡ parts marked (seat.latches == 0) dropping taking holding (1027 * settled_own manager seat) (length seat.hand.undo.pairs) (length seat.hand.plan.pairs)
  as_parts marked dropping taking holding a b c d =
      λ i. parts (a i) (seat.latches == 0) (b i) (c i) (d i) (1027 * settled_own manager seat) (length seat.hand.undo.pairs) (length seat.hand.plan.pairs)

  -- of a marked record, of one that drops a version, of one that takes back, and of another
  pub marked_debt : is_marked seat ≡ true → repair_debt manager seat ≡ 1027 * settled_own manager seat + 1 + cond (seat.latches == 0) 0 1
  marked_debt marked = as_parts true _ _ _ marked refl refl refl

  pub dropping_debt : is_marked seat ≡ false → is_dropping seat.hand ≡ true → repair_debt manager seat ≡ length seat.hand.plan.pairs + (1027 * settled_own manager seat - 1027) + 2
  dropping_debt unmarked drops = as_parts false true _ _ unmarked drops refl refl

  pub taking_debt : is_marked seat ≡ false → is_dropping seat.hand ≡ false → 0 < length seat.hand.undo.pairs → repair_debt manager seat ≡ length seat.hand.undo.pairs + 1027 * settled_own manager seat + 2
  taking_debt unmarked quiet some =
      as_parts false false true _ unmarked quiet (ap not (ne_eqb (length seat.hand.undo.pairs) 0 (λ e. omega (arith, some, e)))) refl

  pub holding_debt : is_marked seat ≡ false → is_dropping seat.hand ≡ false → length seat.hand.undo.pairs ≡ 0 → (holding : Bool) → (not (is_written seat.hand) || not (seat.latches == 0)) ≡ holding →
      repair_debt manager seat ≡ cond holding (1027 * settled_own manager seat + 2) (1027 * settled_own manager seat + 1)
  holding_debt unmarked quiet none holding holds = as_parts false false false holding unmarked quiet (ap (λ (n : ℕ). not (n == 0)) none) holds

  -- a condemned record, and one that rolls back or stamps, has this left to do
  pub condemned_debt : (versions pages : ℕ) → IsSome seat.condemned → debt manager seat versions pages ≡ repair_debt manager seat
  condemned_debt versions pages condemned = λ i. cond (condemned i) (repair_debt manager seat) (phase_debt manager seat seat.hand.phase versions pages)

  either_way : (b : Bool) (x y : ℕ) → y ≡ x → cond b x y ≡ x
  either_way true x y e = refl
  either_way false x y e = e

  pub stamping_debt : (versions pages : ℕ) → seat.hand.phase ≡ phase.Stamping → debt manager seat versions pages ≡ repair_debt manager seat
  stamping_debt versions pages stamps =
      either_way (is_some seat.condemned) (repair_debt manager seat) (phase_debt manager seat seat.hand.phase versions pages) (ap (λ (p : Phase). phase_debt manager seat p versions pages) stamps)

  pub rolling_debt : (versions pages : ℕ) → seat.hand.phase ≡ phase.RollingBack → debt manager seat versions pages ≡ repair_debt manager seat
  rolling_debt versions pages rolls =
      either_way (is_some seat.condemned) (repair_debt manager seat) (phase_debt manager seat seat.hand.phase versions pages) (ap (λ (p : Phase). phase_debt manager seat p versions pages) rolls)

  -- whose own versions are settled
  pub settled_all : (spans_one_plan manager || is_marked seat) ≡ true → settled_own manager seat ≡ length seat.hand.own.items
  settled_all e = ap (λ (b : Bool). cond b (length seat.hand.own.items) 0) e

  pub settled_none : spans_one_plan manager ≡ false → is_marked seat ≡ false → settled_own manager seat ≡ 0
  settled_none single unmarked = λ i. cond (single i || unmarked i) (length seat.hand.own.items) 0

no_pairs : (ps : List Pair) → (length ps == 0) ≡ true → ps ≡ []
no_pairs [] e = refl
no_pairs (p ∷ ps) e = let none = eqb-true (length (p ∷ ps)) 0 e in absurd (omega (arith, none))

-- one own write fewer
pub one_fewer : (ws : List OwnWrite) (w : OwnWrite) → slice_get ws 0 ≡ Some w → length (drop 1 ws) + 1 ≡ length ws
one_fewer ws w there = let same : length ws ≡ length (w ∷ drop 1 ws) = ap length (first_rest ws w there) in more (drop 1 ws) (length ws) same
  where
    more : (rest : List OwnWrite) (n : ℕ) → n ≡ length (w ∷ rest) → length rest + 1 ≡ n
    more rest n e = omega (arith, e)

-- so it is where repairs are compared
pub falls_by_repair : (manager : Manager) (seat now : Seat) → ((versions pages : ℕ) → debt manager seat versions pages ≡ repair_debt manager seat) → ((versions pages : ℕ) → debt manager now versions pages ≡ repair_debt manager now) →
    repair_debt manager now < repair_debt manager seat → FallsDebt manager seat now
falls_by_repair manager seat now was is less versions pages =
    subst (λ (n : ℕ). debt manager now versions pages < n) (sym (was versions pages)) (subst (λ (n : ℕ). n < repair_debt manager seat) (sym (is versions pages)) less)

-- a marked record's first version gets its stamp
pub stamp_falls : (manager : Manager) (seat : Seat) (first : OwnWrite) → is_marked seat ≡ true → seat.hand.phase ≡ phase.Stamping → slice_get seat.hand.own.items 0 ≡ Some first →
    FallsDebt manager seat (on_hand forgetting_first seat)
stamp_falls manager seat first marked stamps there =
    falls_by_repair manager seat (on_hand forgetting_first seat) (λ versions pages. stamping_debt manager seat versions pages stamps) (λ versions pages. stamping_debt manager (on_hand forgetting_first seat) versions pages stamps)
    (let was = marked_debt manager seat marked ∙ ap (λ (n : ℕ). 1027 * n + 1 + cond (seat.latches == 0) 0 1) (settled_all manager seat (or_second (spans_one_plan manager) _ marked)) in
    let is = marked_debt manager (on_hand forgetting_first seat) marked ∙ ap (λ (n : ℕ). 1027 * n + 1 + cond (seat.latches == 0) 0 1) (settled_all manager (on_hand forgetting_first seat) (or_second (spans_one_plan manager) _ marked)) in
    let fewer = one_fewer seat.hand.own.items first there in
    subst (λ (n : ℕ). n < repair_debt manager seat) (sym is) (subst (λ (n : ℕ). 1027 * length (drop 1 seat.hand.own.items) + 1 + cond (seat.latches == 0) 0 1 < n) (sym was)
    (less (length (drop 1 seat.hand.own.items)) (length seat.hand.own.items) (cond (seat.latches == 0) 0 1) fewer)))
  where
    less : (n m k : ℕ) → n + 1 ≡ m → 1027 * n + 1 + k < 1027 * m + 1 + k
    less n m k e = omega (arith, e)

-- a condemned record gives up what it holds, which has nothing to take back
pub release_falls : (manager : Manager) (seat : Seat) → IsSome seat.condemned → seat.hand.undo.pairs ≡ [] → (is_marked seat ≡ true → seat.hand.plan.pairs ≡ []) → HoldsUnfinished seat → FallsDebt manager seat (set_free seat)
release_falls manager seat condemned empty idle holds =
    falls_by_repair manager seat (set_free seat) (λ versions pages. condemned_debt manager seat versions pages condemned) (λ versions pages. condemned_debt manager (set_free seat) versions pages condemned)
    (elim (true_or_false (is_marked seat)) [
      | inl marked ↦
          let was = marked_debt manager seat marked ∙ ap (λ (b : Bool). 1027 * settled_own manager seat + 1 + cond b 0 1) (ne_eqb seat.latches 0 (holds.some (idle marked))) in
          let is = marked_debt manager (set_free seat) marked in
          omega (arith, was, is)
      | inr unmarked ↦
          let was = holding_debt manager seat unmarked holds.quiet (ap length empty) true (held (length seat.hand.plan.pairs == 0) refl) in
          let is = holding_debt manager (set_free seat) unmarked refl (ap length empty) false refl in
          omega (arith, was, is)
    ])
  where
    held : (b : Bool) → (length seat.hand.plan.pairs == 0) ≡ b → (not (is_written seat.hand) || not (seat.latches == 0)) ≡ true
    held true e = or_second (not (is_written seat.hand)) _ (ap not (ne_eqb seat.latches 0 (holds.some (no_pairs seat.hand.plan.pairs e))))
    held false e = or_first (not (is_written seat.hand)) _ (ap not e)

-- what is left of the record that is repaired
pub left_only : (manager : Manager) (h : Hand) → left_hand manager h ≡ record h { own = (left_hand manager h).own }
left_only manager h = go (spans_one_plan manager) (length h.undo.pairs == 0)
  where
    go : (b e : Bool) → cond b h (cond e (record h { own = record { items = []; room = h.own.room + length h.own.items } }) h)
        ≡ record h { own = (cond b h (cond e (record h { own = record { items = []; room = h.own.room + length h.own.items } }) h)).own }
    go true e = refl
    go false true = refl
    go false false = refl

pub left_many : (manager : Manager) (h : Hand) → spans_one_plan manager ≡ true → left_hand manager h ≡ h
left_many manager h many = ap (λ (b : Bool). cond b h (forgetting_own h)) many

-- its newest pair is taken back
module _ (manager : Manager) (seat : Seat) (undo : Record) where
  pub left_own : Reserved OwnWrite
  left_own = (left_hand manager (given_up (with_undo undo seat.hand))).own

  pub left_latches : ℕ
  left_latches = cond (length undo.pairs == 0) 0 seat.latches

  pub repaired_is : repaired manager undo seat
      ≡ record seat { latches = left_latches; hand = record seat.hand { undo = undo; plan = record seat.hand.plan { pairs = [] }; work = None; own = left_own } }
  unfolding left_latches left_own
  repaired_is = ap (λ (x : Hand). record seat { latches = cond (length undo.pairs == 0) 0 seat.latches; hand = x }) (left_only manager (given_up (with_undo undo seat.hand)))

  pub own_many : spans_one_plan manager ≡ true → left_own ≡ seat.hand.own
  unfolding left_own
  own_many many = ap (λ (x : Hand). x.own) (left_many manager (given_up (with_undo undo seat.hand)) many)

  settled_left : is_marked seat ≡ false →
      settled_own manager (record seat { latches = left_latches; hand = record seat.hand { undo = undo; plan = record seat.hand.plan { pairs = [] }; work = None; own = left_own } }) ≤ settled_own manager seat
  settled_left unmarked = elim (true_or_false (spans_one_plan manager)) [
    | inl many ↦
        let was = settled_all manager seat (or_first (spans_one_plan manager) _ many) in
        let is = settled_all manager (record seat { latches = left_latches; hand = record seat.hand { undo = undo; plan = record seat.hand.plan { pairs = [] }; work = None; own = left_own } }) (or_first (spans_one_plan manager) _ many) in
        let same : length left_own.items ≡ length seat.hand.own.items = ap (λ (o : Reserved OwnWrite). length o.items) (own_many many) in
        omega (arith, was, is, same)
    | inr single ↦
        let is = settled_none manager (record seat { latches = left_latches; hand = record seat.hand { undo = undo; plan = record seat.hand.plan { pairs = [] }; work = None; own = left_own } }) single unmarked in
        omega (arith, is)
  ]

  less : is_marked seat ≡ false → is_dropping seat.hand ≡ false → length undo.pairs + 1 ≡ length seat.hand.undo.pairs →
      repair_debt manager (record seat { latches = left_latches; hand = record seat.hand { undo = undo; plan = record seat.hand.plan { pairs = [] }; work = None; own = left_own } }) < repair_debt manager seat
  unfolding left_latches
  less unmarked quiet shorter =
      let was = taking_debt manager seat unmarked quiet (omega (arith, shorter)) in
      let fewer = settled_left unmarked in
      elim (true_or_false (length undo.pairs == 0)) [
        | inl none ↦
            let is = holding_debt manager (record seat { latches = left_latches; hand = record seat.hand { undo = undo; plan = record seat.hand.plan { pairs = [] }; work = None; own = left_own } })
            unmarked refl (eqb-true (length undo.pairs) 0 none) false (λ i. not (cond (none i) 0 seat.latches == 0)) in
            omega (arith, was, is, fewer, shorter)
        | inr some ↦
            let is = taking_debt manager (record seat { latches = left_latches; hand = record seat.hand { undo = undo; plan = record seat.hand.plan { pairs = [] }; work = None; own = left_own } })
            unmarked refl (above (length undo.pairs) some) in
            omega (arith, was, is, fewer, shorter)
      ]
    where
      above : (n : ℕ) → (n == 0) ≡ false → 0 < n
      above zero e = absurd (false≢true (sym e))
      above (suc n) e = omega arith

  pub repair_falls : IsSome seat.condemned → is_marked seat ≡ false → is_dropping seat.hand ≡ false → length undo.pairs + 1 ≡ length seat.hand.undo.pairs → FallsDebt manager seat (repaired manager undo seat)
  repair_falls condemned unmarked quiet shorter =
      falls_by_repair manager seat (repaired manager undo seat) (λ versions pages. condemned_debt manager seat versions pages condemned)
      (λ versions pages. condemned_debt manager (repaired manager undo seat) versions pages condemned)
      (subst (λ (x : Seat). repair_debt manager x < repair_debt manager seat) (sym repaired_is) (less unmarked quiet shorter))
