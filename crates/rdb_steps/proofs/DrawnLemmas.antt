-- How far numbers are drawn, and what slots spent, as the own plan of an operation is made.
use Rattle.std.proofs.Common.{◌≡◌, ◌≢◌, ◌<◌, ◌≤◌, ◌+◌, ◌*◌, ◌^◌, ◌||◌, ◌∷◌, ℕ, zero, suc, List, [], length, set, sum_by, Bool, true, false, not, cond, Option, Some, None, is_some, option_map, option_and_then, slice_get, slice_index, slice_index_or, refl, sym, ap, subst, ◌∙◌, arith, inl, inr}
use Rattle.std.proofs.Permutation.{which}
use Rattle.std.proofs.lemmas.List.{get_or-set_other, get_or-set_same, length-set}
use Rattle.std.proofs.lemmas.List.Sums.{sum_by-cons}
use Rattle.std.proofs.lemmas.Bool.{cases_lt}
use Rattle.std.proofs.lemmas.List.{get_or_past}
use Rattle.rdb_base.specs.declared.limits.TheConstants.{MAX_OPERATIONS, MAX_PLACES}
use Rattle.rdb_schema.specs.declared.schema.Schema.{Schema}
use Rattle.rdb_cells.specs.Records.{max_plan}
use Rattle.rdb_registry.specs.declared.hand.Work.{Work}
use Rattle.rdb_registry.specs.declared.seat.Seat.{Seat}
use Rattle.rdb_registry.specs.Registry.{IsRoll, Roll, spent_by, with_spent}
use Rattle.rdb_registry.specs.Seats.{Seats, seat_in, slot_count}
use Rattle.rdb_transactions.specs.declared.transactions.Transactions.{Transactions}
use Rattle.rdb_transactions.specs.Claims.{is_unmarked}
use Rattle.rdb_transactions.proofs.SoundLemmas.{slot_there, sum_set}
use Rattle.rdb_steps.specs.declared.state.State.{State}
use Rattle.rdb_steps.specs.Kept.{is_rolling_back}
use Rattle.rdb_steps.specs.States.{IsWhole, cell_count, ever_planned, planned_by, planned_in, planned_so_far}
use Rattle.rdb_steps.proofs.RoomLemmas.{planned_few}

planned_sum : (seats : Seats) → ((i : ℕ) (x : Seat) → seat_in seats i ≡ Some x → planned_by x ≤ 1000) → sum_by planned_in seats ≤ 1000 * length seats
planned_sum [] few = omega arith
planned_sum (None ∷ seats) few =
    let rest = planned_sum seats (λ i x there. few (suc i) x there) in
    let sums = sum_by-cons planned_in None seats in
    omega (arith, rest, sums)
planned_sum (Some x ∷ seats) few =
    let rest = planned_sum seats (λ i y there. few (suc i) y there) in
    let here = few 0 x refl in
    let sums = sum_by-cons planned_in (Some x) seats in
    omega (arith, rest, here, sums)

-- so many operations are ever planned, at most
pub ever_few : {P : Type 0} (s : State P) → IsWhole s → IsRoll s.transactions.registry → ever_planned s.transactions ≤ 17592186044448000
ever_few s whole roll =
    let is : ever_planned s.transactions ≡ 1000 * length s.transactions.journal.entries + sum_by planned_in s.transactions.registry.seats = refl in
    let sums = planned_sum s.transactions.registry.seats (λ i x there. planned_few s.schema s.transactions.manager (cell_count s.schema s.memory) x (whole.furnished i x there)) in
    let slots : length s.transactions.registry.seats ≡ 32 = roll.count in
    let limit : length s.transactions.journal.entries + s.transactions.journal.room ≤ 17592186044416 = whole.sound.claims.room.limit in
    omega (arith, is, sums, slots, limit)

pub serial_fits : {P : Type 0} (s : State P) → IsWhole s → IsRoll s.transactions.registry → s.counters.serials + 1 < 2 ^ 64
serial_fits s whole roll = let few = ever_few s whole roll in let drawn = whole.fewer.serials in let big : 2 ^ 64 ≡ 18446744073709551616 = refl in omega (arith, few, drawn, big)

pub id_fits : {P : Type 0} (s : State P) (class : ℕ) → IsWhole s → IsRoll s.transactions.registry → slice_index s.counters.ids.items class + 1 < 2 ^ 64
id_fits s class whole roll = let few = ever_few s whole roll in let drawn = whole.fewer.ids class in let big : 2 ^ 64 ≡ 18446744073709551616 = refl in omega (arith, few, drawn, big)

pub spent_fits : {P : Type 0} (s : State P) (slot class need : ℕ) → IsWhole s → IsRoll s.transactions.registry → need ≤ 1024 → spent_by s.transactions.registry.spent slot class + need < 2 ^ 64
spent_fits s slot class need whole roll small = let few = ever_few s whole roll in let spent : spent_by s.transactions.registry.spent slot class ≤ 1024 * ever_planned s.transactions = whole.fewer.spent slot class in let big : 2 ^ 64 ≡ 18446744073709551616 = refl in omega (arith, few, spent, small, big)

-- one operation more is planned
pub one_planned : (seats : Seats) (slot : ℕ) (seat now : Seat) → seat_in seats slot ≡ Some seat → planned_by now ≡ planned_by seat + 1 → sum_by planned_in (set seats slot (Some now)) ≡ sum_by planned_in seats + 1
one_planned seats slot seat now there more =
    let sums : sum_by planned_in (set seats slot (Some now)) + planned_by seat ≡ sum_by planned_in seats + planned_by now = sum_set planned_in seats slot (Some seat) (Some now) (slot_there seats slot seat there) in
    omega (arith, sums, more)

-- a live record that isn't marked counts those that it has planned so far
pub live_planned : (x : Seat) → is_unmarked x ≡ true → (is_some x.condemned || is_rolling_back x.hand.phase) ≡ false → planned_by x ≡ planned_so_far x
live_planned x unmarked live = λ i. cond (not (unmarked i)) 0 (cond (live i) MAX_OPERATIONS (planned_so_far x))

-- numbers of a list, one of which is one more
pub one_drawn : (ids : List ℕ) (class k : ℕ) → slice_index (set ids class (slice_index ids class + 1)) k ≤ slice_index ids k + 1
one_drawn ids class k = elim (cases_lt class (length ids)) [
  | inl within ↦ elim (which k class) [
    | inl same ↦
        let here = ap (λ (n : ℕ). slice_index (set ids class (slice_index ids class + 1)) n) same ∙ get_or-set_same ids class (slice_index ids class + 1) 0 within in
        let was = ap (λ (n : ℕ). slice_index ids n) same in
        omega (arith, here, was)
    | inr other ↦ let there = get_or-set_other ids class k (slice_index ids class + 1) 0 other in omega (arith, there)
  ]
  | inr past ↦ let same = ap (λ (xs : List ℕ). slice_index xs k) (set_past ids class (slice_index ids class + 1) past) in omega (arith, same)
]
  where
    set_past : (xs : List ℕ) (i x : ℕ) → length xs ≤ i → set xs i x ≡ xs
    set_past [] i x past = refl
    set_past (y ∷ xs) zero x past = absurd (omega (arith, past))
    set_past (y ∷ xs) (suc i) x past = ap (λ (ys : List ℕ). y ∷ ys) (set_past xs i x (omega (arith, past)))

-- what a slot spent, with a claim more in one class
pub spent_more : (spent : List (List ℕ)) (slot class need place k bound : ℕ) → ((i j : ℕ) → spent_by spent i j ≤ bound) → spent_by (with_spent spent slot class (spent_by spent slot class + need)) place k ≤ bound + need
spent_more spent slot class need place k bound each = elim (which place slot) [
  | inl same ↦ elim (cases_lt slot (length spent)) [
    | inl within ↦
        let row : slice_index_or (with_spent spent slot class (spent_by spent slot class + need)) place [] ≡ set (slice_index_or spent slot []) class (spent_by spent slot class + need) =
        ap (λ (n : ℕ). slice_index_or (with_spent spent slot class (spent_by spent slot class + need)) n []) same
        ∙ get_or-set_same spent slot (set (slice_index_or spent slot []) class (spent_by spent slot class + need)) [] within in
        let here = ap (λ (r : List ℕ). slice_index r k) row in
        let more = in_row (slice_index_or spent slot []) (spent_by spent slot class) (each slot class) (each slot k) in
        omega (arith, here, more)
    | inr past ↦
        let none : slice_index_or (with_spent spent slot class (spent_by spent slot class + need)) place [] ≡ [] =
        get_or_past (with_spent spent slot class (spent_by spent slot class + need)) place []
        (let long = length-set spent slot (set (slice_index_or spent slot []) class (spent_by spent slot class + need)) in omega (arith, long, past, same)) in
        let here = ap (λ (r : List ℕ). slice_index r k) none in
        omega (arith, here)
  ]
  | inr other ↦
      let row = ap (λ (r : List ℕ). slice_index r k) (get_or-set_other spent slot place (set (slice_index_or spent slot []) class (spent_by spent slot class + need)) [] other) in
      let most = each place k in
      omega (arith, row, most)
]
  where
    in_row : (r : List ℕ) (sum : ℕ) → sum ≤ bound → slice_index r k ≤ bound → slice_index (set r class (sum + need)) k ≤ bound + need
    in_row r sum most other_most = elim (cases_lt class (length r)) [
      | inl within ↦ elim (which k class) [
        | inl same ↦ let here = ap (λ (n : ℕ). slice_index (set r class (sum + need)) n) same ∙ get_or-set_same r class (sum + need) 0 within in omega (arith, here, most)
        | inr other ↦ let there = get_or-set_other r class k (sum + need) 0 other in omega (arith, there, other_most)
      ]
      | inr past ↦ let same = ap (λ (xs : List ℕ). slice_index xs k) (set_past r class (sum + need) past) in omega (arith, same, other_most)
    ]
      where
        set_past : (xs : List ℕ) (i x : ℕ) → length xs ≤ i → set xs i x ≡ xs
        set_past [] i x past = refl
        set_past (y ∷ xs) zero x past = absurd (omega (arith, past))
        set_past (y ∷ xs) (suc i) x past = ap (λ (ys : List ℕ). y ∷ ys) (set_past xs i x (omega (arith, past)))
