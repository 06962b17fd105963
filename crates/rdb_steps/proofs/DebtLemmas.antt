-- The bounds of the number of steps that are left.
use Rattle.std.proofs.Common.{◌≡◌, ◌<◌, ◌≤◌, ◌+◌, ◌-◌, ◌*◌, ◌==◌, ◌||◌, ℕ, Bool, true, false, cond, not, length, Option, Some, None, is_some, refl, arith, eqb-true}
use Rattle.rdb_base.specs.declared.identity.Manager.{Manager}
use Rattle.rdb_pages.specs.declared.cell.CellRef.{CellRef}
use Rattle.rdb_cells.specs.Records.{max_plan}
use Rattle.rdb_registry.specs.declared.hand.Hand.{Hand}
use Rattle.rdb_registry.specs.declared.hand.Work.{Work}
use Rattle.rdb_registry.specs.declared.seat.Seat.{Seat}
use Rattle.rdb_writes.specs.Steps.{is_written}
use Rattle.rdb_steps.specs.Debt.{IsBounded, settled_own, work_debt, operation_debt, dropped_before}
use Rattle.rdb_steps.specs.Kept.{is_dropping, is_marked}

repair_bound : (marked free dropping taking holding : Bool) (own undo plan : ℕ) → plan ≤ 1024 → (dropping ≡ true → 1027 ≤ own) →
    cond marked (own + 1 + cond free 0 1) (cond dropping (plan + (own - 1027) + 2) (cond taking (undo + own + 2) (cond holding (own + 2) (own + 1)))) ≤ undo + 2 + own
repair_bound true true dropping taking holding own undo plan few some = omega arith
repair_bound true false dropping taking holding own undo plan few some = omega arith
repair_bound false free true taking holding own undo plan few some = let enough = some refl in omega (arith, few, enough)
repair_bound false free false true holding own undo plan few some = omega arith
repair_bound false free false false true own undo plan few some = omega arith
repair_bound false free false false false own undo plan few some = omega arith

operation_bound : (puts : Option CellRef) (hand : Hand) (versions pages seen : ℕ) → length hand.plan.pairs ≤ 1024 → versions + cond (is_some puts || is_written hand) 0 1 ≤ seen → operation_debt puts hand versions pages ≤ 1025 * (seen + 1) + pages
operation_bound (Some version) hand versions pages seen few within = omega (arith, few)
operation_bound None hand versions pages seen few within = go (is_written hand) refl within
  where
    go : (b : Bool) → is_written hand ≡ b → versions + cond b 0 1 ≤ seen → length hand.plan.pairs + 1025 * (versions + 1) + pages ≤ 1025 * (seen + 1) + pages
    go true e within = let none = eqb-true (length hand.plan.pairs) 0 e in omega (arith, none, within)
    go false e within = omega (arith, few, within)

work_bound : (work : Option Work) (hand : Hand) (versions pages seen : ℕ) → length hand.plan.pairs ≤ 1024 → versions + dropped_before work hand ≤ seen → work_debt work hand versions pages ≤ 1025 * (seen + 1) + pages
work_bound None hand versions pages seen few within = omega arith
work_bound (Some work) hand versions pages seen few within = operation_bound work.puts hand versions pages seen few within

pub debt_bounded : (manager : Manager) (seat : Seat) (versions pages : ℕ) → length seat.hand.plan.pairs ≤ max_plan → (is_dropping seat.hand ≡ true → 0 < settled_own manager seat) → IsBounded manager seat versions pages
debt_bounded manager seat versions pages few some = record {
  repair =
      repair_bound (is_marked seat) (seat.latches == 0) (is_dropping seat.hand) (not (length seat.hand.undo.pairs == 0)) (not (is_written seat.hand) || not (seat.latches == 0))
      (1027 * settled_own manager seat) (length seat.hand.undo.pairs) (length seat.hand.plan.pairs) few (λ dropping. let there = some dropping in omega (arith, there));
  work = λ seen within. work_bound seat.hand.work seat.hand versions pages seen few within;
}
