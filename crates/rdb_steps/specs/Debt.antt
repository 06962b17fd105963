-- A number that falls at each step of a connection's own work, and of its repair, and that no step of another connection raises but its
-- condemnation. It is what bounds how many steps are left.
use Rattle.std.specs.Prelude.{◌≤◌, ◌+◌, ◌-◌, ◌*◌, ◌==◌, ◌||◌, ℕ, length, Option, Some, None, is_some, not, if◌then◌else◌}
use Rattle.rdb_base.specs.declared.identity.Manager.{Manager}
use Rattle.rdb_base.specs.declared.identity.Phase.{Phase}
use Rattle.rdb_base.specs.declared.identity.Phase.TheVariants as phase
use Rattle.rdb_pages.specs.declared.cell.CellRef.{CellRef}
use Rattle.rdb_cells.specs.Records.{max_plan}
use Rattle.rdb_registry.specs.declared.hand.Hand.{Hand}
use Rattle.rdb_registry.specs.declared.hand.Work.{Work}
use Rattle.rdb_registry.specs.declared.seat.Seat.{Seat}
use Rattle.rdb_writes.specs.Steps.{spans_one_plan, is_written}
use Rattle.rdb_steps.specs.Kept.{is_dropping, is_marked}

-- the most steps that the drop of a version takes: its plan's cells and its planning; and the most that a version takes in a repair
abbrev pub drop_steps : ℕ
drop_steps = max_plan + 1

abbrev pub version_steps : ℕ
version_steps = max_plan + 3

-- how many versions of its open transaction are settled
abbrev pub settled_own : Manager → Seat → ℕ
settled_own manager seat = if spans_one_plan manager || is_marked seat then length seat.hand.own.items else 0

-- what is left of the work on a record that is marked, that rolls back, or that is repaired
abbrev pub repair_debt : Manager → Seat → ℕ
repair_debt manager seat =
    let own = version_steps * settled_own manager seat in
    let undo = length seat.hand.undo.pairs in
    if is_marked seat then own + 1 + (if seat.latches == 0 then 0 else 1)
    else (if is_dropping seat.hand then length seat.hand.plan.pairs + (own - version_steps) + 2
    else (if not (undo == 0) then undo + own + 2
    else (if not (is_written seat.hand) || not (seat.latches == 0) then own + 2 else own + 1)))

-- what is left of an operation in work: its own plan, or what may come before it, the drops of its class's versions and the grants of pages
abbrev pub operation_debt : Option CellRef → Hand → ℕ → ℕ → ℕ
operation_debt (Some version) hand versions pages = length hand.plan.pairs
operation_debt None hand versions pages = length hand.plan.pairs + drop_steps * (versions + 1) + pages

abbrev pub work_debt : Option Work → Hand → ℕ → ℕ → ℕ
work_debt None hand versions pages = 0
work_debt (Some work) hand versions pages = operation_debt work.puts hand versions pages

-- by what a record is doing; the versions are those of the class that it writes, as its plan leaves them, and the pages those without an
-- owner
abbrev pub phase_debt : Manager → Seat → Phase → ℕ → ℕ → ℕ
phase_debt manager seat phase.Writing versions pages = work_debt seat.hand.work seat.hand versions pages
phase_debt manager seat phase.RollingBack versions pages = repair_debt manager seat
phase_debt manager seat phase.Stamping versions pages = repair_debt manager seat
phase_debt manager seat _ versions pages = 0

abbrev pub debt : Manager → Seat → ℕ → ℕ → ℕ
debt manager seat versions pages =
    if is_some seat.condemned then repair_debt manager seat else phase_debt manager seat seat.hand.phase versions pages

-- how many versions of the class the plan at hand drops before the operation's own
abbrev pub dropped_before : Option Work → Hand → ℕ
dropped_before None hand = 0
dropped_before (Some work) hand = if is_some work.puts || is_written hand then 0 else 1

-- The bounds of the number: of a repair, by the pairs and the settled own versions; of an operation in work, by the versions of its class
-- as the writer sees them.
pub record IsBounded (manager : Manager) (seat : Seat) (versions pages : ℕ) : Type 0 where
  pub repair : repair_debt manager seat ≤ length seat.hand.undo.pairs + 2 + version_steps * settled_own manager seat
  pub work : (seen : ℕ) → versions + dropped_before seat.hand.work seat.hand ≤ seen
      → work_debt seat.hand.work seat.hand versions pages ≤ drop_steps * (seen + 1) + pages
