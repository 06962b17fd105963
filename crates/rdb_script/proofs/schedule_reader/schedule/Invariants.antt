use Rattle.std.proofs.Common.{List, length}
use Rattle.rdb_script.specs.declared.item.Item.{Item}
use Rattle.rdb_script.specs.Schedule.{IsSchedule}
use Rattle.rdb_script.proofs.ScheduleLemmas.{HasRead, GoesOn}
use Rattle.rdb_script.proofs.schedule_reader.schedule.Given as goal

-- the items so far, and what stands behind them
abbrev pub invariant-loop-word : goal.invariant-loop-word
invariant-loop-word l = record {
  read : HasRead l.clients l.text l.items l.rest;
  on : (others : List Item) → IsSchedule l.clients l.text others → GoesOn l.clients l.items l.rest others;
}

abbrev pub decreases-loop-word : goal.decreases-loop-word
decreases-loop-word l = length l.rest
