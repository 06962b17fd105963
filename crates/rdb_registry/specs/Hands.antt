-- What a connection has in hand.
use Rattle.std.specs.Prelude.{◌≡◌, ◌≤◌, ℕ, [], None}
use Rattle.rdb_base.specs.declared.identity.Phase.TheVariants as phase
use Rattle.rdb_cells.specs.Records.{max_plan}
use Rattle.rdb_registry.specs.declared.hand.Hand.{Hand}

-- how many places an undo record has: one for each cell of a plan
abbrev pub undo_places : ℕ
undo_places = max_plan

-- nothing is in hand: no operation, no answer, no cell to take back or to write, no own write and no watch
pub record IsClear (hand : Hand) : Type 0 where
  pub phase : hand.phase ≡ phase.Idle
  pub cause : hand.cause ≡ None
  pub undo : hand.undo.pairs ≡ []
  pub work : hand.work ≡ None
  pub plan : hand.plan.pairs ≡ []
  pub done : hand.done.items ≡ []
  pub own : hand.own.items ≡ []
  pub subscriptions : hand.subscriptions ≡ []

-- nothing is in hand, and there is room for the undo record of a plan and for a plan
pub record IsReady (hand : Hand) : Type 0 where
  pub clear : IsClear hand
  pub undo : undo_places ≤ hand.undo.room
  pub plan : hand.plan.room ≡ max_plan
