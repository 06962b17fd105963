-- A deed may move to another thread where any thread may free its allocator's blocks.
use denote.Param.Send.{IsSend, Frees}
use denote.RattleType.{RattleType}
use Rattle.std.specs.declared.alloc.Allocator.{Ghosts}
use Rattle.rdb_pages.proofs.Crossing.{deed_send}
use Rattle.rdb_pages.specs.contracts.block.Deed.{the_row}

pub send : (R A : RattleType) (g : Ghosts A.Denot) → IsSend A → Frees g g.dealloc_token → IsSend (the_row R A g)
send R A g s = deed_send R A g
