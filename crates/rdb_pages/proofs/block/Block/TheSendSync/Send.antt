-- A block may move to another thread where its values may.
use denote.Param.Send.{IsSend}
use denote.RattleType.{RattleType}
use Rattle.rdb_pages.proofs.Crossing.{block_send}
use Rattle.rdb_pages.specs.contracts.block.Block.{the_row}

pub send : (R : RattleType) → IsSend R → IsSend (the_row R)
send = block_send
