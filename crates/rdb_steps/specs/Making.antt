-- What the making of a plan leaves: of an operation in work, of its record, and of the versions aimed at.
use Rattle.std.specs.Prelude.{◌≡◌, ◌++◌, ◌∷◌, ℕ, List, Option, Some, None, MatchOption, true}
use Rattle.rdb_base.specs.declared.identity.Stamp.TheVariants as stamp
use Rattle.rdb_base.specs.declared.identity.TxId.{TxId}
use Rattle.rdb_base.specs.declared.operation.Op.{Op}
use Rattle.rdb_base.specs.declared.operation.Op.TheVariants as op
use Rattle.rdb_base.specs.declared.value.Value.{Value}
use Rattle.rdb_cells.specs.Records.{Record}
use Rattle.rdb_registry.specs.declared.hand.Hand.{Hand}
use Rattle.rdb_registry.specs.declared.hand.Work.{Work}
use Rattle.rdb_registry.specs.Seats.{Seats, openings, NoneOpen, IsLeastSnapshot}
use Rattle.rdb_sight.specs.Versions.{Version, Versions, chain_in, with_chain_in, is_garbage_among}
use Rattle.rdb_steps.specs.Planned.{all_but}

-- an operation that makes an object, with the id of that object; another as it is
abbrev pub with_id : Op → ℕ → Op
with_id (op.New class row made) id = op.New class row id
with_id other id = other

-- the row that an operation writes; none where it deletes
abbrev pub row_written : Op → Option (List Value)
row_written (op.New class row id) = Some row
row_written (op.Put class id row) = Some row
row_written _ = None

-- the version that an operation of a transaction puts, in the cell of this number
abbrev pub version_put : ℕ → ℕ → TxId → Op → Version
version_put header serial tx op = record { header = header; serial = serial; stamp = stamp.By tx; row = row_written op }

-- a hand with another plan, and with another operation in work
abbrev pub with_plan : Record → Option Work → Hand → Hand
with_plan plan work hand = record hand { plan = plan; work = work }

-- the versions, with one of a transaction put first in the chain of an object, and its own one taken out with it where it had one
abbrev pub with_put : Versions → ℕ → ℕ → TxId → Version → Versions
with_put versions class id tx v = with_chain_in versions class id (v ∷ all_but tx (chain_in versions class id))

-- the versions, without that of a transaction in the chain of an object
abbrev pub without_own : Versions → ℕ → ℕ → TxId → Versions
without_own versions class id tx = with_chain_in versions class id (all_but tx (chain_in versions class id))

-- the number is the least open snapshot, if a transaction is open
abbrev pub IsFloor : Seats → Option ℕ → Type 0
IsFloor seats floor = MatchOption floor (NoneOpen (openings seats)) (IsLeastSnapshot (openings seats))

-- The chain of an object has, at this header, a version that no reader can see any more, between newer and older ones.
pub record IsGarbageAt (floor : Option ℕ) (versions : Versions) (class id header : ℕ) (newer older : List Version) : Type 0 where
  pub version : Version
  pub there : version.header ≡ header
  pub commit : ℕ
  pub done : version.stamp ≡ stamp.Done commit
  pub split : chain_in versions class id ≡ newer ++ version ∷ older
  pub unseen : is_garbage_among floor newer version older ≡ true
