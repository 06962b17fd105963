-- What the versions keep beside the journal, and what a transaction's own versions are. An object is a pair of its class and its id.
use Rattle.std.specs.Prelude.{◌≡◌, ℕ, ◌<◌, ◌≤◌, List, [], ◌∷◌, Option, Some, None, if◌then◌else◌}
use Rattle.std.specs.List.{All, AllPairs}
use Rattle.std.specs.Option.{option_map, option_or}
use Rattle.rdb_base.specs.declared.identity.TxId.{TxId}
use Rattle.rdb_base.specs.declared.identity.Stamp.TheVariants as stamp
use Rattle.rdb_base.specs.declared.operation.Op.{Op}
use Rattle.rdb_base.specs.declared.operation.Reply.{Reply}
use Rattle.rdb_base.specs.declared.journal.Entry.{Entry}
use Rattle.rdb_sight.specs.Versions.{Version, Versions, Marks, IsAscending, objects_in, chain_in, counted, own_version}
use Rattle.rdb_model.specs.Database.{Row}
use Rattle.rdb_model.specs.Journal.{commits}
use Rattle.rdb_history.specs.Rows.{row_left, wrote, done_in}

-- what the last of the operations that wrote an object left of it, a row or none; none at all where none of them wrote it
abbrev pub last_left : ℕ × ℕ → List (Op × Reply) → Option (Option Row)
last_left object [] = None
last_left object (d ∷ ds) = option_or (last_left object ds) (if wrote d object then Some (row_left d.0) else None)

-- that of two versions which are done, the second is of the earlier commit
abbrev pub IsOfLaterCommit : Marks → Version → Version → Type 0
IsOfLaterCommit marks v w =
    (n m : ℕ) → counted marks v.stamp ≡ stamp.Done n → counted marks w.stamp ≡ stamp.Done m → m < n

-- that two versions aren't of one open transaction
abbrev pub AreOfTwo : Marks → Version → Version → Type 0
AreOfTwo marks v w = (tx : TxId) → counted marks v.stamp ≡ stamp.By tx → counted marks w.stamp ≡ stamp.By tx → ⊥

-- that a version, if it is done, is what its commit, one of the journal, left of the object by its last write of it
abbrev pub IsWritten : List Entry → Marks → ℕ × ℕ → Version → Type 0
IsWritten journal marks object v =
    (n : ℕ) → counted marks v.stamp ≡ stamp.Done n → (n ≤ commits journal) × (last_left object (done_in journal n) ≡ Some v.row)

-- that the versions of an object, newest first, are a chain: the numbers of their commits fall, no open transaction stands twice, and
-- each that is done is what its commit wrote
pub record IsChain (journal : List Entry) (marks : Marks) (object : ℕ × ℕ) (chain : List Version) : Type 0 where
  pub falls : AllPairs (IsOfLaterCommit marks) chain
  pub once : AllPairs (AreOfTwo marks) chain
  pub written : All (IsWritten journal marks object) chain

-- what the versions of a region keep: in each class the ids ascend, and the versions of each object are a chain
pub record AreVersions (journal : List Entry) (marks : Marks) (versions : Versions) : Type 0 where
  pub in_order : (class : ℕ) → IsAscending (objects_in versions class)
  pub chains : (class id : ℕ) → IsChain journal marks (class, id) (chain_in versions class id)

-- that a version that is done, with one of a transaction behind it, is of a commit that the transaction's snapshot doesn't have
abbrev pub IsUnseenBy : TxId → ℕ → Marks → Version → Version → Type 0
IsUnseenBy tx snapshot marks v own = (n : ℕ) → counted marks v.stamp ≡ stamp.Done n → own.stamp ≡ stamp.By tx → snapshot < n

-- that the own versions of an open transaction, whose commit isn't marked, are exactly what its operations wrote: of each object that
-- they wrote it has one with the row that they left, or a tombstone; and what stands before one is unseen by it
pub record IsWork (marks : Marks) (versions : Versions) (tx : TxId) (snapshot : ℕ) (done : List (Op × Reply)) : Type 0 where
  pub unmarked : marks tx ≡ None
  pub wrote : (class id : ℕ) → option_map (λ v. v.row) (own_version tx (chain_in versions class id)) ≡ last_left (class, id) done
  pub unseen : (class id : ℕ) → AllPairs (IsUnseenBy tx snapshot marks) (chain_in versions class id)
