-- What the steps of a region do to its versions: one object of one class has another chain.
use Rattle.std.specs.Prelude.{◌≡◌, ◌≢◌, ℕ, ◌<◌, ◌≤◌, true, List, ◌∷◌, ◌++◌, ◌⊎◌, length, Option, Some, None}
use Rattle.rdb_base.specs.declared.identity.TxId.{TxId}
use Rattle.rdb_base.specs.declared.identity.Stamp.TheVariants as stamp
use Rattle.rdb_base.specs.declared.journal.Entry.{Entry}
use Rattle.rdb_sight.specs.Versions.{Version, Versions, Marks, chain_in, with_chain_in, IsWithout, own_version, is_garbage_among}
use Rattle.rdb_model.specs.Database.{Row}
use Rattle.rdb_model.specs.Journal.{commits}

-- that the object of a class and an id has another chain, and nothing else changes
pub record HasChain (before after : Versions) (class id : ℕ) (chain : List Version) : Type 0 where
  pub class_there : class < length before
  pub is : after ≡ with_chain_in before class id chain

-- that a version of a transaction with a row, or a tombstone, is put first in the chain of an object that has none of that transaction
pub record PutsFirst (before after : Versions) (tx : TxId) (class id : ℕ) (row : Option Row) : Type 0 where
  pub version : Version
  pub stamped : version.stamp ≡ stamp.By tx
  pub holds : version.row ≡ row
  pub none_own : own_version tx (chain_in before class id) ≡ None
  pub put : HasChain before after class id (version ∷ chain_in before class id)

-- the same of an object that has a version of that transaction, which is taken out with it
pub record PutsAgain (before after : Versions) (tx : TxId) (class id : ℕ) (row : Option Row) : Type 0 where
  pub version : Version
  pub stamped : version.stamp ≡ stamp.By tx
  pub holds : version.row ≡ row
  pub replaced : Version
  pub was_own : replaced.stamp ≡ stamp.By tx
  pub rest : List Version
  pub without : IsWithout replaced (chain_in before class id) rest
  pub put : HasChain before after class id (version ∷ rest)

-- that a version of a transaction is put first in the chain of an object, and its own one taken out with it where it had one
abbrev pub Puts : Versions → Versions → TxId → ℕ → ℕ → Option Row → Type 0
Puts before after tx class id row = PutsFirst before after tx class id row ⊎ PutsAgain before after tx class id row

-- that a version of a transaction is taken out of the chain of an object
pub record DropsOwn (before after : Versions) (tx : TxId) (class id : ℕ) : Type 0 where
  pub dropped : Version
  pub was_own : dropped.stamp ≡ stamp.By tx
  pub rest : List Version
  pub without : IsWithout dropped (chain_in before class id) rest
  pub taken : HasChain before after class id rest

-- that a garbage version is taken out of the chain of an object, by the least open snapshot
pub record DropsGarbage (floor : Option ℕ) (before after : Versions) (class id : ℕ) : Type 0 where
  pub dropped : Version
  pub newer : List Version
  pub older : List Version
  pub was : chain_in before class id ≡ newer ++ dropped ∷ older
  pub garbage : is_garbage_among floor newer dropped older ≡ true
  pub taken : HasChain before after class id (newer ++ older)

-- that a version of a transaction whose commit is marked gets the stamp of that commit
pub record Stamps (marks : Marks) (before after : Versions) (tx : TxId) (class id : ℕ) : Type 0 where
  pub stamped : Version
  pub was_own : stamped.stamp ≡ stamp.By tx
  pub commit : ℕ
  pub marked : marks tx ≡ Some commit
  pub newer : List Version
  pub older : List Version
  pub was : chain_in before class id ≡ newer ++ stamped ∷ older
  pub put : HasChain before after class id (newer ++ record stamped { stamp = stamp.Done commit } ∷ older)

-- that the commit of one transaction more is marked, with a number
pub record IsMarked (before after : Marks) (tx : TxId) (commit : ℕ) : Type 0 where
  pub own : after tx ≡ Some commit
  pub others : (other : TxId) → other ≢ tx → after other ≡ before other

-- that the mark of a transaction is taken away
pub record IsUnmarked (before after : Marks) (tx : TxId) : Type 0 where
  pub own : after tx ≡ None
  pub others : (other : TxId) → other ≢ tx → after other ≡ before other

-- that no version has the stamp of a transaction
abbrev pub HasNone : Versions → TxId → Type 0
HasNone versions tx = (class id : ℕ) → own_version tx (chain_in versions class id) ≡ None

-- that a snapshot isn't below the least open one; where none is open, that it has every commit of the journal
abbrev pub IsAtLeast : Option ℕ → List Entry → ℕ → Type 0
IsAtLeast (Some floor) journal snapshot = floor ≤ snapshot
IsAtLeast None journal snapshot = commits journal ≤ snapshot
