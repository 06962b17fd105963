-- The first version of a class that no reader can see any more.
use Rattle.std.specs.Prelude.{◌≡◌, ◌<◌, ◌≤◌, ◌⊎◌, ℕ, List, [], ◌∷◌, ◌++◌, is_none, nat_le, nat_lt, min, Bool, Option, Some, None, true, false, if◌then◌else◌}
use Rattle.std.specs.Option.{option_map_or, option_or}
use Rattle.rdb_base.specs.declared.identity.Stamp.{Stamp}
use Rattle.rdb_base.specs.declared.identity.Stamp.TheVariants as stamp
use Rattle.rdb_cells.specs.Images.{Image}
use Rattle.rdb_pages.specs.declared.cell.CellRef.{CellRef}
use Rattle.rdb_objects.specs.Objects.{newest_of}
use Rattle.rdb_objects.specs.Slots.{HoldsObjects, AreVersions}
use Rattle.rdb_rows.specs.Versions.{Version as StoredVersion, HoldsVersion, is_tombstone}
use Rattle.rdb_sight.specs.Versions.{Version, Object, chain_of, is_garbage_among}
use Rattle.rdb_store.specs.Stored.{refs_of, all_linked}
use Rattle.rdb_store.specs.declared.garbage.Unseen.{Unseen}

-- no reader can see the version of a chain any more: it has this commit, and its header this number
pub record IsGarbageIn (floor : Option ℕ) (chain : List Version) (commit header : ℕ) : Type 0 where
  pub newer : List Version
  pub version : Version
  pub older : List Version
  pub split : chain ≡ newer ++ version ∷ older
  pub there : version.header ≡ header
  pub done : version.stamp ≡ stamp.Done commit
  pub unseen : is_garbage_among floor newer version older ≡ true

-- by id, then by commit, the first version comes no later than the other
abbrev pub IsNoLater : ℕ → ℕ → ℕ → ℕ → Type 0
IsNoLater id commit other later = (id < other) ⊎ ((id ≡ other) × (commit ≤ later))

-- a version with this header can be seen no more, and none like it is of an earlier object, or of the same one with an earlier commit
pub record IsFirstUnseen (floor : Option ℕ) (objects : List Object) (header : ℕ) : Type 0 where
  pub id : ℕ
  pub commit : ℕ
  pub garbage : IsGarbageIn floor (chain_of objects id) commit header
  pub first : (other later there : ℕ) → IsGarbageIn floor (chain_of objects other) later there → IsNoLater id commit other later

-- it is the first version of the objects that no reader can see any more; none where each can be seen
abbrev pub IsFirstGarbage : Option ℕ → List Object → Option CellRef → Type 0
IsFirstGarbage floor objects None = (id commit header : ℕ) → ¬ IsGarbageIn floor (chain_of objects id) commit header
IsFirstGarbage floor objects (Some r) = IsFirstUnseen floor objects r.number

-- the version stands in front of the older ones, with its stamp, and with a row where it has one
pub record IsLinked (image : Image) (v : Version) (older : List Version) : Type 0 where
  pub some : 0 < v.header
  pub stored : StoredVersion
  pub cells : List ℕ
  pub stands : HoldsVersion image v.header stored cells
  pub stamp_is : stored.label.stamp ≡ v.stamp
  pub row : is_tombstone stored.row ≡ is_none v.row
  pub leads : stored.label.older ≡ newest_of (refs_of older)

-- each version of a chain stands in front of the older ones
abbrev pub IsChain : Image → List Version → Type 0
IsChain image [] = Unit {0}
IsChain image (v ∷ older) = IsLinked image v older × IsChain image older

-- the chain of an object begins with this version
pub record Begins (image : Image) (newest : CellRef) (chain : List Version) : Type 0 where
  pub id : ℕ
  pub versions : AreVersions image id (refs_of chain)
  pub is_chain : IsChain image chain
  pub newest_is : newest ≡ newest_of (refs_of chain)

-- the cells of a class hold the slots of these objects, and their chains
pub record HoldsChains (image : Image) (class : ℕ) (objects : List Object) : Type 0 where
  pub cells : List ℕ
  pub slots : HoldsObjects image class (all_linked objects) cells
  pub chains : (id : ℕ) → IsChain image (chain_of objects id)

-- the number of a stamp's commit, if it is one of a commit
abbrev pub commit_of : Stamp → Option ℕ
commit_of (stamp.Done commit) = Some commit
commit_of (stamp.By by) = None

-- the number of a version's commit, if no reader can see the version any more
abbrev pub TellsUnseen : Option ℕ → List Version → Version → List Version → Option ℕ → Type 0
TellsUnseen floor newer v older None = is_garbage_among floor newer v older ≡ false
TellsUnseen floor newer v older (Some commit) = (v.stamp ≡ stamp.Done commit) × (is_garbage_among floor newer v older ≡ true)

-- the version of the chain of an object that no reader can see any more and whose commit is the least of such; none where each can be seen
abbrev pub IsFirstIn : Option ℕ → List Version → ℕ → Option Unseen → Type 0
IsFirstIn floor chain id None = (commit header : ℕ) → ¬ IsGarbageIn floor chain commit header
IsFirstIn floor chain id (Some found) =
    (found.id ≡ id) × IsGarbageIn floor chain found.commit found.version.number
    × ((later there : ℕ) → IsGarbageIn floor chain later there → found.commit ≤ later)

-- of what was found before and the first of an object's chain, it is the one of the lesser id
abbrev pub IsSooner : Option ℕ → List Version → ℕ → Option Unseen → Option Unseen → Type 0
IsSooner floor chain id None result = IsFirstIn floor chain id result
IsSooner floor chain id (Some best) result =
    ((best.id < id) × (result ≡ Some best))
    ⊎ ((id ≤ best.id) × (found : Option Unseen) × IsFirstIn floor chain id found × (result ≡ option_or found (Some best)))

-- something was found before, in an object with a lesser id
abbrev pub is_earlier : Option Unseen → ℕ → Bool
is_earlier None id = false
is_earlier (Some best) id = nat_lt best.id id

-- of what was found before and a version of the object, the one of the lesser commit
abbrev pub earlier : Option Unseen → ℕ → CellRef → Option ℕ → Option Unseen
earlier before id version None = before
earlier None id version (Some commit) = Some (record { id = id; commit = commit; version = version })
earlier (Some best) id version (Some commit) =
    if nat_le best.commit commit then Some best else Some (record { id = id; commit = commit; version = version })

-- the least of a commit, if one is known, and that of a stamp, if it has one
abbrev pub least_with : Option ℕ → Stamp → Option ℕ
least_with known (stamp.Done commit) = Some (option_map_or (min commit) known commit)
least_with known (stamp.By by) = known
