-- The versions of a region, without its cells: for each class its objects in ascending id, each with the chain of its versions, newest
-- first; and the rows that they show to a reader.
use Rattle.std.specs.Prelude.{◌≡◌, ℕ, ◌<◌, Bool, List, [], ◌∷◌, ◌++◌, map, is_none, is_some, true, false, Option, Some, None, nat_lt, ◌==◌, option_and_then, slice_index_or, slice_set, if◌then◌else◌, length}
use Rattle.std.specs.List.{filter_map, find, All, AllPairs}
use Rattle.std.specs.Option.{option_map, option_map_or}
use Rattle.rdb_base.specs.declared.identity.TxId.{TxId}
use Rattle.rdb_base.specs.declared.identity.Stamp.{Stamp}
use Rattle.rdb_base.specs.declared.identity.Stamp.TheVariants as stamp
use Rattle.rdb_base.specs.declared.value.Value.{Value}
use Rattle.rdb_sight.specs.Sight.{is_own, commit_within, exceeds, seen}
use Rattle.rdb_sight.specs.Garbage.{least_commit, is_garbage}

-- one version of an object: the number of its header's cell, its serial, its stamp as it stands there, and its row, or none where it is
-- a tombstone
pub record Version : Type 0 where
  pub header : ℕ
  pub serial : ℕ
  pub stamp : Stamp
  pub row : Option (List Value)

-- an object: its id and its versions, newest first
pub record Object : Type 0 where
  pub id : ℕ
  pub chain : List Version

-- the objects of each class
abbrev pub Versions : Type 0
Versions = List (List Object)

-- that each object's id is below the ids of those after it
abbrev pub IsAscending : List Object → Type 0
IsAscending objects = AllPairs (λ o p. o.id < p.id) objects

-- the versions of the object of an id: none where there is no such object
abbrev pub chain_of : List Object → ℕ → List Version
chain_of [] id = []
chain_of (o ∷ os) id = if o.id == id then o.chain else chain_of os id

-- an object put before others, unless it has no version
abbrev pub with_object : ℕ → List Version → List Object → List Object
with_object id [] objects = objects
with_object id (v ∷ vs) objects = record { id = id; chain = v ∷ vs } ∷ objects

-- the objects, with that chain at that id; where the chain has no version, without the object
abbrev pub with_chain : List Object → ℕ → List Version → List Object
with_chain [] id chain = with_object id chain []
with_chain (o ∷ os) id chain =
    if nat_lt id o.id then with_object id chain (o ∷ os)
    else (if o.id == id then with_object id chain os else o ∷ with_chain os id chain)

-- a class's objects
abbrev pub objects_in : Versions → ℕ → List Object
objects_in versions class = slice_index_or versions class []

-- the versions of an object, by its class and id
abbrev pub chain_in : Versions → ℕ → ℕ → List Version
chain_in versions class id = chain_of (objects_in versions class) id

-- the versions, with that chain at that class and id
abbrev pub with_chain_in : Versions → ℕ → ℕ → List Version → Versions
with_chain_in versions class id chain = slice_set versions class (with_chain (objects_in versions class) id chain)

-- that a chain is another one without one of its versions
pub record IsWithout (v : Version) (chain rest : List Version) : Type 0 where
  pub newer : List Version
  pub older : List Version
  pub before : chain ≡ newer ++ v ∷ older
  pub after : rest ≡ newer ++ older

-- for each transaction the number of its commit, where its commit is marked and not all its stamps are written
abbrev pub Marks : Type 0
Marks = TxId → Option ℕ

-- a stamp with the marks counted: what a marked transaction stamped counts as done by its commit
abbrev pub counted : Marks → Stamp → Stamp
counted marks (stamp.By tx) = option_map_or stamp.Done (marks tx) (stamp.By tx)
counted marks (stamp.Done commit) = stamp.Done commit

-- the version of an object that a reader sees, with the marks counted
abbrev pub version_seen : Marks → ℕ → Option TxId → List Version → Option Version
version_seen marks snapshot own chain = seen (λ v. counted marks v.stamp) snapshot own chain

-- that a version is of the latest commit that a snapshot has, of a chain without the reader's own versions
pub record IsLatest (marks : Marks) (snapshot : ℕ) (own : Option TxId) (chain : List Version) (v : Version) : Type 0 where
  pub none_own : All (λ w. is_own own (counted marks w.stamp) ≡ false) chain
  pub within : is_some (commit_within snapshot (counted marks v.stamp)) ≡ true
  pub latest : All (λ w. exceeds (commit_within snapshot (counted marks w.stamp)) (commit_within snapshot (counted marks v.stamp)) ≡ false) chain

-- that a reader sees no version of a chain: none is its own, and its snapshot has the commit of none
pub record SeesNone (marks : Marks) (snapshot : ℕ) (own : Option TxId) (chain : List Version) : Type 0 where
  pub none_own : All (λ w. is_own own (counted marks w.stamp) ≡ false) chain
  pub none_within : All (λ w. commit_within snapshot (counted marks w.stamp) ≡ None) chain

-- the row that an object shows to a reader: none where the reader sees none of its versions, or a tombstone
abbrev pub row_shown : Marks → ℕ → Option TxId → List Version → Option (List Value)
row_shown marks snapshot own chain = option_and_then (λ v. v.row) (version_seen marks snapshot own chain)

-- the id and the row that each object shows to a reader, of those that show one
abbrev pub rows_shown : Marks → ℕ → Option TxId → List Object → List (ℕ × List Value)
rows_shown marks snapshot own objects =
    filter_map (λ o. option_map (λ row. (o.id, row)) (row_shown marks snapshot own o.chain)) objects

-- what a reader is shown of each class: a plain database
abbrev pub shown : Marks → ℕ → Option TxId → Versions → List (List (ℕ × List Value))
shown marks snapshot own versions = map (rows_shown marks snapshot own) versions

-- the version of a transaction among those of an object, if it has one
abbrev pub own_version : TxId → List Version → Option Version
own_version tx chain = find (λ v. is_own (Some tx) v.stamp) chain

-- whether a version is garbage, by the newer and the older versions of its object and the least open snapshot
abbrev pub is_garbage_among : Option ℕ → List Version → Version → List Version → Bool
is_garbage_among floor newer v older =
    is_garbage v.stamp (is_none v.row) (least_commit (map (λ w. w.stamp) newer)) (nat_lt 0 (length older)) floor
