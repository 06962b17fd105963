-- The objects of a class: each with its versions, newest first.
use Rattle.std.specs.Prelude.{◌≡◌, ◌==◌, ℕ, List, [], ◌∷◌, map, slice_get, Option, if◌then◌else◌}
use Rattle.rdb_pages.specs.declared.cell.CellRef.{CellRef}
use Rattle.rdb_cells.specs.Words.{no_ref}

-- an object: its id, and the references of its versions, newest first
pub record Object : Type 0 where
  pub id : ℕ
  pub versions : List CellRef

abbrev pub ids_of : List Object → List ℕ
ids_of objects = map (λ o. o.id) objects

-- the newest of the versions, or no cell
abbrev pub newest_of : List CellRef → CellRef
newest_of [] = no_ref
newest_of (v ∷ vs) = v

-- the versions of the object with this id; none where there is no such object
abbrev pub versions_of : List Object → ℕ → List CellRef
versions_of [] id = []
versions_of (o ∷ os) id = if o.id == id then o.versions else versions_of os id

-- the newest version of the object with this id, if there is one
abbrev pub newest_version : List Object → ℕ → Option CellRef
newest_version objects id = slice_get (versions_of objects id) 0

-- each object has a version
abbrev pub HaveVersions : List Object → Type 0
HaveVersions [] = Unit {0}
HaveVersions (o ∷ os) = (¬ (o.versions ≡ [])) × HaveVersions os

-- two lists have the same objects, in whatever order
abbrev pub SameObjects : List Object → List Object → Type 0
SameObjects xs ys = (id : ℕ) → versions_of xs id ≡ versions_of ys id

-- the objects with one version more, the newest of the object with this id, which may be a new one
abbrev pub with_version : List Object → ℕ → CellRef → List Object
with_version [] id version = record { id = id; versions = version ∷ [] } ∷ []
with_version (o ∷ os) id version = if o.id == id then record o { versions = version ∷ o.versions } ∷ os else o ∷ with_version os id version

-- the versions without this one
abbrev pub without : List CellRef → CellRef → List CellRef
without [] version = []
without (v ∷ vs) version = if v.number == version.number then vs else v ∷ without vs version

-- the object with these versions and the others; without a version it is none
abbrev pub with_rest : ℕ → List CellRef → List Object → List Object
with_rest id [] others = others
with_rest id (v ∷ vs) others = record { id = id; versions = v ∷ vs } ∷ others

-- the objects without that version of the object with this id; without the last version the object is gone
abbrev pub without_version : List Object → ℕ → CellRef → List Object
without_version [] id version = []
without_version (o ∷ os) id version = if o.id == id then with_rest o.id (without o.versions version) os else o ∷ without_version os id version
