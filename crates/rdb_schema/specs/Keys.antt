-- What the key of an index may be, by its kind.
use Rattle.std.specs.Prelude.{◌≡◌, ◌≢◌, ℕ, Bool, true, false, All, AllPairs, List, length, slice_get, IsTrue, IsSomeAnd}
use Rattle.rdb_schema.specs.declared.schema.FieldType.{FieldType}
use Rattle.rdb_schema.specs.declared.schema.FieldType.TheVariants as types
use Rattle.rdb_schema.specs.declared.schema.IndexKind.{IndexKind}
use Rattle.rdb_schema.specs.declared.schema.IndexKind.TheVariants.{Hash, Tree, Rtree, Patricia}
use Rattle.rdb_schema.specs.declared.schema.Field.{Field}
use Rattle.rdb_schema.specs.declared.schema.IndexDecl.{IndexDecl}

-- whether a field of the type may stand in a key: numbers and texts for a hash and a tree, a text for a Patricia, a box for an R-tree
abbrev pub suits : IndexKind → FieldType → Bool
suits Hash (types.Num bytes signed) = true
suits Hash types.Str = true
suits Tree (types.Num bytes signed) = true
suits Tree types.Str = true
suits Patricia types.Str = true
suits Rtree types.Box4 = true
suits _ _ = false

-- whether a key of the kind has one field only
abbrev pub has_one_field : IndexKind → Bool
has_one_field Patricia = true
has_one_field Rtree = true
has_one_field _ = false

-- the place is that of a field whose type suits the kind
abbrev pub IsKeyField : List Field → IndexKind → ℕ → Type 0
IsKeyField fields kind place = IsSomeAnd (slice_get fields place) (λ field. IsTrue (suits kind field.ty))

-- a key's fields suit the index's kind, each is there once, and an R-tree isn't unique
pub record IsIndexKeyed (fields : List Field) (index : IndexDecl) : Type 0 where
  pub suited : All (IsKeyField fields index.kind) index.key
  pub once : AllPairs (λ place other. place ≢ other) index.key
  pub single : IsTrue (has_one_field index.kind) → length index.key ≡ 1
  pub shared : index.kind ≡ Rtree → index.unique ≡ false
