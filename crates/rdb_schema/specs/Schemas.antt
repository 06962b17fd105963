-- What holds of each schema that a text declares.
use Rattle.std.specs.Prelude.{◌≡◌, ◌≢◌, ◌<◌, ◌≤◌, ℕ, false, All, AllPairs, length, IsTrue}
use Rattle.rdb_schema.specs.declared.schema.IndexKind.TheVariants.{Rtree}
use Rattle.rdb_schema.specs.declared.schema.IndexDecl.{IndexDecl}
use Rattle.rdb_schema.specs.declared.schema.Class.{Class}
use Rattle.rdb_schema.specs.declared.schema.Schema.{Schema}
use Rattle.rdb_schema.specs.Limits.{IsWithinLimits}
use Rattle.rdb_schema.specs.SpelledSchemas.{IsSpelled}
use Rattle.rdb_schema.specs.Resolved.{IsResolved}
use Rattle.rdb_schema.specs.Keys.{suits, has_one_field, IsIndexKeyed}
use Rattle.rdb_schema.specs.Indexes.{class_fields, fields_of, key_fields}

-- each index of a class has a key that its kind may have
abbrev pub IsClassKeyed : Class → Type 0
IsClassKeyed class = All (IsIndexKeyed class.fields) class.indexes

-- No more of anything than the limits; names, types and sizes that a text can have; each place the one that its name stands for;
-- and keys that the kinds of their indexes may have. That names differ isn't said here.
pub record IsSchema (schema : Schema) : Type 0 where
  pub limits : IsWithinLimits schema
  pub spelled : IsSpelled schema
  pub resolved : IsResolved schema
  pub keyed : All IsClassKeyed schema.classes

-- what a schema gives of an index of a class, whose key's places are those of fields of the class
pub record HasKey (schema : Schema) (class index : ℕ) (decl : IndexDecl) : Type 0 where
  pub places : All (λ place. place < length (class_fields schema class)) (fields_of schema class index)
  pub fields : All (λ field. IsTrue (suits decl.kind field.ty)) (key_fields schema class index)
  pub even : length (key_fields schema class index) ≡ length (fields_of schema class index)
  pub some : 0 < length (fields_of schema class index)
  pub short : length (fields_of schema class index) ≤ 4
  pub once : AllPairs (λ place other. place ≢ other) (fields_of schema class index)
  pub single : IsTrue (has_one_field decl.kind) → length (fields_of schema class index) ≡ 1
  pub shared : decl.kind ≡ Rtree → decl.unique ≡ false
