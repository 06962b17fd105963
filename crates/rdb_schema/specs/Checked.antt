-- What a schema's definition asks of one of its places, fields, indexes, events, structs and classes, taken together.
use Rattle.std.specs.Prelude.{ℕ, List}
use Rattle.rdb_schema.specs.declared.schema.Field.{Field}
use Rattle.rdb_schema.specs.declared.schema.IndexDecl.{IndexDecl}
use Rattle.rdb_schema.specs.declared.schema.Event.{Event}
use Rattle.rdb_schema.specs.declared.schema.Group.{Group}
use Rattle.rdb_schema.specs.declared.schema.Class.{Class}
use Rattle.rdb_schema.specs.Names.{IsName, field_name}
use Rattle.rdb_schema.specs.Limits.{IsSmallGroup, IsShortKey, IsSmallClass}
use Rattle.rdb_schema.specs.SpelledSchemas.{IsFieldSpelled, IsIndexSpelled, IsEventSpelled, IsGroupSpelled, IsClassSpelled}
use Rattle.rdb_schema.specs.Resolved.{IsFieldPlace, IsFieldResolved, IsIndexResolved, IsEventResolved, IsGroupResolved, IsClassResolved}
use Rattle.rdb_schema.specs.Keys.{IsIndexKeyed}
use Rattle.rdb_schema.specs.Schemas.{IsClassKeyed}

abbrev pub IsPlaced : List Field → ℕ → Type 0
IsPlaced fields place = IsName (field_name fields place) × IsFieldPlace fields place

abbrev pub IsFieldDeclared : List Group → Field → Type 0
IsFieldDeclared groups field = IsFieldSpelled groups field × IsFieldResolved groups field

abbrev pub IsIndexDeclared : List Field → IndexDecl → Type 0
IsIndexDeclared fields index = IsIndexSpelled fields index × IsIndexResolved fields index × IsShortKey index × IsIndexKeyed fields index

abbrev pub IsEventDeclared : List Field → Event → Type 0
IsEventDeclared fields event = IsEventSpelled fields event × IsEventResolved fields event

abbrev pub IsGroupDeclared : Group → Type 0
IsGroupDeclared group = IsGroupSpelled group × IsGroupResolved group × IsSmallGroup group

abbrev pub IsClassDeclared : List Group → Class → Type 0
IsClassDeclared groups class = IsClassSpelled groups class × IsClassResolved groups class × IsSmallClass class × IsClassKeyed class
