-- Why a write is refused, by the rows of its class.
use Rattle.std.specs.Prelude.{◌≡◌, ◌<◌, ◌^◌, ◌==◌, ℕ, List, Option}
use Rattle.std.specs.Prelude.{Some, None, length, map, not, slice_get, if◌then◌else◌}
use Rattle.std.specs.List.{find}
use Rattle.std.specs.Option.{option_map}
use Rattle.rdb_base.specs.declared.operation.Reply.{Reply}
use Rattle.rdb_base.specs.declared.operation.Reply.TheVariants as reply
use Rattle.rdb_schema.specs.declared.schema.IndexDecl.{IndexDecl}
use Rattle.rdb_model.specs.Answer.{clash}
use Rattle.rdb_model.specs.Database.{Row, Objects}
use Rattle.rdb_model.specs.Index.{key}
use Rattle.rdb_model.specs.Others.{others, first_with}
use Rattle.rdb_store.specs.Shapes.{ClassShape, index_shape}

-- the reply to a write of a row whose keys clash with those of the objects, but for one that is left out
abbrev pub clash_reply : List IndexDecl → Row → Option ℕ → Objects → Option Reply
clash_reply indexes row left_out objects = option_map (λ at. reply.Duplicate at.0 at.1) (clash indexes 0 row (others left_out objects))

-- the first id that isn't the one left out
abbrev pub first_but : Option ℕ → List ℕ → Option ℕ
first_but None ids = slice_get ids 0
first_but (Some out) ids = find (λ id. not (id == out)) ids

-- the indexes are those of the class, as declared, and each has fewer than 2^32 beside it
pub record AreDeclared (shape : ClassShape) (indexes : List IndexDecl) : Type 0 where
  pub shapes : shape.indexes ≡ map index_shape indexes
  pub few : length indexes < 2 ^ 32

-- this is the least object, but for one that is left out, with the row's key in the index, if that is unique
abbrev pub holds_key : IndexDecl → Row → Option ℕ → Option ℕ → Objects → Type 0
holds_key declared row left_out told objects =
    told ≡ (if declared.unique then first_with declared.key (key declared.key row) (others left_out objects) else None)
