-- A seek in a tree index, one version after another.
use Rattle.std.specs.Prelude.{◌≡◌, ◌<◌, ℕ, List, Bool, length, filter, Option}
use Rattle.std.specs.Option.{option_map_or}
use Rattle.rdb_base.specs.declared.operation.Place.{Place}
use Rattle.rdb_base.specs.declared.operation.Reply.{Reply}
use Rattle.rdb_base.specs.declared.operation.Reply.TheVariants as reply
use Rattle.rdb_cells.specs.Images.{Image}
use Rattle.rdb_cells.specs.Index.{WhateverListed}
use Rattle.rdb_cells.specs.Keys.{says}
use Rattle.rdb_sight.specs.Versions.{Marks}
use Rattle.rdb_tree.specs.Lookups.{PlaceFits, is_past}
use Rattle.rdb_model.specs.Answer.{sought}
use Rattle.rdb_model.specs.Database.{Objects}
use Rattle.rdb_model.specs.Index.{index}
use Rattle.rdb_store.specs.Classes.{ClassNature}
use Rattle.rdb_store.specs.Shapes.{ClassShape, index_at, nature_of_class}
use Rattle.rdb_cursor.specs.Views.{OfRows}
use Rattle.rdb_cursor.specs.declared.marks.Reader.{Reader}
use Rattle.rdb_cursor.specs.declared.seek.Step.{Step}
use Rattle.rdb_cursor.specs.declared.seek.Step.TheVariants as step

-- the plain reply to a seek
abbrev pub sought_reply : List ℕ → Place → Bool → Objects → Reply
sought_reply fields from up objects = option_map_or (λ pair. reply.At pair.0 pair.1) (sought from up (index fields objects)) reply.End

-- the key of the place, if it has one, is of the types of the index's fields
abbrev pub CanSeekFrom : ClassNature → ℕ → Place → Type 0
CanSeekFrom class at place = PlaceFits (class.at at).keys place

-- of the versions that the index lists, fewer are past the one place than past the other
abbrev pub HasFewerPast : ClassNature → ℕ → Image → Bool → Place → Place → Type 0
HasFewerPast class at image up next from = WhateverListed (class.at at).index (class.at at).keys image (λ listed nodes.
    length (filter (is_past (says (class.at at).keys image) next up) listed)
    < length (filter (is_past (says (class.at at).keys image) from up) listed))

-- from the next place a seek finds what it finds from the first one, and it comes nearer to the end
pub record IsNearer (shape : ClassShape) (at : ℕ) (image : Image) (class_of : ℕ → Option ℕ) (marks : Marks) (reader : Reader)
    (up : Bool) (next from : Place) : Type 0 where
  pub fits : CanSeekFrom (nature_of_class shape) at next
  pub same : OfRows shape image class_of marks reader (λ rows.
      sought next up (index (index_at shape at).fields rows) ≡ sought from up (index (index_at shape at).fields rows))
  pub fewer : HasFewerPast (nature_of_class shape) at image up next from

-- a step from a place told the plain reply, or passed to a place from which it is the same
abbrev pub IsStep : ClassShape → ℕ → Image → (ℕ → Option ℕ) → Marks → Reader → Bool → Place → Step → Type 0
IsStep shape at image class_of marks reader up from (step.Told told) =
    OfRows shape image class_of marks reader (λ rows. told ≡ sought_reply (index_at shape at).fields from up rows)
IsStep shape at image class_of marks reader up from (step.Passed next) = IsNearer shape at image class_of marks reader up next from
