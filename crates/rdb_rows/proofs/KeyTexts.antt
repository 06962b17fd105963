-- Keys that are one text, or one box, where they stand.
use Rattle.std.proofs.Common.{◌≡◌, ◌++◌, ◌∷◌, ℕ, List, length, drop, slice_get, ◌≤◌, Option, Some, IsSome, sym, ap, ◌∙◌}
use Rattle.std.specs.Option.{option_map_or}
use Rattle.rdb_base.specs.declared.value.Value.{Value}
use Rattle.rdb_base.specs.declared.value.Value.TheVariants as value
use Rattle.rdb_schema.specs.declared.types.ValueType.{ValueType}
use Rattle.rdb_access.specs.Read.{rect_from}
use Rattle.rdb_pages.specs.declared.cell.Cell.{Cell}
use Rattle.rdb_cells.specs.Images.{Image}
use Rattle.rdb_cells.specs.Keys.{Version, text_of, box_of}
use Rattle.rdb_rows.specs.declared.key_fields.KeyField.{KeyField}
use Rattle.rdb_rows.specs.declared.spot.Spot.{Spot}
use Rattle.rdb_rows.specs.Places.{numbers_in}
use Rattle.rdb_rows.specs.RowKeys.{picked}
use Rattle.rdb_rows.specs.RowSpots.{BeginsRow, IsLeafOf}
use Rattle.rdb_rows.specs.Spots.{Stand, HasBytes}
use Rattle.rdb_rows.proofs.KeyRows.{picked_at}
use Rattle.rdb_rows.proofs.KeyedRows.{Known, some_of, text_key, text_begins, box_key, box_begins, the_box}
use Rattle.rdb_rows.proofs.LeafSpots.{rect_room, rect_there}
use Rattle.rdb_rows.proofs.SpotLemmas.{has_bytes}

pub one_version : (o : Option Version) (v w : Version) → o ≡ Some v → o ≡ Some w → v ≡ w
one_version o v w first second = ap (λ (p : Option Version). option_map_or (λ u. u) p v) (sym first ∙ second)

pub one_text : (o : Option (List ℕ)) (v w : List ℕ) → o ≡ Some v → o ≡ Some w → v ≡ w
one_text o v w first second = ap (λ (p : Option (List ℕ)). option_map_or (λ u. u) p v) (sym first ∙ second)

module _ (types : List ValueType) (fields : List KeyField) (image : Image) (v : Version) (cell : Cell) (first spot : Spot) (f : KeyField)
    (k : Known (record { types = types; fields = numbers_in fields }) image v cell first)
    (at : slice_get fields 0 ≡ Some f)
    (leaf : (row : List Value) → BeginsRow image first types row → IsLeafOf image row f spot) where
  key_is : v.key ≡ value.Leaf (leaf k.row k.begins).l ∷ picked k.row (numbers_in (drop 1 fields))
  key_is = ap (λ (w : Version). w.key) k.is ∙ picked_at k.row fields 0 f (value.Leaf (leaf k.row k.begins).l) at (leaf k.row k.begins).there

  -- the text that is the key stands there
  pub text_found : IsSome (text_of v.key) → (words : List ℕ) × (rest : List ℕ) × (text_of v.key ≡ Some words) × Stand image spot (length words ∷ (words ++ rest))
  text_found some =
      let l = leaf k.row k.begins in
      let text = some_of (text_of v.key) some in
      let is = text_key l.l (picked k.row (numbers_in (drop 1 fields))) text.0 (sym (ap text_of key_is) ∙ text.1) in
      (text.0, l.begins.rest, text.1, text_begins image spot f.ty l.l text.0 l.begins is)

  -- the box that is the key is read there
  pub box_found : IsSome (box_of v.key) → (bytes : List ℕ) × (box_of v.key ≡ Some (rect_from bytes)) × HasBytes image spot 16 × (16 ≤ length bytes) × Stand image spot bytes
  box_found some =
      let l = leaf k.row k.begins in
      let box = some_of (box_of v.key) some in
      let is = box_key l.l (picked k.row (numbers_in (drop 1 fields))) box.0 (sym (ap box_of key_is) ∙ box.1) in
      let ty = box_begins image spot f.ty l.l box.0 l.begins is in
      let room = rect_room image spot f.ty l.l l.begins ty in
      let same = the_box box.0 (rect_from l.begins.bytes) (sym is ∙ rect_there image spot f.ty l.l l.begins ty) in
      (l.begins.bytes, box.1 ∙ ap Some same, has_bytes image spot 16 l.begins.bytes room l.begins.stand, room, l.begins.stand)
