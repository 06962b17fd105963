-- What tests show of versions that they put: each has a key.
use Rattle.std.proofs.Common.{◌≡◌, ℕ, List, Option, Some, IsSome, sym, subst, ◌∙◌, rules}
use Rattle.rdb_base.specs.declared.value.Value.{Value}
use Rattle.rdb_schema.specs.Encodes.{Encodes}
use Rattle.rdb_pages.specs.declared.cell.CellRef.{CellRef}
use Rattle.rdb_cells.specs.Images.{Image}
use Rattle.rdb_cells.specs.Keys.{Version as Keyed, HasKey}
use Rattle.rdb_rows.specs.RowKeys.{KeyShape, key_meaning}
use Rattle.rdb_rows.specs.Versions.{Version, HoldsVersion}
use Rattle.rdb_rows.proofs.SayingLemmas.{said_is, said_row}

-- a version that stands with the encoding of a row has a key
pub has_key : (keys shape : KeyShape) (image : Image) (at : CellRef) (v : Version) (cells : List ℕ) (row : List Value) (bytes encoding : List ℕ) → keys ≡ shape → HoldsVersion image at.number v cells → v.row ≡ Some bytes → bytes ≡ encoding → Encodes shape.types row encoding → HasKey (key_meaning keys) image at
has_key keys shape image at v cells row bytes encoding its_shape holds is same encodes =
    let of_row = subst (λ (b : List ℕ). Encodes shape.types row b) (sym same) encodes in
    subst (λ (k : KeyShape). HasKey (key_meaning k) image at) (sym its_shape)
    (subst (λ (o : Option Keyed). IsSome o) (sym (said_is shape image at.number v cells holds ∙ said_row shape v row bytes is of_row)) (search rules))
