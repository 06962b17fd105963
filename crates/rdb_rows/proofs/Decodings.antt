-- The two answers of a reader of rows.
use Rattle.std.proofs.Common.{◌≡◌, ℕ, List, Option, Some, None, true, false, refl, sym, ap, subst}
use Rattle.std.proofs.lemmas.Bool.{false≢true}
use Rattle.rdb_base.specs.declared.value.Value.{Value}
use Rattle.rdb_schema.specs.declared.types.ValueType.{ValueType}
use Rattle.rdb_schema.specs.Encodes.{Encodes}
use Rattle.rdb_rows.specs.Decoded.{IsRowOf}
use Rattle.rdb_rows.specs.Versions.{is_tombstone, bytes_in}

pub no_row : (types : List ValueType) (row : Option (List ℕ)) → is_tombstone row ≡ true → IsRowOf types row None
no_row types None dead = refl
no_row types (Some bytes) dead = absurd (false≢true dead)

pub a_row : (types : List ValueType) (row : Option (List ℕ)) (bytes : List ℕ) (decoded : List Value) → is_tombstone row ≡ false → bytes ≡ bytes_in row → ((r : List Value) → Encodes types r bytes → decoded ≡ r) → IsRowOf types row (Some decoded)
a_row types None bytes decoded dead same is = absurd (false≢true (sym dead))
a_row types (Some own) bytes decoded dead same is = λ r encodes. ap Some (is r (subst (Encodes types r) (sym same) encodes))
