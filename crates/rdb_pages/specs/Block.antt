-- What the owner of a block of places, and the right to free it, own at values of the row R.
use Rattle.std.specs.Prelude.{ℕ, ◌+◌, ◌*◌, ◌^◌, List, [], ◌∷◌, length, Option, Some, None}
use Rattle.std.specs.Mem.{type_size}
use base.Fraction.{full_share}
use base.Fml.{Lft, Fml, ftrue, ffalse, fsep, flt, froom}
use mir.Syntax.{Ty, ty_array}
use mir.Raw.{raw}
use denote.RattleType.{RattleType}
use denote.Memory.{lone, part_at, shared_of}
use denote.Sharing.{nothing, said, beside}
use denote.RawPtr.{Ptr, block_ptr, null_ptr}

module _ (R : RattleType) where
  -- the place at the offset o of the memory block b: its value, or room for one
  abbrev pub place_owns : ℕ → ℕ → Option R.Denot → Fml
  place_owns b o None = froom (raw (lone R.mir)) b o
  place_owns b o (Some x) = part_at R full_share x b o

  -- places one after another from the offset o on
  abbrev pub places_own : ℕ → ℕ → List (Option R.Denot) → Fml
  places_own b o [] = ftrue
  places_own b o (c ∷ cs) = fsep (place_owns b o c) (places_own b (o + type_size R) cs)

  -- the same behind a `&`, which shows the values alone
  abbrev pub place_lends : ℕ → ℕ → Option R.Denot → Lft → Fml
  place_lends b o None = nothing
  place_lends b o (Some x) = shared_of R x b o

  abbrev pub places_lend : ℕ → ℕ → List (Option R.Denot) → Lft → Fml
  places_lend b o [] = nothing
  places_lend b o (c ∷ cs) = beside (place_lends b o c) (places_lend b (o + type_size R) cs)

  -- a block is no larger than an allocation can be
  abbrev pub within_limit : List (Option R.Denot) → Fml
  within_limit cs = flt (length cs * type_size R) (2 ^ 63)

  abbrev pub block_owns : Ptr → List (Option R.Denot) → Fml
  block_owns (block_ptr b o) cs = fsep (within_limit cs) (places_own b o cs)
  block_owns null_ptr cs = ffalse

  abbrev pub block_lends : Ptr → List (Option R.Denot) → Lft → Fml
  block_lends (block_ptr b o) cs = beside (said (within_limit cs)) (places_lend b o cs)
  block_lends null_ptr cs = said ffalse

  -- the allocator's token for the memory of n places
  abbrev pub deed_owns : (Ty → Ptr → Fml) → Ptr → ℕ → Fml
  deed_owns token p n = token (raw (ty_array (lone R.mir) n)) p
