-- A `&` to a block of places is made where one to a value is. Assumes `Logic`.
use Prim.Native.Nat.{ℕ, ◌+◌}
use Rattle.std.specs.Prelude.{List, [], ◌∷◌, Option, Some, None}
use Rattle.std.specs.Mem.{type_size}
use seplogic.Ra.Ura.{Ura}
use base.Fml.{Lft, ftrue, ffalse}
use types.Logic.{Logic}
use denote.RattleType.{RattleType, RowLaws}
use denote.RawPtr.{Ptr, block_ptr, null_ptr}
use denote.Shares.{Shares}
use denote.Sharing.{ShrLaws, said}
use denote.SharingLaws.{beside_shr_laws, nothing_shr_laws, said_shr_laws}
use denote.Struct.Lending.{Lends, Lends-both, Lends-nothing, Lends-said, Lends-false}
use Rattle.rdb_pages.specs.Block.{place_owns, places_own, place_lends, places_lend, within_limit, block_owns, block_lends}

-- what a `&` holds can be copied and used at a shorter lifetime
module _ (R : RattleType) (laws : RowLaws R) where
  of_place : (b o : ℕ) (c : Option R.Denot) → ShrLaws (place_lends R b o c)
  of_place b o None = nothing_shr_laws
  of_place b o (Some x) = laws x b o

  of_places : (b o : ℕ) (cs : List (Option R.Denot)) → ShrLaws (places_lend R b o cs)
  of_places b o [] = nothing_shr_laws
  of_places b o (c ∷ cs) = beside_shr_laws _ _ (of_place b o c) (of_places b (o + type_size R) cs)

  pub block_lends_laws : (p : Ptr) (cs : List (Option R.Denot)) → ShrLaws (block_lends R p cs)
  block_lends_laws null_ptr cs = said_shr_laws ffalse tt
  block_lends_laws (block_ptr b o) cs = beside_shr_laws _ _ (said_shr_laws (within_limit R cs) tt) (of_places b o cs)

-- what the owner has can be lent
module _ {M : Type 1} {𝓤 : Ura M} (𝓛 : Logic 𝓤) (l : Lft) (R : RattleType) (value : Shares 𝓛 R l) where
  lends_place : (b o : ℕ) (c : Option R.Denot) → Lends 𝓛 (place_owns R b o c) (place_lends R b o c) l
  lends_place b o None = Lends-nothing 𝓛 (place_owns R b o None) l
  lends_place b o (Some x) = λ κ ts. value x κ ts b o

  lends_places : (b o : ℕ) (cs : List (Option R.Denot)) → Lends 𝓛 (places_own R b o cs) (places_lend R b o cs) l
  lends_places b o [] = Lends-nothing 𝓛 ftrue l
  lends_places b o (c ∷ cs) = let next = o + type_size R in
      Lends-both 𝓛 (place_owns R b o c) (places_own R b next cs) (place_lends R b o c) (places_lend R b next cs) l (lends_place b o c) (lends_places b next cs)

  pub lends_block : (p : Ptr) (cs : List (Option R.Denot)) → Lends 𝓛 (block_owns R p cs) (block_lends R p cs) l
  lends_block null_ptr cs = Lends-false 𝓛 (said ffalse) l
  lends_block (block_ptr b o) cs = let limit = within_limit R cs in
      Lends-both 𝓛 limit (places_own R b o cs) (said limit) (places_lend R b o cs) l (Lends-said 𝓛 limit tt l) (lends_places b o cs)
