-- A `&` to a block reaches each value. Assumes `Logic`.
use mathlib.Core.List.{[], ◌++◌}
use base.Fml.{Incl-trans}
use contract.BorrowLft.{meet_⊑_left}
use denote.RattleType.{RattleType}
use denote.Param.Laws.{Laws}
use denote.Param.Shared.{copy_shared}
use denote.Shares.{Shares-less}
use denote.Struct.Field.{RawPtr-field}
use denote.Struct.Laws.{RawPtr-copy}
use denote.Struct.Lending.{of_Lends}
use Rattle.rdb_pages.specs.contracts.block.Block as B
use Rattle.rdb_pages.proofs.Lending.{block_lends_laws, lends_block}
use Rattle.rdb_pages.proofs.block.Block.TheLaw.Statement.{statement}

pub shares : (R : RattleType) (L : Laws R) → statement R L
shares R L = of_Lends (B.struct R) (B.the_codes R.Denot R.coded) (B.the_heap R) (B.the_lent R)
    (λ d p. block_lends_laws R L.shr_laws d.start d.held) (copy_shared RawPtr-field RawPtr-copy, tt)
    (λ M 𝓤 𝓛 d p. let l = (B.the_row R).lives in
    lends_block 𝓛 l R (Shares-less 𝓛 R R.lives l (Incl-trans (meet_⊑_left (R.lives ++ []) _) (meet_⊑_left R.lives [])) (L.shares 𝓛)) d.start d.held)
