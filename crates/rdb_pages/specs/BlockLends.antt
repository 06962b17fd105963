-- What a block holds once a `&mut` to one of its values has ended.
use Rattle.std.specs.Prelude.{ℕ, List, Option, Some, slice_set}
use Rattle.std.specs.Borrow.{Fml, RattleType, MutBor, Lends}
use Rattle.rdb_pages.specs.declared.block.Block.{Block}
use Rattle.rdb_pages.specs.contracts.block.Block.{the_row}

-- the same block, holding cs
abbrev pub with_held : {X : Type 0} → Block X → List (Option X) → Block X
with_held b cs = record { start = b.start; held = cs }

-- the place at the index holds the last value written through r, and the others are as before
abbrev pub lends_place : (R : RattleType) → MutBor (Block R.Denot) → ℕ → MutBor R.Denot → Fml
lends_place R b index r = Lends (the_row R) R b r (λ w. with_held b.now (slice_set b.now.held index (Some w)))
