-- Elements with room reserved for more.
use Rattle.std.specs.Prelude.{ℕ, List}

-- the elements in order, and how many more may be appended without memory
pub record Reserved (T : Type 0) : Type 0 where
  pub items : List T
  pub room : ℕ
