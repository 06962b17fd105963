-- Ways from the root of a tree down.
use Rattle.std.specs.Prelude.{◌≡◌, zero, suc, List, [], ◌∷◌, ◌++◌, slice_get, Some, Bool, false}
use Rattle.std.specs.List.{prefix_len}
use Rattle.rdb_pages.specs.declared.cell.CellRef.{CellRef}
use Rattle.rdb_tree.specs.Trees.{BTree, Each, Tree, Empty, Rooted}
use Rattle.rdb_tree.specs.declared.path.Step.{Step}

-- once one isn't on the near side, none behind it is
abbrev pub IsCut : (CellRef → Bool) → List CellRef → Type 0
IsCut near [] = Unit {0}
IsCut near (r ∷ rs) = (near r ≡ false → Each (λ q. near q ≡ false) rs) × IsCut near rs

-- The steps lead from a tree down to another, each past the keys on the near side into the child behind them. A step from a
-- leaf leads to an empty tree.
abbrev pub Leads : (CellRef → Bool) → Tree → List Step → Tree → Type 0
Leads near from [] to = from ≡ to
Leads near Empty (step ∷ steps) to = ⊥
Leads near (Rooted zero t) (step ∷ steps) to = (step.at ≡ t.at) × (step.place ≡ prefix_len near t.keys) × Leads near Empty steps to
Leads near (Rooted (suc h) t) (step ∷ steps) to =
    (step.at ≡ t.at) × (step.place ≡ prefix_len near t.keys) × ((c : BTree h) × (slice_get t.children step.place ≡ Some c) × Leads near (Rooted h c) steps to)

-- the path goes on by steps that lead from one tree to another
pub record GoesOnTo (near : CellRef → Bool) (before after : List Step) (from to : Tree) : Type 0 where
  pub steps : List Step
  pub path : after ≡ before ++ steps
  pub leads : Leads near from steps to
