-- Linked structures rest on their cells. The laws of indexes cite this, so no tactic stands here.
use Rattle.std.specs.Prelude.{◌≡◌, ℕ, List, [], ◌∷◌, refl}
use mathlib.Core.Logic.{inl, inr}
use mathlib.Core.Path.{◌∙◌}
use Rattle.rdb_cells.specs.Images.{Image}
use Rattle.rdb_cells.specs.Links.{IsAmong, SameOn, Node, Format, IsHeld, Stand, StandApart, numbers, Placed, segment, IsChain, Forest, grown, AreTrees}

module _ {A : Type 0} (format : Format A) (before after : Image) where
  still_held : (x : Node A) → after x.number ≡ before x.number → IsHeld format before x → IsHeld format after x
  still_held x same held = record { some = held.some; cell = held.cell; here = same ∙ held.here; written = held.written }

  -- the same cells, the same nodes
  pub still_stand : (nodes : List (Node A)) → SameOn (numbers nodes) before after → Stand format before nodes → Stand format after nodes
  still_stand [] same stand = tt
  still_stand (x ∷ xs) same stand = (still_held x (same x.number (inl refl)) stand.0, still_stand xs (λ n within. same n (inr within)) stand.1)

  pub still_apart : (nodes : List (Node A)) → SameOn (numbers nodes) before after → StandApart format before nodes → StandApart format after nodes
  still_apart nodes same apart = record { stand = still_stand nodes same apart.stand; once = apart.once }

  -- the same cells, the same chain
  pub still_chain : (first : ℕ) (chain : List (Placed A)) → SameOn (numbers (segment chain 0)) before after → IsChain format before first chain → IsChain format after first chain
  still_chain first chain same is = record { begins = is.begins; nodes = still_apart (segment chain 0) same is.nodes }

  -- the same cells, the same trees
  pub still_trees : (first : List ℕ) (trees : Forest A) → SameOn (numbers (grown trees)) before after → AreTrees format before first trees → AreTrees format after first trees
  still_trees first trees same are = record { begin = are.begin; nodes = still_apart (grown trees) same are.nodes }

-- the node of a number
pub node_of : {A : Type 0} (format : Format A) (image : Image) (nodes : List (Node A)) (n : ℕ) → Stand format image nodes → IsAmong (numbers nodes) n → (x : Node A) × (x.number ≡ n) × IsHeld format image x
node_of format image (x ∷ xs) n stand (inl same) = (x, same, stand.0)
node_of format image (x ∷ xs) n stand (inr within) = node_of format image xs n stand.1 within
node_of format image [] n stand within = absurd within
