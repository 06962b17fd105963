-- In which cells what a class has stands.
use Rattle.std.specs.Prelude.{ℕ, List}

-- the parts of what a class has in its pages: the slots of its objects; of each version, by the number of its header, the header and
-- the cells of its row; and of each index, by its place, its nodes
pub data Part : Type 0 where
  Slots : Part
  OfVersion : ℕ → Part
  OfIndex : ℕ → Part

-- the cells of each part
pub record Layout : Type 0 where
  pub slots : List ℕ
  pub of_version : ℕ → List ℕ
  pub of_index : ℕ → List ℕ

abbrev pub cells_in : Layout → Part → List ℕ
cells_in layout Slots = layout.slots
cells_in layout (OfVersion header) = layout.of_version header
cells_in layout (OfIndex place) = layout.of_index place
