-- Where an id is among objects, or where it would go.
use Rattle.std.specs.Prelude.{◌≡◌, ℕ, ◌<◌, ◌≤◌, length}
use Rattle.rdb_model.specs.Database.{Objects, id_at}

-- the object at the place has the id
pub record IsAt (objects : Objects) (id place : ℕ) : Type 0 where
  pub in_range : place < length objects
  pub has_id : id_at objects place ≡ id

-- smaller ids before the place, and greater ones from it on
pub record IsGapFor (objects : Objects) (id place : ℕ) : Type 0 where
  pub in_range : place ≤ length objects
  pub smaller_before : (i : ℕ) → i < place → id_at objects i < id
  pub greater_after : (i : ℕ) → place ≤ i → i < length objects → id < id_at objects i
