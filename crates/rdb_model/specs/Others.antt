-- The objects that a write has to get past.
use Rattle.std.specs.Prelude.{ℕ, List, Option, Some, None}
use Rattle.std.specs.List.{find}
use Rattle.std.specs.Option.{option_map}
use Rattle.rdb_model.specs.Database.{Row, Objects, without}
use Rattle.rdb_model.specs.Index.{has_key}

-- the objects, but for one that is left out
abbrev pub others : Option ℕ → Objects → Objects
others None objects = objects
others (Some id) objects = without objects id

-- the first object that has a key
abbrev pub first_with : List ℕ → Row → Objects → Option ℕ
first_with fields wanted objects = option_map (λ o. o.0) (find (λ o. has_key fields wanted o.1) objects)
