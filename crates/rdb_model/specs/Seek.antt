-- What the parts of a seek answer.
use Rattle.std.specs.Prelude.{◌≡◌, ℕ, ◌<◌, ◌≤◌, Bool, true, false, not, List, [], ◌∷◌, length, drop, Option, Some, None}
use Rattle.std.specs.Ordering.{is_lt}
use Rattle.rdb_base.specs.declared.value.Value.{Value}
use Rattle.rdb_model.specs.Database.{Row}
use Rattle.rdb_model.specs.Index.{key, pair_order}

-- the first value of the key at the fields from a place on, and a place behind its field, or that there is none
abbrev pub IsNextValue : List ℕ → Row → ℕ → Option (Value × ℕ) → Type 0
IsNextValue fields row from None = key (drop from fields) row ≡ []
IsNextValue fields row from (Some found) =
    (key (drop from fields) row ≡ found.0 ∷ key (drop found.1 fields) row) × (from < found.1) × (found.1 ≤ length fields)

-- whether a pair takes the place of the best so far: going up one that comes before it, going down one that doesn't
abbrev pub takes : Bool → Row × ℕ → Option (Row × ℕ) → Bool
takes up pair None = true
takes true pair (Some best) = is_lt (pair_order pair best)
takes false pair (Some best) = not (is_lt (pair_order pair best))
