-- The plain indexes: keys, and the pairs of a key and an id in order.
use Rattle.std.specs.Prelude.{ℕ, Bool, List, [], ◌∷◌, slice_get, if◌then◌else◌}
use Rattle.std.specs.List.{filter_map}
use Rattle.std.specs.Ordering.{ordering_then, nat_cmp, is_eq, is_lt}
use Rattle.std.specs.declared.cmp.Ordering.{Ordering}
use Rattle.rdb_base.specs.Order.{row_order}
use Rattle.rdb_model.specs.Database.{Row, Objects}

-- the values of a row at the fields of a key
abbrev pub key : List ℕ → Row → Row
key fields row = filter_map (slice_get row) fields

-- whether a row has that key
abbrev pub has_key : List ℕ → Row → Row → Bool
has_key fields wanted row = is_eq (row_order (key fields row) wanted)

-- the order of an index: by key, then by id
abbrev pub pair_order : Row × ℕ → Row × ℕ → Ordering
pair_order p q = ordering_then (row_order p.0 q.0) (nat_cmp p.1 q.1)

-- the pairs in order with one more, put before the first that is after it
abbrev pub with_pair : Row × ℕ → List (Row × ℕ) → List (Row × ℕ)
with_pair p [] = p ∷ []
with_pair p (q ∷ qs) = if is_lt (pair_order p q) then p ∷ q ∷ qs else q ∷ with_pair p qs

-- the key and the id of an object
abbrev pub pair_of : List ℕ → ℕ × Row → Row × ℕ
pair_of fields object = (key fields object.1, object.0)

-- the pairs of a key and an id of each object, in order
abbrev pub index : List ℕ → Objects → List (Row × ℕ)
index fields [] = []
index fields (o ∷ os) = with_pair (pair_of fields o) (index fields os)
