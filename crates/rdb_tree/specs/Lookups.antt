-- What the lookups of a tree index give.
use Rattle.std.specs.Prelude.{◌≡◌, ℕ, List, Option, Some, None, Bool, true, false, slice_get, take}
use Rattle.std.specs.List.{filter, last_or}
use Rattle.std.specs.Ordering.{is_eq, is_lt, is_le, is_gt}
use Rattle.std.specs.declared.cmp.Ordering.{Ordering}
use Rattle.rdb_base.specs.declared.operation.Place.{Place}
use Rattle.rdb_base.specs.declared.operation.Place.TheVariants.{Start, End, At}
use Rattle.rdb_base.specs.declared.value.Value.{Value}
use Rattle.rdb_pages.specs.declared.cell.CellRef.{CellRef}
use Rattle.rdb_cells.specs.Keys.{Sayings, Meaning}
use Rattle.rdb_tree.specs.Order.{goes}

-- the version has this key
abbrev pub has_key : Sayings → List Value → CellRef → Bool
has_key said key r = goes is_eq said key None r

-- the version is past the place, upwards or downwards: behind the start or before the end, or beyond the key and the id
abbrev pub is_past : Sayings → Place → Bool → CellRef → Bool
is_past said Start true r = true
is_past said Start false r = false
is_past said End true r = false
is_past said End false r = true
is_past said (At key id) true r = goes is_gt said key (Some id) r
is_past said (At key id) false r = goes is_lt said key (Some id) r

-- how a version goes against a place that is on its near side: before it, and upwards level with it, too
abbrev pub goes_near : Bool → Ordering → Bool
goes_near true = is_le
goes_near false = is_lt

-- the version is on the near side of a place that is sought upwards or downwards: it isn't past it, or it is
abbrev pub is_near : Sayings → Place → Bool → CellRef → Bool
is_near said Start up r = false
is_near said End up r = true
is_near said (At key id) up r = goes (goes_near up) said key (Some id) r

-- of versions in ascending order, the one that is met first upwards or downwards
abbrev pub first_met : Bool → List CellRef → Option CellRef
first_met true refs = slice_get refs 0
first_met false refs = last_or None refs

-- of versions in ascending order, the first one past the place
abbrev pub first_past : Sayings → Place → Bool → List CellRef → Option CellRef
first_past said place up listed = first_met up (filter (is_past said place up) listed)

-- a key that stands in a place has the types of the index's fields
abbrev pub PlaceFits : Meaning → Place → Type 0
PlaceFits keys (At key id) = keys.fits key ≡ true
PlaceFits keys _ = Unit {0}

-- the first that is there
abbrev pub first_of : Option CellRef → Option CellRef → Option CellRef
first_of None other = other
first_of (Some r) other = Some r

-- the key next to so many on the near side, upwards or downwards
abbrev pub key_beyond : Bool → ℕ → List CellRef → Option CellRef
key_beyond true near keys = slice_get keys near
key_beyond false near keys = last_or None (take near keys)
