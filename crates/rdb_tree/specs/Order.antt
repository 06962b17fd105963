-- The order of listed versions, by what the keys of their index say.
use Rattle.std.specs.Prelude.{◌≡◌, ℕ, List, [], ◌∷◌, Contains, Option, Some, None, IsSome, Bool}
use Rattle.std.specs.Option.{option_map}
use Rattle.std.specs.Ordering.{is_some_and, is_lt}
use Rattle.std.specs.declared.cmp.Ordering.{Ordering}
use Rattle.std.specs.declared.cmp.Ordering.TheVariants.{Less}
use Rattle.rdb_base.specs.declared.value.Value.{Value}
use Rattle.rdb_pages.specs.declared.cell.CellRef.{CellRef}
use Rattle.rdb_cells.specs.Keys.{Version, Sayings, version_order, key_order}
use Rattle.rdb_tree.specs.Trees.{Each}

-- how two versions go, where both are there
abbrev pub order_of_both : Option Version → Option Version → Option Ordering
order_of_both (Some v) (Some w) = Some (version_order v w)
order_of_both _ _ = None

-- of two versions the first goes before the second
pub record IsBefore (said : Sayings) (a b : CellRef) : Type 0 where
  pub first : Version
  pub second : Version
  pub is_first : said.version_of a.number ≡ Some first
  pub is_second : said.version_of b.number ≡ Some second
  pub less : version_order first second ≡ Less

-- each of the versions goes before all that follow it
abbrev pub AreAscending : Sayings → List CellRef → Type 0
AreAscending said [] = Unit {0}
AreAscending said (r ∷ rs) = Each (IsBefore said r) rs × AreAscending said rs

-- how a version goes against a key and, where one is given, then an id
abbrev pub order_against : Sayings → List Value → Option ℕ → CellRef → Option Ordering
order_against said key id r = option_map (λ v. key_order v key id) (said.version_of r.number)

-- a version goes so against a key and an id
abbrev pub goes : (Ordering → Bool) → Sayings → List Value → Option ℕ → CellRef → Bool
goes test said key id r = is_some_and test (order_against said key id r)

-- the version at the second reference goes before the one at the first
abbrev pub is_before : Sayings → CellRef → CellRef → Bool
is_before said version r = is_some_and is_lt (order_of_both (said.version_of r.number) (said.version_of version.number))

-- each of the versions has a key, and they ascend
pub record AreKeyed (said : Sayings) (listed : List CellRef) : Type 0 where
  pub keyed : (r : CellRef) → Contains listed r → IsSome (said.version_of r.number)
  pub ascending : AreAscending said listed
