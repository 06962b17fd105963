-- What the lookup of an R-tree gives.
use Rattle.std.specs.Prelude.{Bool, false, List, map}
use Rattle.std.specs.List.{filter}
use Rattle.std.specs.Option.{option_map_or}
use Rattle.rdb_base.specs.declared.value.Rect.{Rect}
use Rattle.rdb_pages.specs.declared.cell.CellRef.{CellRef}
use Rattle.rdb_cells.specs.Keys.{Sayings}
use Rattle.rdb_rtree.specs.Boxes.{meets}
use Rattle.rdb_rtree.specs.Trees.{box_at}
use Rattle.rdb_rtree.specs.declared.entry.Entry.{Entry}

-- the version's box lies in the rectangle, or overlaps it
abbrev pub is_found : Sayings → Rect → Bool → CellRef → Bool
is_found said rect inside r = option_map_or (meets rect inside) (box_at said r) false

-- of these versions, those whose box lies in the rectangle, or overlaps it
abbrev pub found_in : Sayings → Rect → Bool → List CellRef → List CellRef
found_in said rect inside refs = filter (is_found said rect inside) refs

-- where those of the entries stand whose box lies in the rectangle, or overlaps it
abbrev pub matching : Rect → Bool → List Entry → List CellRef
matching rect inside entries = map (λ entry. entry.at) (filter (λ entry. meets rect inside entry.cover) entries)
