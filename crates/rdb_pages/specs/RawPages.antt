-- How a `RawPages` keeps its pages.
use Rattle.std.specs.Prelude.{◌≡◌, length, map, is_some}
use Rattle.rdb_pages.specs.Pages.{IsRegion}
use Rattle.rdb_pages.specs.declared.raw_pages.RawPages.TheInside.{Inside}

-- the block holds a region, the table says which pages are claimed, and the deed is the block's
pub record IsLaidOut (p : Inside) : Type 0 where
  pub region : IsRegion p.block.held
  pub table : p.claimed.items ≡ map is_some p.block.held
  pub deed : (p.deed.start ≡ p.block.start) × (p.deed.len ≡ length p.block.held) × (p.deed.alloc ≡ p.alloc)
