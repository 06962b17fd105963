-- An empty R-tree, with keys that are all one box.
use Rattle.std.proofs.Common.{◌≡◌, ◌<◌, ℕ, List, [], Option, Some, IsSome, sym, ap, subst, arith, rules}
use Rattle.std.specs.List.{Contains}
use Rattle.rdb_base.specs.declared.value.Value.{Value}
use Rattle.rdb_pages.specs.declared.cell.Cell.{Cell}
use Rattle.rdb_pages.specs.declared.cell.CellRef.{CellRef}
use Rattle.rdb_cells.specs.declared.kind.Kind.TheVariants as kind
use Rattle.rdb_cells.specs.HeadFormat.{index_head_cell, empty_index_head}
use Rattle.rdb_cells.specs.Images.{Image}
use Rattle.rdb_cells.specs.Index.{LacksVersion}
use Rattle.rdb_cells.specs.Keys.{Version, says}
use Rattle.rdb_cells.specs.OneKey.{one_meaning, held_is}
use Rattle.rdb_cells.specs.Words.{IsOfKind}
use Rattle.rdb_cells.proofs.KeyLemmas.{held_version}
use Rattle.rdb_rtree.specs.Nature.{IsBoxKey, rtree_nature}
use Rattle.rdb_rtree.specs.RtreeLaws.{rtree_starts_empty}

nothing_there : (x : CellRef) → ¬ Contains [] x
nothing_there x within = let below : within.0 < 0 = within.1 in absurd (omega arith)

pub lacks_it : (key : List Value) (image : Image) (class head : ℕ) (version : CellRef) (cell : Cell) → image head ≡ Some (index_head_cell empty_index_head) → image version.number ≡ Some cell → IsOfKind cell kind.Version → IsBoxKey key → LacksVersion (rtree_nature class head) (one_meaning key) image version
lacks_it key image class head version cell empty held is_header boxed = record {
  listed = [];
  nodes = [];
  lists = rtree_starts_empty class head (says (one_meaning key) image) image empty;
  unlisted = record {
    keyed = subst (λ (o : Option Version). IsSome o) (sym (held_version key (image version.number) cell held is_header)) (search rules);
    itself = nothing_there version;
    otherwise = λ r within. absurd (nothing_there r within);
  };
  taken = λ v is. subst IsBoxKey (sym (ap (λ (u : Version). u.key) (held_is key (image version.number) v is).3)) boxed;
}
