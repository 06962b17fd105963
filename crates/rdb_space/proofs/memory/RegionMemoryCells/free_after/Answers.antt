use Rattle.std.proofs.Common.{◌<◌, ℕ, IfSome, IfNone, subst}
use Rattle.rdb_pages.specs.declared.cell.CellRef.{CellRef}
use Rattle.rdb_cells.specs.Images.{IsFree, IsNextFree}
use Rattle.rdb_space.specs.Memory.{RegionCells, image_of, class_of}
use Rattle.rdb_space.specs.Space.{IsFreeIn, IsNextFreeIn}
use Rattle.rdb_space.proofs.FreeLemmas.{next_free, none_free}
use Rattle.rdb_space.proofs.ImageLemmas.{now}
use Rattle.rdb_space.proofs.SpaceLemmas.{if_found, if_missing}
use Rattle.rdb_space.proofs.memory.RegionMemoryCells.free_after.Goals as goal

pub returns-clause-found : goal.returns-clause-found
returns-clause-found g c =
    let s = c.self.inside in
    let held = g.P.Pages.held s.pages in
    let kept = c.self.invariant in
    let m = now held s.space s.heads kept in
    let start = c.args.at.number in
    subst (λ (m : RegionCells). IfSome c.free_after.result (λ r. IsNextFree (image_of m) (class_of m) c.args.class start r.number)) c.self.view_is
    (if_found (λ (r : CellRef). IsNextFreeIn s.space.pages c.args.class start r.number) (λ (r : CellRef). IsNextFree (image_of m) (class_of m) c.args.class start r.number) c.free_after.result
    (λ r next. next_free held s.space s.heads kept c.args.class start r.number next) c.free_after.ensures.found)

pub returns-clause-none : goal.returns-clause-none
returns-clause-none g c =
    let s = c.self.inside in
    let held = g.P.Pages.held s.pages in
    let kept = c.self.invariant in
    let m = now held s.space s.heads kept in
    let start = c.args.at.number in
    subst (λ (m : RegionCells). IfNone c.free_after.result ((n : ℕ) → start < n → ¬ IsFree (image_of m) (class_of m) c.args.class n)) c.self.view_is
    (if_missing ((n : ℕ) → start < n → ¬ IsFreeIn s.space.pages c.args.class n) ((n : ℕ) → start < n → ¬ IsFree (image_of m) (class_of m) c.args.class n) c.free_after.result
    (λ none. none_free held s.space s.heads kept c.args.class start none) c.free_after.ensures.none)
