use Rattle.std.proofs.Common.{◌≤◌, ◌+◌, [], length, subst, Bor, arith, rules}
use Rattle.rdb_cells.specs.Memory.{Memory, memory_image, memory_class}
use Rattle.rdb_cells.specs.Overlays.{Laid}
use Rattle.rdb_cells.specs.Untaken.{HasUntaken}
use Rattle.rdb_rows.specs.Rows.{cells_for}
use Rattle.rdb_rows.proofs.Rooms.{fresh_overlay}
use Rattle.rdb_rows.proofs.tests.check_put.Goals as goal

pub put_version-version-requires-clause-free : goal.put_version-version-requires-clause-free
put_version-version-requires-clause-free g c =
    let short : length c.as_slice.result.now ≤ 4000 = search rules in
    let cells = c.in_ok-cells.cells in
    subst (λ (o : Laid (Bor Memory)). HasUntaken o.plan.pairs (memory_image o.cells.now) (memory_class o.cells.now) o.class o.taken.number (cells_for (length c.as_slice.result.now) + 1))
    (fresh_overlay _ 0 200 c.over-overlay.result c.in_ok-plan.plan c.over-overlay.ensures c.in_ok-plan.ensures)
    (c.fewer_cells_are_left.ensures (record { below = memory_image cells; class_of = memory_class cells; pairs = []; room = 200; class = 0; taken = 0 }) (cells_for (length c.as_slice.result.now) + 1) 68 (omega arith) c.has_free.ensures)
