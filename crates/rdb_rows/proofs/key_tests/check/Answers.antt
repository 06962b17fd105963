use Rattle.std.proofs.Common.{◌≤◌, ◌+◌, ℕ, [], length, refl, subst, Bor, arith, rules}
use Rattle.rdb_cells.specs.Memory.{Memory, memory_image, memory_class}
use Rattle.rdb_cells.specs.Overlays.{Laid}
use Rattle.rdb_cells.specs.Records.{planned}
use Rattle.rdb_cells.specs.Untaken.{HasUntaken}
use Rattle.rdb_rows.specs.RowKeys.{key_shape}
use Rattle.rdb_rows.specs.Rows.{cells_for}
use Rattle.rdb_rows.proofs.KeyTests.{has_key}
use Rattle.rdb_rows.proofs.Rooms.{fresh_overlay}
use Rattle.rdb_rows.proofs.key_tests.check.Goals as goal

pub put_version-a-requires-clause-free : goal.put_version-a-requires-clause-free
put_version-a-requires-clause-free g c =
    let short : length c.as_slice.result.now ≤ 4000 = search rules in
    let cells = c.in_ok-cells.cells in
    subst (λ (o : Laid (Bor Memory)). HasUntaken o.plan.pairs (memory_image o.cells.now) (memory_class o.cells.now) o.class o.taken.number (cells_for (length c.as_slice.result.now) + 1))
    (fresh_overlay _ 0 200 c.over-overlay.result c.in_ok-plan.plan c.over-overlay.ensures c.in_ok-plan.ensures)
    (c.fewer_cells_are_left.ensures (record { below = memory_image cells; class_of = memory_class cells; pairs = []; room = 200; class = 0; taken = 0 }) (cells_for (length c.as_slice.result.now) + 1) 136 (omega arith) c.has_free.ensures)

pub put_version-b-requires-clause-free : goal.put_version-b-requires-clause-free
put_version-b-requires-clause-free g c =
    let first : length c.as_slice.result.now ≤ 4000 = search rules in
    let second : length c.as_slice-2.result.now ≤ 4000 = search rules in
    let cells = c.in_ok-cells.cells in
    let many : ℕ = cells_for (length c.as_slice-2.result.now) + 1 + (cells_for (length c.as_slice.result.now) + 1) in
    c.put_version-a.ensures.takes.enough (cells_for (length c.as_slice-2.result.now) + 1)
    (subst (λ (o : Laid (Bor Memory)). HasUntaken o.plan.pairs (memory_image o.cells.now) (memory_class o.cells.now) o.class o.taken.number many)
    (fresh_overlay _ 0 200 c.over-overlay.result c.in_ok-plan.plan c.over-overlay.ensures c.in_ok-plan.ensures)
    (c.fewer_cells_are_left.ensures (record { below = memory_image cells; class_of = memory_class cells; pairs = []; room = 200; class = 0; taken = 0 }) many 136 (omega arith) c.has_free.ensures))

pub check_keys-found-requires-clause-first : goal.check_keys-found-requires-clause-first
check_keys-found-requires-clause-first g c =
    let laid = c.put_version-b.new.cells in
    let image = planned laid.plan.pairs (memory_image laid.cells.now) in
    let stays = c.a_put_version_keeps_the_others.ensures _ _ c.put_version-b.result.number c.put_version-a.result.number _ _ _ c.put_version-b.ensures.puts c.put_version-a.ensures.puts.holds in
    has_key c.in_ok-keys.keys (key_shape c.in_ok-schema.schema 0 0) image c.put_version-a.result _ _ _ c.as_slice.result.now c.in_ok-first.first
    c.in_ok-keys.ensures stays refl c.as_slice.ensures c.in_ok-first.ensures.encodes

pub check_keys-found-requires-clause-second : goal.check_keys-found-requires-clause-second
check_keys-found-requires-clause-second g c =
    let laid = c.put_version-b.new.cells in
    let image = planned laid.plan.pairs (memory_image laid.cells.now) in
    has_key c.in_ok-keys.keys (key_shape c.in_ok-schema.schema 0 0) image c.put_version-b.result _ _ _ c.as_slice-2.result.now c.in_ok-second.second
    c.in_ok-keys.ensures c.put_version-b.ensures.puts.holds refl c.as_slice-2.ensures c.in_ok-second.ensures.encodes

pub check_reads-requires-clause-version : goal.check_reads-requires-clause-version
check_reads-requires-clause-version g c =
    let laid = c.put_version-b.new.cells in
    let image = planned laid.plan.pairs (memory_image laid.cells.now) in
    let stays = c.a_put_version_keeps_the_others.ensures _ _ c.put_version-b.result.number c.put_version-a.result.number _ _ _ c.put_version-b.ensures.puts c.put_version-a.ensures.puts.holds in
    has_key c.in_ok-keys.keys (key_shape c.in_ok-schema.schema 0 0) image c.put_version-a.result _ _ _ c.as_slice.result.now c.in_ok-first.first
    c.in_ok-keys.ensures stays refl c.as_slice.ensures c.in_ok-first.ensures.encodes

pub check_reads-requires-2-clause-version : goal.check_reads-requires-2-clause-version
check_reads-requires-2-clause-version g c =
    let laid = c.put_version-b.new.cells in
    let image = planned laid.plan.pairs (memory_image laid.cells.now) in
    has_key c.in_ok-keys.keys (key_shape c.in_ok-schema.schema 0 0) image c.put_version-b.result _ _ _ c.as_slice-2.result.now c.in_ok-second.second
    c.in_ok-keys.ensures c.put_version-b.ensures.puts.holds refl c.as_slice-2.ensures c.in_ok-second.ensures.encodes
