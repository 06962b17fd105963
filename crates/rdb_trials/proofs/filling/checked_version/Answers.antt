use Rattle.std.proofs.Common.{◌<◌, ◌≤◌, length, rules}
use Rattle.rdb_cells.specs.Memory.{memory_image}
use Rattle.rdb_trials.proofs.FillLemmas.{checked_one}
use Rattle.rdb_trials.proofs.filling.checked_version.Goals as goal

pub returns : goal.returns
returns g c listed below =
    let within : c.of_cell-header.result.first_row.number < length c.args.keys.now.rows = search rules in
    let above : c.args.bound ≤ c.of_cell-header.result.id = search rules in
    checked_one c.args.keys.now.rows (memory_image c.args.cells.now) c.args.version c.header_at.result.now c.args.bound c.of_cell-header.result
    c.header_at.ensures.held c.header_at.ensures.kind c.of_cell-header.ensures.value within above listed below
